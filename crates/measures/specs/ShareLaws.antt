-- A larger amount never has a smaller share.
use Rattle.std.proofs.Common.{sym, ◌∙◌, le_trans, le_of_eq, zero-lt-suc, mul-le-mul_right, div-mul-le_self, arith}
use Rattle.std.specs.Prelude.{ℕ, zero, suc, ◌/◌, ◌≤◌, min}
use Rattle.std.proofs.Math.Nat.{div-zero}
use Rattle.std.proofs.lemmas.Nat.{le-div}
use Rattle.measures.specs.Shares.{share_of}

-- a quotient grows with what is divided
div_grows : (k : ℕ) {m n : ℕ} → m ≤ n → m / k ≤ n / k
div_grows zero {m} {n} h = le_of_eq (div-zero m ∙ sym (div-zero n))
div_grows (suc k) {m} {n} h = le-div (m / suc k) n (suc k) (zero-lt-suc k) (le_trans (div-mul-le_self m (suc k)) h)

pub share_grows : (a b c : ℕ) → a ≤ b → share_of a c ≤ share_of b c
unfolding share_of
share_grows a b c h = let within : min a c ≤ min b c = omega arith in div_grows c (mul-le-mul_right 1048576 within)
