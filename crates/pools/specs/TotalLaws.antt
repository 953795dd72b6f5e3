-- Laws of totals: how sums, comparisons and loads go together.
use Rattle.std.specs.Prelude.{◌≡◌, ℕ, ◌*◌, ◌^◌, ◌≤◌, true}
use Rattle.std.proofs.Common.{mul-le-mul_left, arith}
use Rattle.std.proofs.lemmas.Bool.Decides.{nat_tests}
use Rattle.pools.specs.Totals.{Total, uniform, nothing, max_amounts, in_each, plus, is_within, Within, load}
use Rattle.pools.specs.Ranges.{max_weights}

-- the test and the fact
pub test_within : {a b : Total} → is_within a b ≡ true → Within a b
test_within h = record { w0 = grind (arith, nat_tests); w1 = grind (arith, nat_tests); w2 = grind (arith, nat_tests); w3 = grind (arith, nat_tests) }

pub within_test : {a b : Total} → Within a b → is_within a b ≡ true
within_test h = grind (arith, nat_tests)

pub within_trans : {a b c : Total} → Within a b → Within b c → Within a c
within_trans h k = record { w0 = omega arith; w1 = omega arith; w2 = omega arith; w3 = omega arith }

pub nothing_within : (a : Total) → Within nothing a
nothing_within a = record { w0 = omega arith; w1 = omega arith; w2 = omega arith; w3 = omega arith }

pub within_sum : (a b : Total) → Within a (plus a b)
within_sum a b = record { w0 = omega arith; w1 = omega arith; w2 = omega arith; w3 = omega arith }

pub sum_grows : {a b : Total} (c : Total) → Within a b → Within (plus a c) (plus b c)
sum_grows c h = record { w0 = omega arith; w1 = omega arith; w2 = omega arith; w3 = omega arith }

pub second_within : (a b : Total) → Within b (plus a b)
second_within a b = record { w0 = omega arith; w1 = omega arith; w2 = omega arith; w3 = omega arith }

-- a sum without its first part
pub sum_without : (a b c : Total) → Within (plus b c) (plus (plus a b) c)
sum_without a b c = sum_grows c (second_within a b)

term_bound : (w n : ℕ) → w ≤ 1024 → n ≤ 4294967295 → w * n ≤ 2 ^ 42
term_bound w n h k = let most : w * n ≤ w * 4294967295 = mul-le-mul_left w k in omega (arith, most)

-- a weight in range times an amount of 32 bits has at most 42 bits
pub terms_bounded : {w t : Total} → Within w max_weights → Within t max_amounts → Within (in_each ◌*◌ w t) (uniform (2 ^ 42))
terms_bounded h k = record { w0 = term_bound _ _ h.w0 k.w0; w1 = term_bound _ _ h.w1 k.w1; w2 = term_bound _ _ h.w2 k.w2; w3 = term_bound _ _ h.w3 k.w3 }

-- a smaller total has no larger load
pub load_grows : (w : Total) {t u : Total} → Within t u → load w t ≤ load w u
load_grows w h =
    omega (arith, mul-le-mul_left w.s0 h.w0, mul-le-mul_left w.s1 h.w1, mul-le-mul_left w.s2 h.w2, mul-le-mul_left w.s3 h.w3)
