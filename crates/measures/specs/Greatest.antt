-- The greatest of the first values of a function, 0 of none.
use Rattle.std.specs.Prelude.{ℕ, zero, suc, max}

unfoldable pub greatest : ℕ → (ℕ → ℕ) → ℕ
greatest zero f = 0
greatest (suc n) f = max (greatest n f) (f n)
