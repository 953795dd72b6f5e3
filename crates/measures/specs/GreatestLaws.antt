-- Laws of the greatest of the first values of a function.
use Rattle.std.specs.Prelude.{◌≡◌, ℕ, zero, suc, ◌+◌, ◌<◌, ◌≤◌, max, refl}
use Rattle.std.proofs.Common.{sym, ap, ap₂, ◌∙◌, add-one, arith}
use Rattle.std.proofs.Math.Nat.{max-le}
use Rattle.measures.specs.Greatest.{greatest}

-- a loop's start, step and end
pub greatest_none : (f : ℕ → ℕ) → 0 ≡ greatest 0 f
unfolding greatest
greatest_none f = refl

pub greatest_more : (n : ℕ) (f : ℕ → ℕ) (best x next : ℕ) → best ≡ greatest n f → x ≡ f n → next ≡ max best x → next ≡ greatest (n + 1) f
unfolding greatest
greatest_more n f best x next b e m = m ∙ ap₂ max b e ∙ ap (λ k. greatest k f) (sym (add-one n))

pub greatest_all : (n k : ℕ) (f : ℕ → ℕ) (best : ℕ) → k ≤ n → n ≤ k → best ≡ greatest k f → best ≡ greatest n f
greatest_all n k f best h l b = let e : k ≡ n = omega arith in b ∙ ap (λ i. greatest i f) e

pub greatest_most : (n most : ℕ) (f : ℕ → ℕ) → ((s : ℕ) → s < n → f s ≤ most) → greatest n f ≤ most
unfolding greatest
greatest_most zero most f h = omega arith
greatest_most (suc n) most f h = max-le (greatest_most n most f (λ s l. h s (omega arith))) (h n (omega arith))

pub greatest_grows : (n : ℕ) (f g : ℕ → ℕ) → ((s : ℕ) → s < n → f s ≤ g s) → greatest n f ≤ greatest n g
unfolding greatest
greatest_grows zero f g h = omega arith
greatest_grows (suc n) f g h =
    let below = greatest_grows n f g (λ s l. h s (omega arith)) in
    let here = h n (omega arith) in
    omega arith

pub greatest_same : (n : ℕ) (f g : ℕ → ℕ) → ((s : ℕ) → s < n → f s ≡ g s) → greatest n f ≡ greatest n g
unfolding greatest
greatest_same zero f g h = refl
greatest_same (suc n) f g h = ap₂ max (greatest_same n f g (λ s l. h s (omega arith))) (h n (omega arith))
