use Rattle.std.proofs.Common.{◌≡◌, ℕ}
use Rattle.measures.specs.Greatest.{greatest}
use Rattle.measures.proofs.greatest.Given as goal

abbrev pub invariant-loop-supply : goal.invariant-loop-supply
invariant-loop-supply g l = (f : ℕ → ℕ) → ((s y : ℕ) → goal.F-post g l.of s y → y ≡ f s) → l.greatest ≡ greatest l.supply f
