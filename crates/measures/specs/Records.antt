-- Past records: a new one, and one that was brought to a tick.
use Rattle.std.specs.Prelude.{ℕ, zero, suc, ◌^◌, ◌≤◌, List, [], ◌∷◌, slice_index}
use Rattle.std.proofs.Common.{lit≤, arith}
use Rattle.std.proofs.Math.Nat.{min-le_right}
use Rattle.measures.specs.declared.past_record.PastRecord.{PastRecord}
use Rattle.measures.specs.declared.account.Account.{Account}
use Rattle.measures.specs.declared.site.Site.{Site}
use Rattle.measures.specs.Clock.{on_clock}
use Rattle.measures.specs.Sites.{part_due, commitment_in}
use Rattle.measures.specs.Bounds.{commitment_in_most}

-- a number for each of the four supplies
abbrev pub row : (ℕ → ℕ) → List ℕ
row f = f 0 ∷ f 1 ∷ f 2 ∷ f 3 ∷ []

pub row_most : (f : ℕ → ℕ) (most : ℕ) → ((s : ℕ) → f s ≤ most) → (s : ℕ) → slice_index (row f) s ≤ most
row_most f most h zero = h 0
row_most f most h (suc zero) = h 1
row_most f most h (suc (suc zero)) = h 2
row_most f most h (suc (suc (suc zero))) = h 3
row_most f most h (suc (suc (suc (suc s)))) = omega arith

-- a record of nothing, at tick 0
abbrev pub new_past : PastRecord
new_past = record {
  commitments = row (λ _. 0);
  stamp = 0;
  no_commitment_above_the_whole = row_most (λ _. 0) 1048576 (λ _. lit≤ tt);
  stamped_on_the_clock = lit≤ tt;
}

-- the commitments at a tick, stamped with it
unfoldable pub brought_to : Site → Account → ℕ → PastRecord
brought_to g a t = record {
  commitments = row (commitment_in g (part_due g a) a t);
  stamp = on_clock t;
  no_commitment_above_the_whole = row_most (commitment_in g (part_due g a) a t) 1048576 (commitment_in_most g (part_due g a) a t);
  stamped_on_the_clock = min-le_right t (2 ^ 62);
}
