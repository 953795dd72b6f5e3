-- Records, holdings and sites are told apart by their numbers, and rows by their entries.
use Rattle.std.specs.Prelude.{◌≡◌, ℕ, zero, suc, ◌^◌, ◌<◌, ◌≤◌, [], ◌∷◌, length, slice_index, refl}
use Rattle.std.proofs.Common.{arith}
use mathlib.Core.HLevel.{is_prop→PathP}
use Rattle.std.proofs.Math.Bridge.{le_prop}
use Rattle.std.proofs.Math.Nat.{ℕ_set}
use Rattle.measures.specs.declared.holding.Holding.{Holding}
use Rattle.measures.specs.declared.past_record.PastRecord.{PastRecord}
use Rattle.measures.specs.declared.site.Site.{Site}
use Rattle.measures.specs.Records.{row}
use Rattle.measures.specs.Sites.{made_of}

-- the facts in a record have one proof at most
pub same_past : (p q : PastRecord) → p.commitments ≡ q.commitments → p.stamp ≡ q.stamp → p ≡ q
same_past p q e n j = record {
  commitments = e j;
  stamp = n j;
  no_commitment_above_the_whole = is_prop→PathP (λ k. (s : ℕ) → slice_index (e k) s ≤ 1048576) (λ k f g i s. le_prop (f s) (g s) i) p.no_commitment_above_the_whole q.no_commitment_above_the_whole j;
  stamped_on_the_clock = is_prop→PathP (λ k. n k ≤ 2 ^ 62) (λ k. le_prop) p.stamped_on_the_clock q.stamped_on_the_clock j;
}

pub same_holding : (h k : Holding) → h.each ≡ k.each → h ≡ k
same_holding h k e j = record {
  each = e j;
  one_for_each_supply = is_prop→PathP (λ i. length (e i) ≡ 4) (λ i. ℕ_set (length (e i)) 4) h.one_for_each_supply k.one_for_each_supply j;
}

pub same_site : (g h : Site) → made_of g ≡ made_of h → g ≡ h
same_site g h e j = record {
  capacity = (e j).0;
  supplies = (e j).1;
  part = (e j).2;
  at_most_four_supplies = is_prop→PathP (λ i. (e i).1 ≤ 4) (λ i. le_prop) g.at_most_four_supplies h.at_most_four_supplies j;
}

pub row_at : (f : ℕ → ℕ) (s : ℕ) → s < 4 → slice_index (row f) s ≡ f s
row_at f zero l = refl
row_at f (suc zero) l = refl
row_at f (suc (suc zero)) l = refl
row_at f (suc (suc (suc zero))) l = refl
row_at f (suc (suc (suc (suc s)))) l = absurd (omega arith)

pub row_same : (f g : ℕ → ℕ) → ((s : ℕ) → s < 4 → f s ≡ g s) → row f ≡ row g
row_same f g h j = h 0 (omega arith) j ∷ h 1 (omega arith) j ∷ h 2 (omega arith) j ∷ h 3 (omega arith) j ∷ []
