-- Laws of the decay, and a table that passes one computed test follows its rule.
use Rattle.std.specs.Prelude.{◌≡◌, ℕ, zero, suc, ◌+◌, ◌-◌, ◌*◌, ◌/◌, ◌<◌, ◌≤◌, min, Bool, true, ◌&&◌, List, [], ◌∷◌, length, ◌==◌, slice_index, refl}
use Rattle.std.proofs.Common.{sym, ap, subst, ◌∙◌, zero-add, add-zero, add-suc, suc-add, le_refl, le_trans, le_of_suc-le-suc, not-suc-le-zero, arith}
use Rattle.std.proofs.lemmas.Bool.{and_parts, eqb-true}
use Rattle.measures.specs.Decay.{decayed, weight_after, DecayRule}

falls_by : (k d : ℕ) → decayed (k + d) ≤ decayed k
unfolding decayed
falls_by k zero = subst (λ (n : ℕ). decayed n ≤ decayed k) (sym (add-zero k)) (le_refl (decayed k))
falls_by k (suc d) =
    let before = falls_by k d in
    let once : decayed (suc (k + d)) ≤ decayed (k + d) = omega arith in
    subst (λ (n : ℕ). decayed n ≤ decayed k) (sym (add-suc k d)) (le_trans once before)

-- later is never more
pub decayed_falls : (j k : ℕ) → j ≤ k → decayed k ≤ decayed j
decayed_falls j k h = let e : j + (k - j) ≡ k = omega arith in subst (λ (n : ℕ). decayed n ≤ decayed j) e (falls_by j (k - j))

ends : decayed 1568 ≡ 0
unfolding decayed
ends = refl

pub decayed_ends : (k : ℕ) → 1568 ≤ k → decayed k ≡ 0
decayed_ends k h = let later = decayed_falls 1568 k h in omega (arith, ends)

pub weight_falls : (j k : ℕ) → j ≤ k → weight_after k ≤ weight_after j
unfolding weight_after
weight_falls j k h = decayed_falls (min j 2047) (min k 2047) (omega arith)

pub weight_at_once : weight_after 0 ≡ 65536
unfolding weight_after decayed
weight_at_once = refl

pub weight_ends : (k : ℕ) → 1568 ≤ k → weight_after k ≡ 0
unfolding weight_after
weight_ends k h = decayed_ends (min k 2047) (omega arith)

-- the test: the list begins with v, and each entry is the floor of 255/256 of the one before
abbrev pub decays_from : ℕ → List ℕ → Bool
decays_from v [] = true
decays_from v (x ∷ xs) = x == v && decays_from (x * 255 / 256) xs

from : (xs : List ℕ) (i : ℕ) → decays_from (decayed i) xs ≡ true → (k : ℕ) → k < length xs → slice_index xs k ≡ decayed (i + k)
unfolding decayed
from [] i t k h = absurd (not-suc-le-zero h)
from (x ∷ xs) i t zero h = eqb-true _ _ (and_parts (x == decayed i) _ t).0 ∙ ap decayed (sym (add-zero i))
from (x ∷ xs) i t (suc k) h =
    let both = and_parts (x == decayed i) _ t in
    let rest = subst (λ (v : ℕ). decays_from (v * 255 / 256) xs ≡ true) (eqb-true _ _ both.0) both.1 in
    from xs (suc i) rest k (le_of_suc-le-suc h) ∙ ap decayed (suc-add i k ∙ sym (add-suc i k))

-- the test shows the rule at every entry
pub decay_rule : (entries : List ℕ) → length entries ≡ 2048 → decays_from 65536 entries ≡ true → DecayRule entries
unfolding decayed
decay_rule entries long test =
    let entry : (k : ℕ) → k < 2048 → slice_index entries k ≡ decayed k = (λ k h. from entries 0 test k (omega arith) ∙ ap decayed (zero-add k)) in
    record {
      has_2048_entries = long;
      starts_at_65536 = entry 0 (omega arith);
      falls_by_one_in_256 = λ k h. entry (suc k) h ∙ ap (λ n. n * 255 / 256) (sym (entry k (omega arith)));
      never_rises = λ j k h l. omega (arith, entry j (omega arith), entry k l, decayed_falls j k h);
      is_zero_from_1568 = λ k h l. entry k l ∙ decayed_ends k h;
    }

-- the rule fixes every entry
pub rule_fixes : {entries : List ℕ} → DecayRule entries → (k : ℕ) → k < 2048 → slice_index entries k ≡ decayed k
unfolding decayed
rule_fixes rule zero h = rule.starts_at_65536
rule_fixes rule (suc k) h = rule.falls_by_one_in_256 k h ∙ ap (λ n. n * 255 / 256) (rule_fixes rule k (omega arith))
