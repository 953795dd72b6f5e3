-- The laws of a pool, carried from the pool below to a layer over it. `p` is what is permitted below.
use Rattle.std.specs.Prelude.{◌≡◌, ℕ, Bool, true, false}
use Rattle.std.proofs.Common.{sym, ⊎_elim, arith, mul-zero}
use Rattle.std.proofs.lemmas.Bool.{and_from, and_parts, or_cases, or_left, or_right, leb-true, le-leb, cases_Bool}
use Rattle.pools.specs.Totals.{Total, nothing, max_amounts, plus, is_within, Within}
use Rattle.pools.specs.Layers.{reserve_permits, limit_permits}
use Rattle.pools.specs.TotalLaws.{test_within, within_test, within_trans, nothing_within, within_sum, sum_grows, load_grows}

-- what is in no supply larger than a permitted total is permitted
abbrev pub Downward : (Total → Bool) → Type 0
Downward p = (t u : Total) → Within t u → p u ≡ true → p t ≡ true

-- no permitted total is larger than the bound
abbrev pub Bounded : (Total → Bool) → Total → Type 0
Bounded p bound = (t : Total) → p t ≡ true → Within t bound

module _ (p : Total → Bool) (held : Total) where
  -- what a reserve permits is zero, or permitted below with the reserve
  reserve_cases : {A : Type 0} (t : Total) → (Within t nothing → A) → (p (plus t held) ≡ true → A) → reserve_permits p held t ≡ true → A
  reserve_cases t zero more h = ⊎_elim (λ z. zero (test_within z)) more (or_cases (is_within t nothing) _ h)

  pub reserve_downward : Downward p → Downward (reserve_permits p held)
  reserve_downward down t u w h =
      reserve_cases u
      (λ z. or_left (is_within t nothing) _ (within_test (within_trans w z)))
      (λ q. or_right (is_within t nothing) _ (down _ _ (sum_grows held w) q)) h

  pub reserve_bounded : (bound : Total) → Bounded p bound → Bounded (reserve_permits p held) bound
  reserve_bounded bound below t h =
      reserve_cases t
      (λ z. within_trans z (nothing_within bound))
      (λ q. within_trans (within_sum t held) (below _ q)) h

  -- what is not zero and does not have 32 bits with the reserve is not permitted
  pub reserve_too_large : Bounded p max_amounts → (t : Total) → (Within t nothing → ⊥) → (Within (plus t held) max_amounts → ⊥) → false ≡ reserve_permits p held t
  reserve_too_large small t nonzero large =
      ⊎_elim
      (λ yes. absurd (reserve_cases t nonzero (λ q. large (small _ q)) yes))
      sym
      (cases_Bool (reserve_permits p held t))

module _ (p : Total → Bool) (weights : Total) (limit : ℕ) where
  pub limit_zero : p nothing ≡ true → limit_permits p weights limit nothing ≡ true
  limit_zero zero = and_from _ _ zero (le-leb _ _ (simp mul-zero (omega arith)))

  pub limit_downward : Downward p → Downward (limit_permits p weights limit)
  limit_downward down t u w h =
      let both = and_parts (p u) _ h in
      and_from _ _ (down t u w both.0) (le-leb _ _ (omega (arith, load_grows weights w, leb-true _ _ both.1)))

  pub limit_bounded : (bound : Total) → Bounded p bound → Bounded (limit_permits p weights limit) bound
  limit_bounded bound below t h = below t (and_parts (p t) _ h).0
