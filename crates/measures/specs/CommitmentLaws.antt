-- Laws of commitments, by the excess and by the ticks that have passed.
use Rattle.std.specs.Prelude.{◌≡◌, ℕ, zero, suc, ◌+◌, ◌-◌, ◌*◌, ◌≤◌, min, max, ◌⊎◌}
use Rattle.std.proofs.Math.Path.{ap}
use Rattle.std.proofs.Common.{◌∙◌, inl, inr, ⊎_elim, zero-le, suc-le-suc, le_trans, add-mul}
use Rattle.std.proofs.Math.Nat.{mul-le-mul_left}
use native.Mathlib.Omega.{arith}
use Rattle.measures.specs.Decay.{weight_after}
use Rattle.measures.specs.Commitments.{mixed, commitment_after}
use Rattle.measures.specs.Bounds.{weight_most}
use Rattle.measures.specs.DecayLaws.{weight_falls, weight_at_once, weight_ends}

pub in_order : (a b : ℕ) → (a ≤ b) ⊎ (b ≤ a)
in_order zero b = inl zero-le
in_order (suc a) zero = inr zero-le
in_order (suc a) (suc b) = ⊎_elim (λ p. inl (suc-le-suc p)) (λ q. inr (suc-le-suc q)) (in_order a b)

-- c was recorded, and e is the excess since then
module _ (c e : ℕ) where
  -- with all the weight a mixture is what was recorded, and with none of it the excess
  mixed_all : mixed 65536 c e ≡ c
  unfolding mixed
  mixed_all = omega arith

  mixed_none : mixed 0 c e ≡ e
  unfolding mixed
  mixed_none = omega arith

  mixed_grows : (w f : ℕ) → e ≤ f → mixed w c e ≤ mixed w c f
  unfolding mixed
  mixed_grows w f h = omega (arith, mul-le-mul_left (65536 - w) h)

  module _ (v w : ℕ) (more : v ≤ w) (fits : w ≤ 65536) where
    recorded : w * c ≡ v * c + (w - v) * c
    recorded = let sum : w ≡ v + (w - v) = omega arith in ap (λ n. n * c) sum ∙ add-mul v (w - v) c

    rest : (65536 - v) * e ≡ (65536 - w) * e + (w - v) * e
    rest =
        let sum : 65536 - v ≡ (65536 - w) + (w - v) = omega arith in
        ap (λ n. n * e) sum ∙ add-mul (65536 - w) (w - v) e

    -- more weight on the smaller of the two gives no more, and on the larger no less
    mixed_falls : c ≤ e → mixed w c e ≤ mixed v c e
    unfolding mixed
    mixed_falls h = omega (arith, recorded, rest, mul-le-mul_left (w - v) h)

    mixed_rises : e ≤ c → mixed v c e ≤ mixed w c e
    unfolding mixed
    mixed_rises h = omega (arith, recorded, rest, mul-le-mul_left (w - v) h)

  -- a weight between two others has its mixture between theirs
  mixed_between : (v u w : ℕ) → v ≤ u → u ≤ w → w ≤ 65536 → (min (mixed w c e) (mixed v c e) ≤ mixed u c e) × (mixed u c e ≤ max (mixed w c e) (mixed v c e))
  mixed_between v u w h k f =
      ⊎_elim
      (λ ce. let a = mixed_falls v u h (le_trans k f) ce in let b = mixed_falls u w k f ce in (omega arith, omega arith))
      (λ ec. let a = mixed_rises v u h (le_trans k f) ec in let b = mixed_rises u w k f ec in (omega arith, omega arith))
      (in_order c e)

  -- before any tick has passed it is what was recorded
  pub commitment_at_once : commitment_after 0 c e ≡ c
  unfolding commitment_after
  commitment_at_once = ap (λ w. mixed w c e) weight_at_once ∙ mixed_all

  -- after 1,568 ticks it is the excess
  pub commitment_at_last : (k : ℕ) → 1568 ≤ k → commitment_after k c e ≡ e
  unfolding commitment_after
  commitment_at_last k h = ap (λ w. mixed w c e) (weight_ends k h) ∙ mixed_none

  pub commitment_grows : (k f : ℕ) → e ≤ f → commitment_after k c e ≤ commitment_after k c f
  unfolding commitment_after
  commitment_grows k f = mixed_grows (weight_after k) f

  -- between two moments it lies between what it is at the two
  pub commitment_between : (i j k : ℕ) → i ≤ j → j ≤ k → (min (commitment_after i c e) (commitment_after k c e) ≤ commitment_after j c e) × (commitment_after j c e ≤ max (commitment_after i c e) (commitment_after k c e))
  unfolding commitment_after
  commitment_between i j k h l = mixed_between (weight_after k) (weight_after j) (weight_after i) (weight_falls j k l) (weight_falls i j h) (weight_most i)
