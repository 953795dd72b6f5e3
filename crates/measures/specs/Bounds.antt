-- No weight is above 65,536, and no share, excess or commitment above the whole, 1,048,576.
use Rattle.std.specs.Prelude.{◌≡◌, ℕ, zero, suc, ◌+◌, ◌-◌, ◌*◌, ◌≤◌, min, true, false, cond, nat_lt, slice_index}
use Rattle.std.proofs.Common.{sym, ap, ◌∙◌, add-mul, mul-le-mul_left, mul-le-mul_right}
use Rattle.std.proofs.Math.Nat.{div-le_of_le-mul}
use native.Mathlib.Omega.{arith}
use Rattle.measures.specs.declared.holding.Holding.{Holding}
use Rattle.measures.specs.declared.account.Account.{Account}
use Rattle.measures.specs.declared.site.Site.{Site}
use Rattle.measures.specs.Clock.{on_clock}
use Rattle.measures.specs.Decay.{decayed, weight_after}
use Rattle.measures.specs.Shares.{share_of}
use Rattle.measures.specs.Commitments.{mixed, commitment_after}
use Rattle.measures.specs.Holdings.{held_of}
use Rattle.measures.specs.Sites.{share_in, excess_in, commitment_in}

pub decayed_most : (k : ℕ) → decayed k ≤ 65536
unfolding decayed
decayed_most zero = omega arith
decayed_most (suc k) = let before = decayed_most k in omega arith

pub weight_most : (k : ℕ) → weight_after k ≤ 65536
unfolding weight_after
weight_most k = decayed_most (min k 2047)

pub share_most : (a c : ℕ) → share_of a c ≤ 1048576
unfolding share_of
share_most a c = let within : min a c ≤ c = omega arith in div-le_of_le-mul c (mul-le-mul_right 1048576 within)

-- a mixture is at most what both of its parts are at most
pub mixed_most : (w c e most : ℕ) → w ≤ 65536 → c ≤ most → e ≤ most → mixed w c e ≤ most
unfolding mixed
mixed_most w c e most hw hc he =
    let whole : w + (65536 - w) ≡ 65536 = omega arith in
    let parts : w * most + (65536 - w) * most ≡ 65536 * most = sym (add-mul w (65536 - w) most) ∙ ap (λ n. n * most) whole in
    omega (arith, parts, mul-le-mul_left w hc, mul-le-mul_left (65536 - w) he)

pub commitment_most : (k c e most : ℕ) → c ≤ most → e ≤ most → commitment_after k c e ≤ most
unfolding commitment_after
commitment_most k c e most = mixed_most (weight_after k) c e most (weight_most k)

module _ (g : Site) where
  pub share_in_most : (h : Holding) (s : ℕ) → share_in g h s ≤ 1048576
  unfolding share_in
  share_in_most h s =
      elim (nat_lt s g.supplies) as (λ used. cond used (share_of (held_of h s) (slice_index g.capacity.each s)) 0 ≤ 1048576)
      [ true ↦ share_most (held_of h s) (slice_index g.capacity.each s) | false ↦ omega arith ]

  pub commitment_in_most : (part : ℕ) (a : Account) (t s : ℕ) → commitment_in g part a t s ≤ 1048576
  unfolding commitment_in
  commitment_in_most part a t s =
      commitment_most (on_clock t - a.past.stamp) (slice_index a.past.commitments s) (excess_in g part a.holding s) 1048576
      (a.past.no_commitment_above_the_whole s) (let share = share_in_most a.holding s in omega arith)
