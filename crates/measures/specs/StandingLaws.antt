-- Laws of shares and commitments in one supply. A measure that gathers the supplies has its laws from these.
use Rattle.std.specs.Prelude.{◌≡◌, ℕ, zero, suc, ◌+◌, ◌-◌, ◌<◌, ◌≤◌, min, max, true, false, cond, nat_lt, slice_index, slice_index_or}
use Rattle.std.proofs.Math.Path.{refl, ap}
use Rattle.std.proofs.Common.{◌∙◌}
use Rattle.std.proofs.Math.Logic.{⊎_elim}
use Rattle.std.proofs.Math.Nat.{add-le-add}
use native.Mathlib.Omega.{arith}
use Rattle.pools.specs.Totals.{Within}
use Rattle.measures.specs.declared.holding.Holding.{Holding}
use Rattle.measures.specs.declared.account.Account.{Account}
use Rattle.measures.specs.declared.site.Site.{Site}
use Rattle.measures.specs.Clock.{on_clock, Between}
use Rattle.measures.specs.Shares.{share_of}
use Rattle.measures.specs.Commitments.{commitment_after}
use Rattle.measures.specs.Holdings.{held, held_of}
use Rattle.measures.specs.Accounts.{with_holding, with_past}
use Rattle.measures.specs.Sites.{share_in, part_due, excess_in, commitment_in}
use Rattle.measures.specs.Records.{brought_to}
use Rattle.measures.specs.Levels.{commitment_at, standing, standing_low, standing_high}
use Rattle.measures.specs.Bounds.{share_in_most, commitment_in_most}
use Rattle.measures.specs.ShareLaws.{share_grows}
use Rattle.measures.specs.CommitmentLaws.{in_order, commitment_at_once, commitment_at_last, commitment_grows, commitment_between}
use Rattle.measures.specs.RecordLaws.{row_at}

held_grows : (h k : Holding) → Within (held h) (held k) → (s : ℕ) → s < 4 → held_of h s ≤ held_of k s
held_grows h k w zero l = w.w0
held_grows h k w (suc zero) l = w.w1
held_grows h k w (suc (suc zero)) l = w.w2
held_grows h k w (suc (suc (suc zero))) l = w.w3
held_grows h k w (suc (suc (suc (suc s)))) l = absurd (omega arith)

module _ (g : Site) where
  pub share_in_grows : (h k : Holding) → Within (held h) (held k) → (s : ℕ) → s < 4 → share_in g h s ≤ share_in g k s
  unfolding share_in
  share_in_grows h k w s l =
      elim (nat_lt s g.supplies) as (λ used. cond used (share_of (held_of h s) (slice_index g.capacity.each s)) 0 ≤ cond used (share_of (held_of k s) (slice_index g.capacity.each s)) 0)
      [ true ↦ share_grows (held_of h s) (held_of k s) (slice_index g.capacity.each s) (held_grows h k w s l) | false ↦ omega arith ]

  -- a tick past the clock counts as its end
  pub commitment_in_clock : (part : ℕ) (a : Account) (t s : ℕ) → commitment_in g part a t s ≡ commitment_in g part a (on_clock t) s
  unfolding commitment_in
  commitment_in_clock part a t s =
      let same : on_clock t - a.past.stamp ≡ on_clock (on_clock t) - a.past.stamp = omega arith in
      ap (λ k. commitment_after k (slice_index a.past.commitments s) (excess_in g part a.holding s)) same

  -- at its stamp a record stands for what it holds, whatever is held now
  commitment_in_fresh : (part : ℕ) (a : Account) (t s : ℕ) → a.past.stamp ≡ on_clock t → commitment_in g part a t s ≡ slice_index a.past.commitments s
  unfolding commitment_in
  commitment_in_fresh part a t s e =
      let none : on_clock t - a.past.stamp ≡ 0 = omega arith in
      ap (λ k. commitment_after k (slice_index a.past.commitments s) (excess_in g part a.holding s)) none
      ∙ commitment_at_once (slice_index a.past.commitments s) (excess_in g part a.holding s)

  -- it lies between what is recorded and the excess
  pub commitment_in_mixes : (part : ℕ) (a : Account) (t s : ℕ) → (min (slice_index a.past.commitments s) (excess_in g part a.holding s) ≤ commitment_in g part a t s) × (commitment_in g part a t s ≤ max (slice_index a.past.commitments s) (excess_in g part a.holding s))
  unfolding commitment_in
  commitment_in_mixes part a t s =
      let c : ℕ = slice_index_or a.past.commitments s 0 in
      let e : ℕ = excess_in g part a.holding s in
      let k : ℕ = on_clock t - a.past.stamp in
      let both = commitment_between c e 0 k (k + 1568) (omega arith) (omega arith) in
      let first = commitment_at_once c e in
      let last = commitment_at_last c e (k + 1568) (omega arith) in
      (omega (arith, both.0), omega (arith, both.1))

  -- 1,568 ticks after the stamp it is the excess
  pub commitment_in_settles : (part : ℕ) (a : Account) (t s : ℕ) → a.past.stamp + 1568 ≤ on_clock t → commitment_in g part a t s ≡ excess_in g part a.holding s
  unfolding commitment_in
  commitment_in_settles part a t s h =
      commitment_at_last (slice_index a.past.commitments s) (excess_in g part a.holding s) (on_clock t - a.past.stamp) (omega arith)

  commitment_in_between : (part : ℕ) (a : Account) (t u k s : ℕ) → Between t u k → (min (commitment_in g part a t s) (commitment_in g part a u s) ≤ commitment_in g part a k s) × (commitment_in g part a k s ≤ max (commitment_in g part a t s) (commitment_in g part a u s))
  unfolding commitment_in
  commitment_in_between part a t u k s b =
      let passed : ℕ → ℕ = (λ n. on_clock n - a.past.stamp) in
      let between = commitment_between (slice_index a.past.commitments s) (excess_in g part a.holding s) in
      ⊎_elim
      (λ tu. between (passed t) (passed k) (passed u) (omega arith) (omega arith))
      (λ ut. let back = between (passed u) (passed k) (passed t) (omega arith) (omega arith) in (omega (arith, back.0), omega (arith, back.1)))
      (in_order t u)

  module _ (a : Account) where
    pub standing_most : (t s : ℕ) → standing g a t s ≤ 2097152
    standing_most t s = omega (arith, share_in_most g a.holding s, commitment_in_most g (part_due g a) a t s)

    -- a larger holding stands no lower
    pub standing_grows : (h : Holding) (t : ℕ) → Within (held a.holding) (held h) → (s : ℕ) → s < 4 → standing g a t s ≤ standing g (with_holding a h) t s
    unfolding commitment_in
    standing_grows h t w s l =
        let more = share_in_grows a.holding h w s l in
        add-le-add more
        (commitment_grows (slice_index a.past.commitments s) (excess_in g (part_due g a) a.holding s) (on_clock t - a.past.stamp) (excess_in g (part_due g a) h s) (omega arith))

    -- at the tick to which the record was brought the commitments are the recorded ones, whatever is held now
    pub commitment_at_brought : (h : Holding) (t s : ℕ) → s < 4 → commitment_at g (with_holding (with_past a (brought_to g a t)) h) t s ≡ commitment_at g a t s
    unfolding brought_to
    commitment_at_brought h t s l =
        commitment_in_fresh (part_due g a) (with_holding (with_past a (brought_to g a t)) h) t s refl ∙ row_at (commitment_at g a t) s l

    pub standing_brought : (t s : ℕ) → s < 4 → standing g (with_past a (brought_to g a t)) t s ≡ standing g a t s
    standing_brought t s l = ap (λ n. share_in g a.holding s + n) (commitment_at_brought a.holding t s l)

    pub standing_above : (t u k s : ℕ) → Between t u k → standing_low g a t u s ≤ standing g a k s
    standing_above t u k s b = omega (arith, (commitment_in_between (part_due g a) a t u k s b).0)

    pub standing_below : (t u k s : ℕ) → Between t u k → standing g a k s ≤ standing_high g a t u s
    standing_below t u k s b = omega (arith, (commitment_in_between (part_due g a) a t u k s b).1)
