-- The laws of the two measures.
use Rattle.std.specs.Prelude.{◌≡◌, ℕ, ◌+◌, ◌<◌, ◌≤◌, min, max}
use Rattle.std.proofs.Math.Path.{refl, ap}
use Rattle.std.proofs.Common.{arith}
use Rattle.pools.specs.Totals.{Within}
use Rattle.measures.specs.declared.holding.Holding.{Holding}
use Rattle.measures.specs.declared.account.Account.{Account}
use Rattle.measures.specs.declared.site.Site.{Site}
use Rattle.measures.specs.Clock.{on_clock, Between}
use Rattle.measures.specs.Holdings.{held}
use Rattle.measures.specs.Accounts.{with_holding, with_past}
use Rattle.measures.specs.Sites.{share_in, part_due}
use Rattle.measures.specs.Records.{brought_to}
use Rattle.measures.specs.Levels.{commitment_at, standing, standing_low, standing_high, stateful_level, stateful_lowest, stateful_highest, plain_level}
use Rattle.measures.specs.Bounds.{share_in_most}
use Rattle.measures.specs.RecordLaws.{row_same, same_past}
use Rattle.measures.specs.GreatestLaws.{greatest_most, greatest_grows, greatest_same}
use Rattle.measures.specs.StandingLaws.{share_in_grows, commitment_in_clock, commitment_at_brought, standing_most, standing_grows, standing_brought, standing_above, standing_below}

module _ (g : Site) (a : Account) where
  used : (s : ℕ) → s < g.supplies → s < 4
  used s l = omega (arith, g.at_most_four_supplies)

  commitment_clock : (t s : ℕ) → commitment_at g a t s ≡ commitment_at g a (on_clock t) s
  commitment_clock t s = commitment_in_clock g (part_due g a) a t s

  pub brought_clock : (t : ℕ) → brought_to g a t ≡ brought_to g a (on_clock t)
  unfolding brought_to
  brought_clock t =
      same_past (brought_to g a t) (brought_to g a (on_clock t))
      (row_same (commitment_at g a t) (commitment_at g a (on_clock t)) (λ s _. commitment_clock t s)) (omega arith)

  pub brought_once : (h : Holding) (t : ℕ) → brought_to g (with_holding (with_past a (brought_to g a t)) h) t ≡ brought_to g a t
  unfolding brought_to
  brought_once h t =
      let again : Account = with_holding (with_past a (brought_to g a t)) h in
      same_past (brought_to g again t) (brought_to g a t)
      (row_same (commitment_at g again t) (commitment_at g a t) (commitment_at_brought g a h t)) refl

  pub stateful_most : (t : ℕ) → stateful_level g a t ≤ 8388608
  unfolding stateful_level
  stateful_most t = greatest_most g.supplies 8388608 (standing g a t) (λ s _. omega (arith, standing_most g a t s))

  pub stateful_grows : (h : Holding) (t : ℕ) → Within (held a.holding) (held h) → stateful_level g a t ≤ stateful_level g (with_holding a h) t
  unfolding stateful_level
  stateful_grows h t w =
      greatest_grows g.supplies (standing g a t) (standing g (with_holding a h) t) (λ s l. standing_grows g a h t w s (used s l))

  pub stateful_brought : (t : ℕ) → stateful_level g (with_past a (brought_to g a t)) t ≡ stateful_level g a t
  unfolding stateful_level
  stateful_brought t =
      greatest_same g.supplies (standing g (with_past a (brought_to g a t)) t) (standing g a t) (λ s l. standing_brought g a t s (used s l))

  pub stateful_clock : (t : ℕ) → stateful_level g a t ≡ stateful_level g a (on_clock t)
  unfolding stateful_level
  stateful_clock t =
      greatest_same g.supplies (standing g a t) (standing g a (on_clock t)) (λ s _. ap (λ n. share_in g a.holding s + n) (commitment_clock t s))

  pub stateful_above : (t u k : ℕ) → Between t u k → stateful_lowest g a t u ≤ stateful_level g a k
  unfolding stateful_level stateful_lowest
  stateful_above t u k b = greatest_grows g.supplies (standing_low g a t u) (standing g a k) (λ s _. standing_above g a t u k s b)

  pub stateful_below : (t u k : ℕ) → Between t u k → stateful_level g a k ≤ stateful_highest g a t u
  unfolding stateful_level stateful_highest
  stateful_below t u k b = greatest_grows g.supplies (standing g a k) (standing_high g a t u) (λ s _. standing_below g a t u k s b)

  pub lowest_clock : (t u : ℕ) → stateful_lowest g a t u ≡ stateful_lowest g a (on_clock t) (on_clock u)
  unfolding stateful_lowest
  lowest_clock t u =
      greatest_same g.supplies (standing_low g a t u) (standing_low g a (on_clock t) (on_clock u))
      (λ s _ i. share_in g a.holding s + min (commitment_clock t s i) (commitment_clock u s i))

  pub highest_clock : (t u : ℕ) → stateful_highest g a t u ≡ stateful_highest g a (on_clock t) (on_clock u)
  unfolding stateful_highest
  highest_clock t u =
      greatest_same g.supplies (standing_high g a t u) (standing_high g a (on_clock t) (on_clock u))
      (λ s _ i. share_in g a.holding s + max (commitment_clock t s i) (commitment_clock u s i))

  pub plain_most : plain_level g a ≤ 8388608
  unfolding plain_level
  plain_most = greatest_most g.supplies 8388608 (share_in g a.holding) (λ s _. omega (arith, share_in_most g a.holding s))

  pub plain_grows : (h : Holding) → Within (held a.holding) (held h) → plain_level g a ≤ plain_level g (with_holding a h)
  unfolding plain_level
  plain_grows h w = greatest_grows g.supplies (share_in g a.holding) (share_in g h) (λ s l. share_in_grows g a.holding h w s (used s l))
