-- Levels of an account: the greatest over the supplies in use.
use Rattle.std.specs.Prelude.{ℕ, ◌+◌, min, max}
use Rattle.measures.specs.declared.account.Account.{Account}
use Rattle.measures.specs.declared.site.Site.{Site}
use Rattle.measures.specs.Sites.{share_in, part_due, commitment_in}
use Rattle.measures.specs.Greatest.{greatest}

module _ (g : Site) (a : Account) where
  -- the commitment in a supply at a tick, where the part of the house is due
  abbrev pub commitment_at : ℕ → ℕ → ℕ
  commitment_at t s = commitment_in g (part_due g a) a t s

  -- share plus commitment
  abbrev pub standing : ℕ → ℕ → ℕ
  standing t s = share_in g a.holding s + commitment_at t s

  -- share plus the smaller of the commitments at two ticks, and share plus the larger
  abbrev pub standing_low : ℕ → ℕ → ℕ → ℕ
  standing_low t u s = share_in g a.holding s + min (commitment_at t s) (commitment_at u s)

  abbrev pub standing_high : ℕ → ℕ → ℕ → ℕ
  standing_high t u s = share_in g a.holding s + max (commitment_at t s) (commitment_at u s)

  unfoldable pub stateful_level : ℕ → ℕ
  stateful_level t = greatest g.supplies (standing t)

  unfoldable pub stateful_lowest : ℕ → ℕ → ℕ
  stateful_lowest t u = greatest g.supplies (standing_low t u)

  unfoldable pub stateful_highest : ℕ → ℕ → ℕ
  stateful_highest t u = greatest g.supplies (standing_high t u)

  -- the plain level looks at the shares alone
  unfoldable pub plain_level : ℕ
  plain_level = greatest g.supplies (share_in g a.holding)
