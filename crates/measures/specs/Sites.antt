-- How an account stands in one supply of a site. A supply that is not in use, or that there is none of, counts as nothing.
use Rattle.std.specs.Prelude.{ℕ, ◌-◌, cond, nat_lt, slice_index}
use Rattle.measures.specs.declared.holding.Holding.{Holding}
use Rattle.measures.specs.declared.account.Account.{Account}
use Rattle.measures.specs.declared.site.Site.{Site}
use Rattle.pools.specs.declared.amounts.Amounts.{Amounts}
use Rattle.measures.specs.Clock.{on_clock}
use Rattle.measures.specs.Shares.{share_of, excess_of}
use Rattle.measures.specs.Commitments.{commitment_after}
use Rattle.measures.specs.Holdings.{held_of}

-- what a site was made of: its capacities, how many supplies are in use, and the part that is due to each house
abbrev pub made_of : Site → Amounts × ℕ × ℕ
made_of g = (g.capacity, g.supplies, g.part)

-- the share of a holding in a supply
unfoldable pub share_in : Site → Holding → ℕ → ℕ
share_in g h s = cond (nat_lt s g.supplies) (share_of (held_of h s) (slice_index g.capacity.each s)) 0

-- the part that is due to the house of an account; the one definition that takes it from the site
abbrev pub part_due : Site → Account → ℕ
part_due g a = g.part

-- the excess over a part
abbrev pub excess_in : Site → ℕ → Holding → ℕ → ℕ
excess_in g part h s = excess_of (share_in g h s) part

-- the commitment at a tick, where that part is due
unfoldable pub commitment_in : Site → ℕ → Account → ℕ → ℕ → ℕ
commitment_in g part a t s = commitment_after (on_clock t - a.past.stamp) (slice_index a.past.commitments s) (excess_in g part a.holding s)
