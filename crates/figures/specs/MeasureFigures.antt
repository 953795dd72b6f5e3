-- Two seats, one supply of capacity 4, and a house that holds all of it from tick 0 to tick 1,568.
use Rattle.std.specs.Prelude.{◌≡◌, ℕ, [], ◌∷◌}
use Rattle.std.proofs.Common.{lit≤}
use Rattle.pools.specs.Totals.{nothing}
use Rattle.measures.specs.declared.account.Account.{Account}
use Rattle.measures.specs.declared.site.Site.{Site}
use Rattle.measures.specs.Shares.{equal_part}
use Rattle.measures.specs.Holdings.{holding_of}
use Rattle.measures.specs.Sites.{part_due, commitment_in}
use Rattle.measures.specs.Records.{new_past, brought_to}
use Rattle.measures.specs.Levels.{stateful_level}

abbrev pub small_site : Site
small_site = record { capacity = record { each = 4 ∷ 0 ∷ 0 ∷ 0 ∷ [] }; supplies = 1; part = equal_part 2; at_most_four_supplies = lit≤ tt }

-- it holds everything, and has no past
abbrev pub busy : Account
busy = record { past = new_past; holding = holding_of (record { s0 = 4; s1 = 0; s2 = 0; s3 = 0 }) }

-- it gave everything back at tick 1,568
abbrev pub idle : Account
idle = record { past = brought_to small_site busy 1568; holding = holding_of nothing }

abbrev pub commitment_at_tick : ℕ → ℕ
commitment_at_tick t = commitment_in small_site (part_due small_site busy) busy t 0

pub record MemoryFigures : Type 0 where
  pub after_one_tick : commitment_at_tick 1 ≡ 2048
  pub after_two_ticks : commitment_at_tick 2 ≡ 4088
  pub when_full : commitment_at_tick 1568 ≡ 524288
  pub level_once_idle : stateful_level small_site idle 1568 ≡ 524288
  pub level_a_tick_later : stateful_level small_site idle 1569 ≡ 522240
