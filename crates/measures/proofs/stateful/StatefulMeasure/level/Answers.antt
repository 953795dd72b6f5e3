use Rattle.std.proofs.Common.{rules}
use Rattle.measures.specs.Levels.{standing, stateful_level}
use Rattle.measures.proofs.stateful.StatefulMeasure.level.Goals as goal

pub returns : goal.returns
unfolding stateful_level
returns c = record { level_at_the_tick = c.greatest.ensures.greatest_of_the_supplies_in_use (standing c.args.self.now.site c.args.account.now c.args.tick) (λ s y given. search rules) }
