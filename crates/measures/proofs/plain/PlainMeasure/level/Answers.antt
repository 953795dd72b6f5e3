use Rattle.std.proofs.Common.{rules}
use Rattle.measures.specs.Sites.{share_in}
use Rattle.measures.specs.Levels.{plain_level}
use Rattle.measures.proofs.plain.PlainMeasure.level.Goals as goal

pub returns : goal.returns
unfolding plain_level
returns c = record { level_at_the_tick = c.greatest.ensures.greatest_of_the_supplies_in_use (share_in c.args.self.now.site c.args.account.now.holding) (λ s y given. search rules) }
