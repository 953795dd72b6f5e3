use Rattle.std.proofs.Common.{refl}
use Rattle.measures.specs.DecayLaws.{decay_rule}
use Rattle.measures.proofs.decay.decay_table.Goals as goal

-- antt computes the test over the whole table
pub returns : goal.returns
returns c = record { follows_the_decay_rule = decay_rule _ refl refl }
