use Rattle.std.proofs.Common.{◌≡◌, arith, rules}
use Rattle.measures.specs.Levels.{standing_low, stateful_lowest}
use Rattle.measures.specs.LevelLaws.{stateful_above}
use Rattle.measures.proofs.stateful.StatefulDatedMeasure.lowest.Goals as goal

computed : (c : goal.After-greatest) → c.greatest.result ≡ stateful_lowest c.args.self.now.site c.args.account.now c.args.one c.args.other
unfolding stateful_lowest
computed c = c.greatest.ensures.greatest_of_the_supplies_in_use (standing_low c.args.self.now.site c.args.account.now c.args.one c.args.other) (λ s y given. search rules)

pub returns : goal.returns
returns c = record {
  lowest_over_the_two_ticks = computed c;
  no_level_between_is_lower = λ k b. omega (arith, computed c, stateful_above c.args.self.now.site c.args.account.now c.args.one c.args.other k b);
}
