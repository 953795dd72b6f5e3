use Rattle.std.proofs.Common.{◌≡◌, arith, rules}
use Rattle.measures.specs.Levels.{standing_high, stateful_highest}
use Rattle.measures.specs.LevelLaws.{stateful_below}
use Rattle.measures.proofs.stateful.StatefulDatedMeasure.highest.Goals as goal

computed : (c : goal.After-greatest) → c.greatest.result ≡ stateful_highest c.args.self.now.site c.args.account.now c.args.one c.args.other
unfolding stateful_highest
computed c = c.greatest.ensures.greatest_of_the_supplies_in_use (standing_high c.args.self.now.site c.args.account.now c.args.one c.args.other) (λ s y given. search rules)

pub returns : goal.returns
returns c = record {
  highest_over_the_two_ticks = computed c;
  no_level_between_is_higher = λ k b. omega (arith, computed c, stateful_below c.args.self.now.site c.args.account.now c.args.one c.args.other k b);
}
