use Rattle.std.proofs.Common.{◌≡◌, get_or, ap, ◌∙◌, arith}
use Rattle.measures.specs.Decay.{decayed, weight_after}
use Rattle.measures.specs.Bounds.{weight_most}
use Rattle.measures.specs.DecayLaws.{rule_fixes}
use Rattle.measures.proofs.decay.weight_after.Goals as goal

pub returns : goal.returns
unfolding weight_after
returns c =
    let entry : get_or c.decay_table.result.now c.min.result 0 ≡ weight_after c.args.elapsed = rule_fixes c.decay_table.ensures.follows_the_decay_rule c.min.result (omega arith) ∙ ap decayed c.min.ensures in
    record { entry_for_the_ticks_elapsed = entry; at_most_the_full_weight = omega (arith, entry, weight_most c.args.elapsed) }
