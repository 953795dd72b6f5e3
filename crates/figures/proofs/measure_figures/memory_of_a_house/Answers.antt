use Rattle.std.proofs.Common.{◌≡◌, [], ◌∷◌, Some, refl, ap, ◌∙◌}
use Rattle.measures.specs.Decay.{decayed, weight_after}
use Rattle.measures.specs.Shares.{share_of, equal_part}
use Rattle.measures.specs.Commitments.{mixed, commitment_after}
use Rattle.measures.specs.Sites.{share_in, part_due, commitment_in}
use Rattle.measures.specs.Records.{brought_to}
use Rattle.measures.specs.Greatest.{greatest}
use Rattle.measures.specs.Levels.{stateful_level}
use Rattle.measures.specs.RecordLaws.{same_site}
use Rattle.figures.specs.MeasureFigures.{small_site, busy, idle, MemoryFigures}
use Rattle.figures.proofs.measure_figures.memory_of_a_house.Goals as goal

figures : MemoryFigures
unfolding decayed weight_after share_of equal_part mixed commitment_after share_in commitment_in brought_to greatest stateful_level
figures = record { after_one_tick = refl; after_two_ticks = refl; when_full = refl; level_once_idle = refl; level_a_tick_later = refl }

pub returns : goal.returns
returns c =
    let part = c.equal_part.ensures.whole_over_the_seats_rounded_down ∙ ap equal_part c.in_ok-new.ensures in
    let site : c.in_ok-site.site ≡ small_site = same_site c.in_ok-site.site small_site (c.in_ok-site.ensures.made_exactly_with_one_to_four_supplies.1 ∙ (λ i. (record { each = 4 ∷ 0 ∷ 0 ∷ 0 ∷ [] }, 1, part i))) in
    let measured = c.over-measure.ensures.measures_the_given_site ∙ site in
    let holds : record { past = c.new-3.result; holding = c.from.result } ≡ busy = (λ i. record { past = c.new-3.ensures.starts_with_nothing_at_tick_zero i; holding = c.from.ensures i }) in
    let gave : record { past = c.bring.result; holding = c.from-2.result } ≡ idle = (λ i. record { past = (c.bring.ensures.record_brought_to_the_tick ∙ (λ j. brought_to (measured j) (holds j) 1568)) i; holding = c.from-2.ensures i }) in
    let one = c.commitment.ensures.commitment_at_the_tick ∙ (λ i. commitment_in (site i) (part_due (site i) (holds i)) (holds i) 1 0) ∙ figures.after_one_tick in
    let two = c.commitment-2.ensures.commitment_at_the_tick ∙ (λ i. commitment_in (site i) (part_due (site i) (holds i)) (holds i) 2 0) ∙ figures.after_two_ticks in
    let full = c.commitment-3.ensures.commitment_at_the_tick ∙ (λ i. commitment_in (site i) (part_due (site i) (holds i)) (holds i) 1568 0) ∙ figures.when_full in
    let at_once = c.level.ensures.level_at_the_tick ∙ (λ i. stateful_level (measured i) (gave i) 1568) ∙ figures.level_once_idle in
    let later = c.level-2.ensures.level_at_the_tick ∙ (λ i. stateful_level (measured i) (gave i) 1569) ∙ figures.level_a_tick_later in
    record {
      code_gives_2048_4088_524288_524288_522240 = λ i. Some (one i ∷ two i ∷ full i ∷ at_once i ∷ later i ∷ []);
      definition_gives_2048_4088_524288_524288_522240 = figures;
    }
