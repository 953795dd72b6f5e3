use Rattle.std.proofs.Common.{[], ◌∷◌, refl}
use Rattle.measures.specs.Decay.{decayed, weight_after}
use Rattle.figures.proofs.measure_figures.first_decay_entries.Goals as goal

pub returns : goal.returns
unfolding decayed weight_after
returns c = record {
  code_gives_65280_65025_64770 = λ i. c.weight_after.ensures.entry_for_the_ticks_elapsed i ∷ c.weight_after-2.ensures.entry_for_the_ticks_elapsed i ∷ c.weight_after-3.ensures.entry_for_the_ticks_elapsed i ∷ [];
  definition_gives_65280_65025_64770 = (refl, refl, refl);
}
