use Rattle.std.proofs.Common.{[], ◌∷◌, refl}
use Rattle.measures.specs.Shares.{share_of}
use Rattle.figures.proofs.measure_figures.three_shares.Goals as goal

pub returns : goal.returns
unfolding share_of
returns c = record {
  code_gives_233016_699050_699050 = λ i. c.share.ensures.amount_in_the_capacity_rounded_down i ∷ c.share-2.ensures.amount_in_the_capacity_rounded_down i ∷ c.share-3.ensures.amount_in_the_capacity_rounded_down i ∷ [];
  definition_gives_233016_699050_699050 = (refl, refl, refl);
}
