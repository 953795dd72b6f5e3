use Rattle.std.proofs.Common.{rules}
use Rattle.measures.specs.GreatestLaws.{greatest_none, greatest_more}
use Rattle.measures.proofs.greatest.Goals as goal

pub loop-supply-init : goal.loop-supply-init
loop-supply-init g c f tells = greatest_none f

pub loop-supply-preserved : goal.loop-supply-preserved
loop-supply-preserved g c f tells = greatest_more _ f _ _ _ (c.loop-supply.invariant f tells) (tells _ _ c.of.ensures) (search rules)
