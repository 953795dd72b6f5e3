use Rattle.std.proofs.Common.{Some, ap, ◌∙◌}
use Rattle.pools.specs.Layers.{reserve_terms}
use Rattle.figures.proofs.Made.{made}
use Rattle.figures.proofs.Pairs.{pair}
use Rattle.pools.proofs.TermLaws.{admits_known}
use Rattle.figures.proofs.pool_figures.bench_with_reserve.Goals as goal

pub returns : goal.returns
returns c =
    let is = c.in_ok-pool.ensures.value in
    let terms = made c.over.result _ is c.over.ensures.permits_what_fits_with_the_reserve ∙ ap (λ m. reserve_terms m (pair 1 0)) c.new-bench.ensures.permits_within_its_capacities in
    let unused = made c.over.result _ is c.over.ensures.starts_unused in
    let three = admits_known _ terms unused c.fits-three.ensures.used_plus_demand_is_permitted in
    let four = admits_known _ terms unused c.fits-four.ensures.used_plus_demand_is_permitted in
    record { three_is_permitted_and_four_is_not = λ i. Some (three i, four i) }
