use Rattle.std.proofs.Common.{Some, ap, ◌∙◌}
use Rattle.pools.specs.Layers.{limit_terms}
use Rattle.figures.proofs.Made.{made}
use Rattle.figures.proofs.Pairs.{pair}
use Rattle.pools.proofs.TermLaws.{admits_known}
use Rattle.figures.proofs.pool_figures.bench_with_load_limit.Goals as goal

pub returns : goal.returns
returns c =
    let is = c.in_ok-pool.ensures.value in
    let terms = made c.over.result _ is c.over.ensures.permits_up_to_the_limit ∙ ap (λ m. limit_terms m (pair 2 1) 9) c.new-bench.ensures.permits_within_its_capacities in
    let unused = made c.over.result _ is c.over.ensures.starts_unused in
    let nine = admits_known _ terms unused c.fits-nine.ensures.used_plus_demand_is_permitted in
    let ten = admits_known _ terms unused c.fits-ten.ensures.used_plus_demand_is_permitted in
    record { load_nine_is_permitted_and_load_ten_is_not = λ i. Some (nine i, ten i) }
