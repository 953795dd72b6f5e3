use Rattle.std.proofs.Common.{Some, ap, ◌∙◌}
use Rattle.pools.specs.Layers.{reserve_terms, limit_terms}
use Rattle.pools.proofs.TermLaws.{admits_known}
use Rattle.figures.proofs.Made.{made}
use Rattle.figures.proofs.Pairs.{pair}
use Rattle.figures.proofs.pool_figures.load_limit_over_reserve.Goals as goal

pub returns : goal.returns
returns c =
    let reserved = made c.over.result _ c.in_ok-reserved.ensures.value c.over.ensures.permits_what_fits_with_the_reserve ∙ ap (λ m. reserve_terms m (pair 1 0)) c.new-bench.ensures.permits_within_its_capacities in
    let is = c.in_ok-pool.ensures.value in
    let terms = made c.over-2.result _ is c.over-2.ensures.permits_up_to_the_limit ∙ ap (λ m. limit_terms m (pair 2 1) 9) reserved in
    let unused = made c.over-2.result _ is c.over-2.ensures.starts_unused in
    let answer = admits_known _ terms unused c.fits.ensures.used_plus_demand_is_permitted in
    record { reserve_does_not_count_in_the_load = λ i. Some (answer i) }
