use Rattle.std.proofs.Common.{Some, ap, ◌∙◌}
use Rattle.pools.specs.Layers.{reserve_terms, limit_terms}
use Rattle.pools.proofs.TermLaws.{admits_known, reserve_fault_known}
use Rattle.figures.proofs.Made.{made, not_refused}
use Rattle.figures.proofs.Pairs.{pair}
use Rattle.figures.proofs.pool_figures.reserve_over_load_limit.Goals as goal

pub returns-in_err-pool : goal.returns-in_err-pool
returns-in_err-pool c =
    let is = c.in_ok-limited.ensures.value in
    let terms = made c.over.result _ is c.over.ensures.permits_up_to_the_limit ∙ ap (λ m. limit_terms m (pair 2 1) 9) c.new-bench.ensures.permits_within_its_capacities in
    let unused = made c.over.result _ is c.over.ensures.starts_unused in
    absurd (not_refused c.over-2.result c.in_err-pool.ensures.value (reserve_fault_known _ terms unused c.over-2.ensures.refused_if_it_does_not_fit_or_the_pool_is_in_use))

pub returns : goal.returns
returns c =
    let limited = made c.over.result _ c.in_ok-limited.ensures.value c.over.ensures.permits_up_to_the_limit ∙ ap (λ m. limit_terms m (pair 2 1) 9) c.new-bench.ensures.permits_within_its_capacities in
    let is = c.in_ok-pool.ensures.value in
    let terms = made c.over-2.result _ is c.over-2.ensures.permits_what_fits_with_the_reserve ∙ ap (λ m. reserve_terms m (pair 1 0)) limited in
    let unused = made c.over-2.result _ is c.over-2.ensures.starts_unused in
    let answer = admits_known _ terms unused c.fits.ensures.used_plus_demand_is_permitted in
    record { reserve_counts_in_the_load = λ i. Some (answer i) }
