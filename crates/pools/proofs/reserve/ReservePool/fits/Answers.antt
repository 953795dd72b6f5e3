use Rattle.std.proofs.Common.{ap, ◌∙◌}
use Rattle.std.proofs.lemmas.Bool.{both_ways}
use Rattle.pools.specs.Totals.{total, nothing, is_within}
use Rattle.pools.specs.TotalLaws.{within_test, within_trans, within_sum, second_within, sum_without}
use Rattle.pools.specs.LayerLaws.{reserve_too_large}
use Rattle.pools.proofs.reserve.ReservePool.fits.Goals as goal
use Rattle.pools.proofs.reserve.ReservePool.fits.Goals.{else-is_zero-via-then-is_zero+else-is_zero-2, else-is_zero-via-else-is_zero}

pub returns-in-None : goal.returns-in-None
returns-in-None g c =
    let used = g.P.Pool.used c.args.self.now.below in
    let demand = total c.args.demand in
    let held = total c.args.self.now.held in
    record {
      used_plus_demand_is_permitted =
          reserve_too_large _ held (g.met.P.Pool.permitted_has_32_bits c.args.self.now.below) _
          (λ z. elim c.else-is_zero.branch [
            | else-is_zero-via-then-is_zero+else-is_zero-2 w ↦ both_ways _ w.if-is_zero-2.false (w.is_zero-then-is_zero.ensures.zero_in_each_supply ∙ ap (λ t. is_within t nothing) w.used.ensures.used_total ∙ within_test (within_trans (within_sum used demand) z))
            | else-is_zero-via-else-is_zero w ↦ both_ways _ w.if-is_zero.false (c.is_zero.ensures.zero_in_each_supply ∙ within_test (within_trans (second_within used demand) z))
          ])
          (λ small. c.in-None.ensures.sum_if_32_bits (within_trans (sum_without used demand held) small));
    }
