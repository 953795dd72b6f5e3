use Rattle.std.proofs.Common.{◌≡◌, ◌-◌, ap, ◌∙◌}
use Rattle.pools.specs.Totals.{total, plus}
use Rattle.measures.specs.Holdings.{held, holding_of}
use Rattle.measures.specs.Accounts.{with_holding}
use Rattle.timelines.proofs.compare.rise.Goals as goal

pub returns-clause-level_with_the_task_less_the_level : goal.returns-clause-level_with_the_task_less_the_level
returns-clause-level_with_the_task_less_the_level g c =
    let account = c.args.account.now in
    let sum = plus (held account.holding) (total c.args.demand) in
    let added = c.in_ok-holding.ensures.sum_if_64_bits in
    let grown : c.level.result ≡ g.M.Measure.level c.args.measure.now (with_holding account (holding_of sum)) c.args.tick = c.level.ensures.level_at_the_tick ∙ ap (λ h. g.M.Measure.level c.args.measure.now (with_holding account h) c.args.tick) added.1 in
    (added.0, λ i. grown i - c.level-2.ensures.level_at_the_tick i)
