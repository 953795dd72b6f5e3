use Rattle.std.proofs.Common.{◌*◌, ◌^◌, arith, rules}
use Rattle.pools.specs.declared.load_rule.LoadRule.{LoadRule}
use Rattle.pools.specs.declared.amounts.Amounts.{Amounts}
use Rattle.pools.specs.Totals.{of_array, total, uniform, max_amounts, in_each, Within}
use Rattle.pools.specs.TotalLaws.{test_within, terms_bounded}
use Rattle.pools.proofs.load_rule.LoadRule.allows.Goals as goal

bounds : (rule : LoadRule) (a : Amounts) → Within (total a) max_amounts → Within (in_each ◌*◌ (of_array rule.weights) (total a)) (uniform (2 ^ 42))
bounds rule a small = terms_bounded (test_within rule.weights_in_range) small

pub overflow_add-load-3 : goal.overflow_add-load-3
overflow_add-load-3 c = let b = bounds c.args.self c.args.amounts (search rules) in omega arith
