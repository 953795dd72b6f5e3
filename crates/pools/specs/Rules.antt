-- When a request for a load limit becomes a rule.
use Rattle.std.specs.Prelude.{◌≡◌, true, false, Ok, Err, Result}
use Rattle.pools.specs.declared.fault.PoolFault.{PoolFault}
use Rattle.pools.specs.declared.fault.PoolFault.TheVariants.{BadLayer}
use Rattle.pools.specs.declared.load_request.LoadRequest.{LoadRequest}
use Rattle.pools.specs.declared.load_rule.LoadRule.{LoadRule}
use Rattle.pools.specs.Totals.{of_array}
use Rattle.pools.specs.Ranges.{in_range}

-- with the numbers of the request exactly when they are in range, and else the layer is a bad one
abbrev pub MadeExactlyWhenInRange : LoadRequest → Result LoadRule PoolFault → Type 0
MadeExactlyWhenInRange asked (Ok rule) = (in_range (of_array asked.weights) asked.limit ≡ true) × ((rule.weights ≡ asked.weights) × (rule.limit ≡ asked.limit))
MadeExactlyWhenInRange asked (Err fault) = (in_range (of_array asked.weights) asked.limit ≡ false) × (fault ≡ BadLayer)
