-- The numbers of a load limit: the largest weight, in each supply, the largest limit, and when all are in range.
use Rattle.std.specs.Prelude.{ℕ, ◌^◌, Bool, ◌&&◌, nat_le}
use Rattle.pools.specs.Totals.{Total, uniform, is_within}

abbrev pub max_weights : Total
max_weights = uniform 1024

abbrev pub max_limit : ℕ
max_limit = 2 ^ 40

abbrev pub in_range : Total → ℕ → Bool
in_range weights limit = is_within weights max_weights && nat_le limit max_limit
