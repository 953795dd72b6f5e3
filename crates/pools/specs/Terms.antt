-- What a pool means: its terms, which never change, and what it answers beside a used total.
use Rattle.std.specs.Prelude.{Bool, cond, Ok, Err, Result}
use Rattle.pools.specs.declared.fault.PoolFault.{PoolFault}
use Rattle.pools.specs.Totals.{Total, plus, is_within}

-- a capacity for each supply, and which totals may be in use at once
pub record Terms : Type 0 where
  pub capacity : Total
  pub permitted : Total → Bool

-- the demand fits beside the used total
abbrev pub admits : Terms → Total → Total → Bool
admits m used demand = m.permitted (plus used demand)

-- the answer of a call that is refused exactly when its test fails
abbrev pub judged : Bool → PoolFault → Result (Unit {0}) PoolFault
judged passes fault = cond passes (Ok tt) (Err fault)

-- the bench permits every total within its capacities
abbrev pub bench_terms : Total → Terms
bench_terms c = record { capacity = c; permitted = λ t. is_within t c }
