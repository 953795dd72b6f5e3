-- What is told of each refusal of a pool: its number, and the layer of the scheduler in which it arises.
use Rattle.std.specs.Prelude.{ℕ}
use Rattle.pools.specs.declared.fault.Layer.{Layer}
use Rattle.pools.specs.declared.fault.Layer.TheVariants.{Pool}
use Rattle.pools.specs.declared.fault.PoolFault.{PoolFault}
use Rattle.pools.specs.declared.fault.PoolFault.TheVariants.{BadLayer, MoreThanUsed, InUse, DoesNotFit}

-- the number by which a refusal is told, and its layer
pub record FaultCode : Type 0 where
  pub number : ℕ
  pub layer : Layer

abbrev pub code_of : PoolFault → FaultCode
code_of BadLayer = record { number = 9; layer = Pool }
code_of MoreThanUsed = record { number = 28; layer = Pool }
code_of InUse = record { number = 29; layer = Pool }
code_of DoesNotFit = record { number = 30; layer = Pool }
