-- The terms of a layer over a pool, and when a layer is refused.
use Rattle.std.specs.Prelude.{ℕ, Bool, cond, ◌&&◌, ◌||◌, Some, None, Ok, Err, Option, Result, nat_le}
use Rattle.pools.specs.declared.fault.PoolFault.{PoolFault}
use Rattle.pools.specs.declared.fault.PoolFault.TheVariants.{BadLayer, InUse}
use Rattle.pools.specs.declared.pool.Pool.{Ghosts}
use Rattle.pools.specs.declared.load_limit.LoadLimit.{LoadLimit}
use Rattle.pools.specs.declared.refused.RefusedLayer.{RefusedLayer}
use Rattle.pools.specs.declared.reserve.Reserve.{Reserve}
use Rattle.pools.specs.Totals.{Total, of_array, total, nothing, plus, is_within, load}
use Rattle.pools.specs.Terms.{Terms}

-- a reserve permits a total exactly when the total plus the reserve is permitted below
abbrev pub reserve_terms : Terms → Total → Terms
reserve_terms m held = record { capacity = m.capacity; permitted = λ t. m.permitted (plus t held) }

-- the same with the zero total permitted in any case
abbrev pub reserve_permits : (Total → Bool) → Total → Total → Bool
reserve_permits permitted held t = is_within t nothing || permitted (plus t held)

-- What a value of the type `Reserve` means. The laws of a pool are owed of every value, also of one whose reserve does
-- not fit below. No constructor makes such a value: `Reserve::over` promises `reserve_terms` to the letter.
abbrev pub reserve_meaning : {P : Type 0} → Ghosts P → Reserve P → Terms
reserve_meaning pool s = record { capacity = (pool.terms s.below).capacity; permitted = reserve_permits (pool.terms s.below).permitted (total s.held) }

-- a load limit permits a total exactly when it is permitted below and its load is at most the limit
abbrev pub limit_permits : (Total → Bool) → Total → ℕ → Total → Bool
limit_permits permitted weights limit t = permitted t && nat_le (load weights t) limit

abbrev pub limit_terms : Terms → Total → ℕ → Terms
limit_terms m weights limit = record { capacity = m.capacity; permitted = limit_permits m.permitted weights limit }

abbrev pub limit_meaning : {P : Type 0} → Ghosts P → LoadLimit P → Terms
limit_meaning pool s = limit_terms (pool.terms s.below) (of_array s.rule.weights) s.rule.limit

-- why a layer is refused: its numbers are judged first, then whether the pool below is unused
abbrev pub layer_fault : Bool → Bool → Option PoolFault
layer_fault numbers_good unused = cond numbers_good (cond unused None (Some InUse)) (Some BadLayer)

-- the fault with which a layer was refused, if it was
abbrev pub fault_of : {S P : Type 0} → Result S (RefusedLayer P) → Option PoolFault
fault_of (Ok s) = None
fault_of (Err e) = Some e.fault
