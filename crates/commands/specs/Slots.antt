-- What a slot means: the pool in it.
use Rattle.std.specs.Prelude.{ℕ, suc}
use Rattle.pools.specs.declared.pool.Pool.{Ghosts}
use Rattle.pools.specs.Totals.{Total}
use Rattle.pools.specs.Terms.{Terms}
use Rattle.pools.specs.Layers.{reserve_meaning, limit_meaning}
use Rattle.commands.specs.declared.slot.Slot.{Slot}
use Rattle.commands.specs.declared.slot.Slot.TheVariants.{Free, Reserve, LoadLimit}

abbrev pub slot_terms : {P : Type 0} → Ghosts P → Slot P → Terms
slot_terms pool (Free p) = pool.terms p
slot_terms pool (Reserve s) = reserve_meaning pool s
slot_terms pool (LoadLimit s) = limit_meaning pool s

abbrev pub slot_used : {P : Type 0} → Ghosts P → Slot P → Total
slot_used pool (Free p) = pool.used p
slot_used pool (Reserve s) = pool.used s.below
slot_used pool (LoadLimit s) = pool.used s.below

-- a free slot is one place more than the stack in it has; over a filled one no more is laid
abbrev pub slot_places : {P : Type 0} → (P → ℕ) → Slot P → ℕ
slot_places places (Free p) = suc (places p)
slot_places places (Reserve s) = 0
slot_places places (LoadLimit s) = 0
