-- What it means to lay a layer over a stack.
use Rattle.std.specs.Prelude.{ℕ, zero, suc, Bool, Some, None, Ok, Err, Option, Result}
use Rattle.std.specs.Option.{option_map}
use Rattle.pools.specs.Totals.{Total, of_array, total, nothing, is_within}
use Rattle.pools.specs.Ranges.{in_range}
use Rattle.pools.specs.Terms.{Terms, admits}
use Rattle.pools.specs.Layers.{reserve_terms, limit_terms, layer_fault}
use Rattle.commands.specs.declared.layer.NewLayer.{NewLayer}
use Rattle.commands.specs.declared.layer.NewLayer.TheVariants.{Reserve, LoadLimit}
use Rattle.commands.specs.declared.layer.Obstacle.{Obstacle}
use Rattle.commands.specs.declared.layer.Obstacle.TheVariants.{NoPlace, Refused}
use Rattle.commands.specs.declared.layer.NotLaid.{NotLaid}
use Rattle.commands.specs.declared.command.Refusal.{Refusal}
use Rattle.commands.specs.declared.command.Refusal.TheVariants as refusal

-- the terms of a layer over a pool
abbrev pub laid : Terms → NewLayer → Terms
laid m (Reserve held) = reserve_terms m (total held)
laid m (LoadLimit r) = limit_terms m (of_array r.weights) r.limit

-- whether the layer's numbers are good beside what is used below
abbrev pub numbers_good : Terms → Total → NewLayer → Bool
numbers_good m used (Reserve held) = admits m used (total held)
numbers_good m used (LoadLimit r) = in_range (of_array r.weights) r.limit

-- what stands in the way of a layer over a pool
abbrev pub pool_obstacle : Terms → Total → NewLayer → Option Obstacle
pool_obstacle m used layer = option_map Refused (layer_fault (numbers_good m used layer) (is_within used nothing))

-- the same over a stack: no place is left, or the pool refuses it
abbrev pub lay_obstacle : ℕ → Terms → Total → NewLayer → Option Obstacle
lay_obstacle zero m used layer = Some NoPlace
lay_obstacle (suc places) m used layer = pool_obstacle m used layer

abbrev pub obstacle_of : {S T : Type 0} → Result S (NotLaid T) → Option Obstacle
obstacle_of (Ok s) = None
obstacle_of (Err e) = Some e.obstacle

-- how an obstacle is told
abbrev pub refusal_of : Obstacle → Refusal
refusal_of NoPlace = refusal.NoPlace
refusal_of (Refused fault) = refusal.Refused fault
