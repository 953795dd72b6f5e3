-- Commitments: what was recorded fades, and the excess since then comes in its place.
use Rattle.std.specs.Prelude.{ℕ, ◌+◌, ◌-◌, ◌*◌, ◌/◌}
use Rattle.measures.specs.Decay.{weight_after}

-- w of 65,536 parts of what was recorded and the rest of the excess, rounded down
unfoldable pub mixed : ℕ → ℕ → ℕ → ℕ
mixed w recorded excess = (w * recorded + (65536 - w) * excess) / 65536

-- the commitment so many ticks after it was recorded, under an excess that stood since then
unfoldable pub commitment_after : ℕ → ℕ → ℕ → ℕ
commitment_after elapsed recorded excess = mixed (weight_after elapsed) recorded excess
