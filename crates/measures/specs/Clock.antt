-- The clock.
use Rattle.std.specs.Prelude.{ℕ, ◌^◌, ◌≤◌, min, max}

-- a tick past the end of the clock counts as the end
abbrev pub on_clock : ℕ → ℕ
on_clock t = min t (2 ^ 62)

-- k lies between two ticks, ends included, whichever of the two is the earlier
abbrev pub Between : ℕ → ℕ → ℕ → Type 0
Between t u k = (min t u ≤ k) × (k ≤ max t u)
