-- The decay: how much of a recorded commitment is left after some ticks, in 65,536ths.
use Rattle.std.specs.Prelude.{◌≡◌, ℕ, zero, suc, ◌*◌, ◌/◌, ◌<◌, ◌≤◌, min, List, length, slice_index, slice_index_or}

-- each tick leaves 255/256 of the weight before it, rounded down
unfoldable pub decayed : ℕ → ℕ
decayed zero = 65536
decayed (suc k) = decayed k * 255 / 256

-- the weight after some ticks; more than 2,047 count as 2,047
unfoldable pub weight_after : ℕ → ℕ
weight_after elapsed = decayed (min elapsed 2047)

-- what the decay table must be, entry by entry
pub record DecayRule (entries : List ℕ) : Type 0 where
  pub has_2048_entries : length entries ≡ 2048
  pub starts_at_65536 : slice_index_or entries 0 0 ≡ 65536
  pub falls_by_one_in_256 : (k : ℕ) → suc k < 2048 → slice_index entries (suc k) ≡ slice_index entries k * 255 / 256
  pub never_rises : (j k : ℕ) → j ≤ k → k < 2048 → slice_index entries k ≤ slice_index entries j
  pub is_zero_from_1568 : (k : ℕ) → 1568 ≤ k → k < 2048 → slice_index entries k ≡ 0
