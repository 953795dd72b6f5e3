-- Two rows of four numbers, put together supply by supply.
use Rattle.std.specs.Prelude.{ℕ, ◌⊎◌, List, Some, None, Option, slice_index}

-- each supply was asked and gave its number of the result; where there is none, some supply gave none
abbrev pub AskedInEach : (ℕ → ℕ → Option ℕ → Type 0) → List ℕ → List ℕ → Option (List ℕ) → Type 0
AskedInEach gives a b (Some xs) = ((gives (slice_index a 0) (slice_index b 0) (Some (slice_index xs 0))) × (gives (slice_index a 1) (slice_index b 1) (Some (slice_index xs 1)))) × ((gives (slice_index a 2) (slice_index b 2) (Some (slice_index xs 2))) × (gives (slice_index a 3) (slice_index b 3) (Some (slice_index xs 3))))
AskedInEach gives a b None = (gives (slice_index a 0) (slice_index b 0) None ⊎ gives (slice_index a 1) (slice_index b 1) None) ⊎ (gives (slice_index a 2) (slice_index b 2) None ⊎ gives (slice_index a 3) (slice_index b 3) None)
