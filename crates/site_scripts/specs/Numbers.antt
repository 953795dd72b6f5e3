-- The number that decimal digits write.
use Rattle.std.specs.Prelude.{◌≡◌, ℕ, true, ◌+◌, ◌-◌, ◌*◌, cond, List, [], ◌∷◌, length, nat_lt, slice_index_or}
use Rattle.std.specs.Borrow.{Bor}
use Rattle.std.specs.Str.{all_ascii_digits}
use Rattle.pools.specs.Totals.{Total}

-- on from n: each digit makes it ten times as large and adds itself; the digit 0 has the code 48
abbrev pub read_on : ℕ → List ℕ → ℕ
read_on n [] = n
read_on n (c ∷ cs) = read_on (10 * n + (c - 48)) cs

abbrev pub decimal_value : List ℕ → ℕ
decimal_value digits = read_on 0 digits

-- the word is digits and nothing else, and they write the number
abbrev pub Writes : List ℕ → ℕ → Type 0
Writes word n = (all_ascii_digits word ≡ true) × (n ≡ decimal_value word)

-- the number of the word at a place, 0 where there is no such word; d only stands for a word that is not there
abbrev pub number_at : Bor (List ℕ) → List (Bor (List ℕ)) → ℕ → ℕ
number_at d words i = cond (nat_lt i (length words)) (decimal_value (slice_index_or words i d).now) 0

abbrev pub numbers : Bor (List ℕ) → List (Bor (List ℕ)) → Total
numbers d words = record { s0 = number_at d words 0; s1 = number_at d words 1; s2 = number_at d words 2; s3 = number_at d words 3 }
