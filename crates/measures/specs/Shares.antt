-- Shares, parts and excess, in parts of 1,048,576.
use Rattle.std.specs.Prelude.{ℕ, ◌-◌, ◌*◌, ◌/◌, min}

-- what an amount takes of a capacity, rounded down; of no capacity that is nothing, since a quotient by 0 is 0
unfoldable pub share_of : ℕ → ℕ → ℕ
share_of amount capacity = min amount capacity * 1048576 / capacity

-- the part of each of so many seats, rounded down
unfoldable pub equal_part : ℕ → ℕ
equal_part seats = 1048576 / seats

-- what a share has beyond a part; nothing where it has less
abbrev pub excess_of : ℕ → ℕ → ℕ
excess_of share part = share - part
