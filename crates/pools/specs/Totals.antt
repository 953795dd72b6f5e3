-- Totals: one whole number for each of the four supplies, of any size. What the program's amounts mean.
use Rattle.std.specs.Prelude.{ℕ, ◌+◌, ◌-◌, ◌*◌, ◌≤◌, Bool, ◌&&◌, List, nat_le, slice_index}
use Rattle.pools.specs.declared.amounts.Amounts.{Amounts}

pub record Total : Type 0 where
  pub s0 : ℕ
  pub s1 : ℕ
  pub s2 : ℕ
  pub s3 : ℕ

-- four numbers of the program, one for each supply
abbrev pub of_array : List ℕ → Total
of_array xs = record { s0 = slice_index xs 0; s1 = slice_index xs 1; s2 = slice_index xs 2; s3 = slice_index xs 3 }

abbrev pub total : Amounts → Total
total a = of_array a.each

-- the same number in each supply
abbrev pub uniform : ℕ → Total
uniform n = record { s0 = n; s1 = n; s2 = n; s3 = n }

abbrev pub nothing : Total
nothing = uniform 0

-- the largest amounts of 32 bits
abbrev pub max_amounts : Total
max_amounts = uniform 4294967295

-- an operation in each supply
abbrev pub in_each : (ℕ → ℕ → ℕ) → Total → Total → Total
in_each f a b = record { s0 = f a.s0 b.s0; s1 = f a.s1 b.s1; s2 = f a.s2 b.s2; s3 = f a.s3 b.s3 }

abbrev pub plus : Total → Total → Total
plus a b = in_each ◌+◌ a b

-- the difference, 0 where it would be negative
abbrev pub minus : Total → Total → Total
minus a b = in_each ◌-◌ a b

-- a total is in no supply larger than another
pub record Within (a b : Total) : Type 0 where
  pub w0 : a.s0 ≤ b.s0
  pub w1 : a.s1 ≤ b.s1
  pub w2 : a.s2 ≤ b.s2
  pub w3 : a.s3 ≤ b.s3

-- the same as a test; specs/TotalLaws.antt shows that the two agree
abbrev pub is_within : Total → Total → Bool
is_within a b = nat_le a.s0 b.s0 && (nat_le a.s1 b.s1 && (nat_le a.s2 b.s2 && nat_le a.s3 b.s3))

-- weight times amount, added over the supplies
abbrev pub load : Total → Total → ℕ
load weights t = let terms = in_each ◌*◌ weights t in terms.s0 + terms.s1 + terms.s2 + terms.s3
