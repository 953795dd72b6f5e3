-- Holdings: what the running tasks of a house take together.
use Rattle.std.specs.Prelude.{ℕ, ◌-◌, ◌^◌, [], ◌∷◌, slice_index, refl}
use Rattle.pools.specs.Totals.{Total, of_array, uniform}
use Rattle.measures.specs.declared.holding.Holding.{Holding}

-- what is held, as a total
abbrev pub held : Holding → Total
held h = of_array h.each

-- what is held of one supply
abbrev pub held_of : Holding → ℕ → ℕ
held_of h s = slice_index h.each s

-- the holding of a total
abbrev pub holding_of : Total → Holding
holding_of t = record { each = t.s0 ∷ t.s1 ∷ t.s2 ∷ t.s3 ∷ []; one_for_each_supply = refl }

-- the largest amounts of 64 bits
abbrev pub max_held : Total
max_held = uniform (2 ^ 64 - 1)
