-- Totals of two supplies.
use Rattle.std.proofs.Common.{ℕ}
use Rattle.pools.specs.Totals.{Total}

abbrev pub pair : ℕ → ℕ → Total
pair a b = record { s0 = a; s1 = b; s2 = 0; s3 = 0 }
