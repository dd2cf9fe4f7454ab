-- The quantiser with a dead zone (ISO/IEC 15444-1, Annexes E.1 and E.2).
use Rattle.std.specs.Prelude.{ℕ, ◌+◌, ◌-◌, ◌*◌, ◌/◌, ◌^◌, min, ℤ, pos, ◌&&◌, nat_lt, int_lt}
use Rattle.std.specs.Prelude.{unsigned_abs}
use Rattle.dz_quantiser.specs.Coefficient.{Coefficient}
use Rattle.dz_quantiser.specs.declared.band.BandStep.{BandStep}

-- the size of a transformed sample over the step, rounded down (E.2). The sample has 13 bits after
-- the point, and the step is 2 ^ (range - exponent) * (1 + mantissa / 2 ^ 11) (E-3)
abbrev pub quotient : ℕ → BandStep → ℕ → ℕ
quotient size step range =
    size * 2 ^ (step.exponent - range) * 2048 / (8192 * (2048 + step.mantissa))

-- the magnitude of the index, kept below 2 to the number of magnitude bit-planes
abbrev pub magnitude_of : ℤ → BandStep → ℕ → ℕ → ℕ
magnitude_of y step range planes = min (quotient (unsigned_abs y) step range) (2 ^ planes - 1)

-- the index with its sign, which is that of y, and plus where the index is 0
abbrev pub index_of : ℤ → BandStep → ℕ → ℕ → Coefficient
index_of y step range planes = record {
  magnitude = magnitude_of y step range planes;
  negative = nat_lt 0 (magnitude_of y step range planes) && int_lt y (pos 0);
}
