-- The decomposition levels of the bands (ISO/IEC 15444-1, B.5).
use Rattle.std.specs.Prelude.{ℕ, zero, suc, ◌-◌}

-- the decomposition level n of the bands of resolution r, of L levels: L for LL, L - r + 1 above it
abbrev pub band_level : ℕ → ℕ → ℕ
band_level levels zero = levels
band_level levels (suc r) = levels - r
