-- The decomposition levels of the bands above the lowest resolution.
use Rattle.std.proofs.Common.{◌≡◌, ℕ, zero, suc, ◌-◌, ◌≤◌, arith}
use Rattle.cine_nums.specs.Levels.{band_level}

-- the level of a resolution's bands is one more than the halvings up to the resolution
pub band_level-above : (levels r : ℕ) → 1 ≤ r → r ≤ levels → band_level levels r ≡ suc (levels - r)
band_level-above levels zero some enough = absurd (omega (arith, some))
band_level-above levels (suc r) some enough = omega (arith, enough)
