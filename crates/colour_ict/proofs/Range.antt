-- The transformed components of samples of 12 bits lie far inside the range of the wavelet
-- transform.
use Rattle.std.proofs.Common.{ℕ, ◌≤◌, ℤ, pos, negsuc, arith, subst, FitsSigned, w32}
use Rattle.std.specs.Int.{int_shr}
use Rattle.std.proofs.lemmas.Int.{ints}
use Rattle.cine_nums.specs.Fixed.{Within30}
use Rattle.colour_ict.specs.Ict.{component0, component1, component2}
use Rattle.colour_ict.proofs.Matrix.{component0-is, component1-is, component2-is}

shr_within : (z : ℤ) → FitsSigned w32 z → Within30 (int_shr z 3)
shr_within (pos a) f = (omega (arith, ints), omega (arith, ints))
shr_within (negsuc a) f = (omega (arith, ints), omega (arith, ints))

pub component0-within : (x y z : ℕ) → x ≤ 4095 → y ≤ 4095 → z ≤ 4095 → Within30 (component0 x y z)
component0-within x y z hx hy hz =
    subst Within30 (component0-is x y z) (shr_within _ (omega (arith, ints)))

pub component1-within : (x y z : ℕ) → x ≤ 4095 → y ≤ 4095 → z ≤ 4095 → Within30 (component1 x y z)
component1-within x y z hx hy hz =
    subst Within30 (component1-is x y z) (shr_within _ (omega (arith, ints)))

pub component2-within : (x y z : ℕ) → x ≤ 4095 → y ≤ 4095 → z ≤ 4095 → Within30 (component2 x y z)
component2-within x y z hx hy hz =
    subst Within30 (component2-is x y z) (shr_within _ (omega (arith, ints)))
