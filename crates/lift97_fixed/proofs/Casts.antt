-- Samples that are passed, stored or widened keep their values.
use Rattle.std.proofs.Common.{◌≡◌, ℤ, pos, negsuc, ◌+ℤ◌, ◌≤ℤ◌, w32, w64, to_z, of_z, FitsSigned}
use Rattle.std.proofs.Common.{arith}
use Rattle.std.proofs.lemmas.Int.{ints, to_z-of_z}
use Rattle.cine_nums.specs.Fixed.{Within30}

-- a 32-bit number as the code passes it
abbrev pub passed : ℤ → ℤ
passed z = to_z w32 (of_z w32 z)

pub passed_within : (z : ℤ) → Within30 z → passed z ≡ z
passed_within z h = omega (arith, ints)

pub passed_fits : (z : ℤ) → FitsSigned w32 z → passed z ≡ z
passed_fits z h = to_z-of_z w32 z h

pub passed_sum : (x y : ℤ) → Within30 x → Within30 y → passed (passed x +ℤ passed y) ≡ x +ℤ y
passed_sum x y f g = omega (arith, ints)

-- the sum of a sample and a product
pub widened_sum : (x m : ℤ) → FitsSigned w32 x → negsuc 70368744177663 ≤ℤ m →
    m ≤ℤ pos 70368744177664 →
    to_z w64 (of_z w64 (to_z w64 (of_z w64 (passed x)) +ℤ to_z w64 (of_z w64 m))) ≡ x +ℤ m
widened_sum x m f low high = omega (arith, ints)
