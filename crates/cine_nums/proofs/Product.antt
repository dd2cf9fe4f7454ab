-- How large a product of two 32-bit numbers is, and what a shift by 16 leaves of it.
use Rattle.std.proofs.Common.{◌≡◌, ◌≤◌, ℤ, pos, negsuc, ◌+ℤ◌, ◌*ℤ◌, ◌≤ℤ◌, w32, w64, to_z, of_z}
use Rattle.std.proofs.Common.{FitsSigned, arith}
use Rattle.std.specs.Int.Signed.{shr_z}
use Rattle.std.specs.Int.RustNames.{unsigned_abs}
use Rattle.std.proofs.lemmas.Int.{ints, to_z-of_z, unsigned_abs-mul}
use Rattle.std.proofs.Math.Nat.{mul-le-mul}

abs_of_32 : (z : ℤ) → FitsSigned w32 z → unsigned_abs z ≤ 2147483648
abs_of_32 z h = omega (arith, ints)

-- a product of two 32-bit numbers, with the half that rounds it
pub record IsProduct (z : ℤ) : Type 0 where
  pub low : negsuc 4611686018427387903 ≤ℤ z
  pub high : z ≤ℤ pos 4611686018427420672

product_is : (z : ℤ) → unsigned_abs z ≤ 4611686018427387904 → IsProduct (z +ℤ pos 32768)
product_is z h = record { low = omega (arith, ints); high = omega (arith, ints) }

pub product_of : (c x : ℤ) → FitsSigned w32 c → FitsSigned w32 x → IsProduct ((c *ℤ x) +ℤ pos 32768)
product_of c x f g = product_is (c *ℤ x)
    (rw (unsigned_abs-mul c x) (mul-le-mul (abs_of_32 c f) (abs_of_32 x g)))

pub shifted_low : (y : ℤ) → IsProduct y → negsuc 70368744177663 ≤ℤ shr_z y 65536
shifted_low (pos a) h = omega (arith, ints)
shifted_low (negsuc a) h = omega (arith, ints)

pub shifted_high : (y : ℤ) → IsProduct y → shr_z y 65536 ≤ℤ pos 70368744177664
shifted_high (pos a) h = omega (arith, ints)
shifted_high (negsuc a) h = omega (arith, ints)

pub widened : (z : ℤ) → FitsSigned w32 z → to_z w64 (of_z w64 (to_z w32 (of_z w32 z))) ≡ z
widened z h = omega (arith, ints)

product_fits : (y : ℤ) → IsProduct y → FitsSigned w64 y
product_fits y h = omega (arith, ints)

part_fits : (z : ℤ) → IsProduct (z +ℤ pos 32768) → FitsSigned w64 z
part_fits z h = omega (arith, ints)

shifted_fits : (y : ℤ) → negsuc 70368744177663 ≤ℤ y → y ≤ℤ pos 70368744177664 →
    to_z w64 (of_z w64 y) ≡ y
shifted_fits y l h = omega (arith, ints)

-- what the code computes, with its casts
pub computed : (c x : ℤ) → FitsSigned w32 c → FitsSigned w32 x →
    to_z w64 (of_z w64 (shr_z (to_z w64
    (of_z w64 (to_z w64 (of_z w64 (to_z w64 (of_z w64 (to_z w32 (of_z w32 c))) *ℤ to_z w64
    (of_z w64 (to_z w32 (of_z w32 x))))) +ℤ pos 32768))) 65536))
    ≡ shr_z ((c *ℤ x) +ℤ pos 32768) 65536
computed c x f g =
    let p = product_of c x f g in
    let whole : FitsSigned w64 ((c *ℤ x) +ℤ pos 32768) = product_fits ((c *ℤ x) +ℤ pos 32768) p in
    let part : FitsSigned w64 (c *ℤ x) = part_fits (c *ℤ x) p in
    rw (
      widened c f,
      widened x g,
      to_z-of_z w64 (c *ℤ x) part,
      to_z-of_z w64
          ((c *ℤ x) +ℤ pos 32768) whole,
    )
    (shifted_fits (shr_z ((c *ℤ x) +ℤ pos 32768) 65536) (shifted_low ((c *ℤ x) +ℤ pos 32768) p)
    (shifted_high ((c *ℤ x) +ℤ pos 32768) p))
