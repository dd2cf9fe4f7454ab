-- Fixed-point arithmetic with 16 bits after the point, and the range that transformed samples
-- keep.
use Rattle.std.specs.Prelude.{ℤ, pos, negsuc, ◌+ℤ◌, ◌*ℤ◌, ◌≤ℤ◌}
use Rattle.std.specs.Int.{int_shr, saturate_to_bits}

-- c * x / 2^16, rounded to the nearest whole number, and upwards where two are as near
unfoldable pub mul16 : ℤ → ℤ → ℤ
mul16 c x = int_shr ((c *ℤ x) +ℤ pos 32768) 16

-- the number nearest to x from -2^30 to 2^30 - 1
unfoldable pub limit30 : ℤ → ℤ
limit30 x = saturate_to_bits 30 x

-- x lies from -2^30 to 2^30 - 1
abbrev pub Within30 : ℤ → Type 0
Within30 x = (negsuc 1073741823 ≤ℤ x) × (x ≤ℤ pos 1073741823)
