-- Bands are no larger than the frame.
use Rattle.std.proofs.Common.{◌≡◌, ℕ, zero, suc, ◌+◌, ◌-◌, ◌*◌, ◌/◌, ◌%◌, ◌^◌, ◌<◌, ◌≤◌, arith, ap}
use Rattle.std.proofs.Math.Nat.{div-le_of_le-mul}
use Rattle.std.proofs.lemmas.Nat.{pow_pos, div_below, mod_below}
use Rattle.cine_nums.specs.Profile.{max_width_of, max_height_of}
use Rattle.cine_nums.specs.declared.profile.Profile.{Profile}
use Rattle.cine_nums.specs.declared.profile.Profile.TheVariants.{TwoK, FourK}
use Rattle.cine_nums.specs.declared.orient.Orient.{Orient}
use Rattle.cine_nums.specs.declared.orient.Orient.TheVariants.{LL, HL, LH, HH}
use Rattle.band_geometry.specs.Sizes.{res_side}
use Rattle.band_geometry.specs.Bands.{band_of}
use Rattle.band_geometry.specs.declared.geometry.Geometry.{Geometry}
use Rattle.band_geometry.specs.declared.places.Rect.{Rect}

rounded_le : (n d : ℕ) → 1 ≤ n → 1 ≤ d → (n + (d - 1)) / d ≤ n
rounded_le zero d some pos = omega arith
rounded_le (suc n) zero some pos = omega arith
rounded_le (suc n) (suc d) some pos =
    let fits : suc n + (suc d - 1) ≤ suc d * suc n = grind arith in div-le_of_le-mul (suc d) fits

pub res_side_le : (levels side r : ℕ) → 1 ≤ side → res_side levels side r ≤ side
res_side_le levels side r some = rounded_le side (2 ^ (levels - r)) some (pow_pos (levels - r))

max_width_le : (p : Profile) → max_width_of p ≤ 4096
max_width_le TwoK = omega arith
max_width_le FourK = omega arith

max_height_le : (p : Profile) → max_height_of p ≤ 4096
max_height_le TwoK = omega arith
max_height_le FourK = omega arith

band_width_le : (g : Geometry) (r : ℕ) (o : Orient) → (band_of g r o).width ≤ g.width
band_width_le g r LL = res_side_le g.levels g.width 0 g.some_width
band_width_le g r HL = omega (arith, res_side_le g.levels g.width r g.some_width)
band_width_le g r LH = res_side_le g.levels g.width (r - 1) g.some_width
band_width_le g r HH = omega (arith, res_side_le g.levels g.width r g.some_width)

band_height_le : (g : Geometry) (r : ℕ) (o : Orient) → (band_of g r o).height ≤ g.height
band_height_le g r LL = res_side_le g.levels g.height 0 g.some_height
band_height_le g r HL = res_side_le g.levels g.height (r - 1) g.some_height
band_height_le g r LH = omega (arith, res_side_le g.levels g.height r g.some_height)
band_height_le g r HH = omega (arith, res_side_le g.levels g.height r g.some_height)

-- no band has more than 4096 columns or rows
pub record IsSmall (r : Rect) : Type 0 where
  pub width : r.width ≤ 4096
  pub height : r.height ≤ 4096

pub band_fits : (g : Geometry) (r : ℕ) (o : Orient) (band : Rect) → band ≡ band_of g r o →
    IsSmall band
band_fits g r o band is =
    let width : band.width ≡ (band_of g r o).width = ap (λ b. b.width) is in
    let height : band.height ≡ (band_of g r o).height = ap (λ b. b.height) is in
    record {
      width = omega (arith, width, band_width_le g r o, max_width_le g.profile, g.width_in_profile);
      height = omega (arith, height, band_height_le g r o, max_height_le g.profile, g.height_in_profile);
    }

-- a place in a grid of rows by columns has a row and a column
pub record IsInGrid (rows columns n : ℕ) : Type 0 where
  pub some : 0 < columns
  pub column : n % columns < columns
  pub row : n / columns < rows

pub in_grid : (rows columns n : ℕ) → n < rows * columns → IsInGrid rows columns n
in_grid rows zero n below = omega arith
in_grid rows (suc columns) n below = record {
  some = omega arith;
  column = mod_below n (suc columns) (omega arith);
  row = div_below n (suc columns) rows (omega arith) below;
}
