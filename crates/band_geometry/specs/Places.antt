-- The band and the code block that have a place of the transformed plane (ISO/IEC 15444-1, B.5,
-- B.7).
use Rattle.std.specs.Prelude.{ℕ, zero, suc, ◌-◌, ◌/◌, ◌≡◌, max, nat_lt, nat_eq}
use Rattle.std.specs.Prelude.{if◌then◌else◌}
use Rattle.cine_nums.specs.Coding.{block_side}
use Rattle.cine_nums.specs.declared.orient.Orient.{Orient}
use Rattle.cine_nums.specs.declared.orient.Orient.TheVariants.{LL, HL, LH, HH}
use Rattle.band_geometry.specs.Sizes.{res_side}
use Rattle.band_geometry.specs.Bands.{band_of, block_of, IsBlock, IsPlaceIn}
use Rattle.band_geometry.specs.declared.geometry.Geometry.{Geometry}
use Rattle.band_geometry.specs.declared.places.BlockId.{BlockId}

-- The resolution of a column or a row i of the transformed plane, `side` giving the sides of the
-- resolutions: that of the resolution below where it is still inside, and so on down.
abbrev pub res_of : (ℕ → ℕ) → ℕ → ℕ → ℕ
res_of side zero i = 0
res_of side (suc r) i = if nat_lt i (side r) then res_of side r i else suc r

-- that of a column of a plane of this width and so many levels, or of a row of a plane of this
-- height
abbrev pub res_at : ℕ → ℕ → ℕ → ℕ
res_at levels side i = res_of (res_side levels side) levels i

-- The band in a column of resolution c and a row of resolution r stands at the larger of the two.
-- It is high-pass along a row where the column is of that resolution, and along a column where the
-- row is.
abbrev pub orient_of : ℕ → ℕ → Orient
orient_of c r =
    if nat_lt r c then HL else (if nat_lt c r then LH else (if nat_eq c 0 then LL else HH))

-- the resolution and the orientation of the band at a place
abbrev pub res_at_place : Geometry → ℕ → ℕ → ℕ
res_at_place g x y = max (res_at g.levels g.width x) (res_at g.levels g.height y)

abbrev pub orient_at_place : Geometry → ℕ → ℕ → Orient
orient_at_place g x y = orient_of (res_at g.levels g.width x) (res_at g.levels g.height y)

-- the block of component c at a place, by its distance from the band's corner
abbrev pub block_at_place : Geometry → ℕ → ℕ → ℕ → BlockId
block_at_place g c x y =
    let r = res_at_place g x y in
    let o = orient_at_place g x y in
    record {
      component = c;
      res = r;
      orient = o;
      x = (x - (band_of g r o).x) / block_side;
      y = (y - (band_of g r o).y) / block_side;
    }

-- the band of resolution r and orientation o is the one at a place
pub record IsBandAt (g : Geometry) (x y r : ℕ) (o : Orient) : Type 0 where
  pub res : res_at_place g x y ≡ r
  pub orient : orient_at_place g x y ≡ o

-- the block is one of component c, and has a place
pub record IsBlockAt (g : Geometry) (c x y : ℕ) (id : BlockId) : Type 0 where
  pub exists : IsBlock g id
  pub component : id.component ≡ c
  pub place : IsPlaceIn (block_of g id) x y
