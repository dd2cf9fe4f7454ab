-- Bands and their code blocks (ISO/IEC 15444-1, B.5 and B.7).
use Rattle.std.specs.Prelude.{ℕ, ◌+◌, ◌-◌, ◌*◌, ◌/◌, ◌<◌, ◌≤◌, ◌≡◌, min}
use Rattle.cine_nums.specs.Coding.{block_side, band_precinct_side}
use Rattle.cine_nums.specs.Division.{div_up}
use Rattle.cine_nums.specs.declared.orient.Orient.{Orient}
use Rattle.cine_nums.specs.declared.orient.Orient.TheVariants.{LL, HL, LH, HH}
use Rattle.band_geometry.specs.Sizes.{res_side}
use Rattle.band_geometry.specs.declared.geometry.Geometry.{Geometry}
use Rattle.band_geometry.specs.declared.places.Rect.{Rect}
use Rattle.band_geometry.specs.declared.places.BlockId.{BlockId}
use Rattle.band_geometry.specs.declared.places.BlockRange.{BlockRange}

-- the sides of resolution r
abbrev pub res_width : Geometry → ℕ → ℕ
res_width g r = res_side g.levels g.width r

abbrev pub res_height : Geometry → ℕ → ℕ
res_height g r = res_side g.levels g.height r

-- which bands stand at a resolution: LL at the lowest, the other three above it
abbrev pub IsOrientAt : ℕ → Orient → Type 0
IsOrientAt r LL = r ≡ 0
IsOrientAt r HL = 1 ≤ r
IsOrientAt r LH = 1 ≤ r
IsOrientAt r HH = 1 ≤ r

-- the band is there
pub record HasBand (g : Geometry) (r : ℕ) (o : Orient) : Type 0 where
  pub res : r ≤ g.levels
  pub orient : IsOrientAt r o

-- where the band stands in the transformed plane: resolution r - 1 fills the upper left corner of
-- resolution r, and the three bands of resolution r the rest of it
abbrev pub band_of : Geometry → ℕ → Orient → Rect
band_of g r LL = record {
  x = 0;
  y = 0;
  width = res_width g 0;
  height = res_height g 0;
}
band_of g r HL = record {
  x = res_width g (r - 1);
  y = 0;
  width = res_width g r - res_width g (r - 1);
  height = res_height g (r - 1);
}
band_of g r LH = record {
  x = 0;
  y = res_height g (r - 1);
  width = res_width g (r - 1);
  height = res_height g r - res_height g (r - 1);
}
band_of g r HH = record {
  x = res_width g (r - 1);
  y = res_height g (r - 1);
  width = res_width g r - res_width g (r - 1);
  height = res_height g r - res_height g (r - 1);
}

-- the offsets of equation B-15 (Table B.1), xob and yob: 1 where the band is high-pass along a row,
-- and where it is high-pass along a column
abbrev pub offset_across : Orient → ℕ
offset_across LL = 0
offset_across HL = 1
offset_across LH = 0
offset_across HH = 1

abbrev pub offset_down : Orient → ℕ
offset_down LL = 0
offset_down HL = 0
offset_down LH = 1
offset_down HH = 1

-- how many code blocks a band has across and down, from the band's corner on
abbrev pub block_columns : Geometry → ℕ → Orient → ℕ
block_columns g r o = div_up (band_of g r o).width block_side

abbrev pub block_rows : Geometry → ℕ → Orient → ℕ
block_rows g r o = div_up (band_of g r o).height block_side

-- the block is there
pub record IsBlock (g : Geometry) (id : BlockId) : Type 0 where
  pub component : id.component < 3
  pub band : HasBand g id.res id.orient
  pub column : id.x < block_columns g id.res id.orient
  pub row : id.y < block_rows g id.res id.orient

-- the block's places in the plane, cut at the band's right and lower edge
abbrev pub block_of : Geometry → BlockId → Rect
block_of g id = let band = band_of g id.res id.orient in record {
  x = band.x + block_side * id.x;
  y = band.y + block_side * id.y;
  width = min block_side (band.width - block_side * id.x);
  height = min block_side (band.height - block_side * id.y);
}

-- the place (x, y) lies in the rectangle
pub record IsPlaceIn (r : Rect) (x y : ℕ) : Type 0 where
  pub left : r.x ≤ x
  pub right : x < r.x + r.width
  pub top : r.y ≤ y
  pub bottom : y < r.y + r.height

-- the place (x, y) of the transformed plane is one of a band
pub record IsInBand (g : Geometry) (x y : ℕ) : Type 0 where
  pub res : ℕ
  pub orient : Orient
  pub band : HasBand g res orient
  pub place : IsPlaceIn (band_of g res orient) x y

-- the block is one of this band of component c, and the place (x, y) of the plane lies in it
pub record HoldsPlace (g : Geometry) (c r : ℕ) (o : Orient) (x y : ℕ) (id : BlockId) : Type 0 where
  pub exists : IsBlock g id
  pub component : id.component ≡ c
  pub res : id.res ≡ r
  pub orient : id.orient ≡ o
  pub place : IsPlaceIn (block_of g id) x y

-- the blocks along one side of a precinct in a band
abbrev pub blocks_along_precinct : ℕ
blocks_along_precinct = band_precinct_side / block_side

-- the blocks of the band in precinct (px, py), at most 4 by 4; what lies past the band's edge is
-- cut off
abbrev pub precinct_blocks_of : Geometry → ℕ → Orient → ℕ → ℕ → BlockRange
precinct_blocks_of g r o px py = record {
  x0 = min (blocks_along_precinct * px) (block_columns g r o);
  y0 = min (blocks_along_precinct * py) (block_rows g r o);
  x1 = min (blocks_along_precinct * px + blocks_along_precinct) (block_columns g r o);
  y1 = min (blocks_along_precinct * py + blocks_along_precinct) (block_rows g r o);
}

-- the block in column x and row y of a band is one of the range
pub record IsInRange (range : BlockRange) (x y : ℕ) : Type 0 where
  pub left : range.x0 ≤ x
  pub right : x < range.x1
  pub top : range.y0 ≤ y
  pub bottom : y < range.y1
