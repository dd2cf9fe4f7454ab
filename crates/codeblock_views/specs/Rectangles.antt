-- The cells of a rectangle of a plane. Both stand in raster order: row by row, each from left to
-- right.
use Rattle.std.specs.Prelude.{ℕ, ◌+◌, ◌*◌, ◌/◌, ◌%◌, ◌≤◌, ◌<◌, ◌≢◌, List, map, get_or}
use Rattle.std.specs.List.{range_with_len}
use Rattle.cine_nums.specs.Coding.{block_side}
use Rattle.band_geometry.specs.declared.places.Rect.{Rect}

-- where column x and row y of a rectangle stand in the list of a plane of this width
abbrev pub place_in : ℕ → Rect → ℕ → ℕ → ℕ
place_in width r x y = (r.y + y) * width + (r.x + x)

-- the cells of a rectangle; d is never one of them where the rectangle lies in the plane
unfoldable pub cells_in : {A : Type 0} → A → ℕ → Rect → List A → List A
cells_in d width r cells =
    map (λ i. get_or cells (place_in width r (i % r.width) (i / r.width)) d)
    (range_with_len 0 (r.height * r.width))

-- the rectangle lies in a plane of this size, and each of its sides may be one of a code block
pub record IsBlockIn (plane_width plane_height : ℕ) (r : Rect) : Type 0 where
  pub some_width : 1 ≤ r.width
  pub width : r.width ≤ block_side
  pub some_height : 1 ≤ r.height
  pub height : r.height ≤ block_side
  pub right : r.x + r.width ≤ plane_width
  pub bottom : r.y + r.height ≤ plane_height

-- place k of the list of a plane of this width is none of the rectangle
abbrev pub IsOutside : ℕ → Rect → ℕ → Type 0
IsOutside width r k = (x y : ℕ) → x < r.width → y < r.height → k ≢ place_in width r x y
