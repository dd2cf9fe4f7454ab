-- The 9-7 wavelet transform of a plane in fixed point: ISO/IEC 15444-1, Annex F.4 (FDWT, 2D_SD,
-- VER_SD, HOR_SD and 2D_DEINTERLEAVE). A plane is the list of its cells in raster order, with its
-- width.
use Rattle.std.specs.Prelude.{ℕ, suc, zero, ◌+◌, ◌*◌, ◌/◌, ◌%◌, ℤ, List, map, length, nat_lt, ◌&&◌}
use Rattle.std.specs.Prelude.{if◌then◌else◌}
use Rattle.std.specs.List.{range_with_len}
use Rattle.cine_nums.specs.Division.{div_up}
use Rattle.lift97_fixed.specs.Line.{at, line_transform}

-- the cell in column x of row y
abbrev pub cell : ℕ → List ℤ → ℕ → ℕ → ℤ
cell width cells x y = at cells (y * width + x)

-- the first h cells of column x, and the first w cells of row y
abbrev pub column : ℕ → ℕ → List ℤ → ℕ → List ℤ
column width h cells x = map (λ y. cell width cells x y) (range_with_len 0 h)

abbrev pub row : ℕ → ℕ → List ℤ → ℕ → List ℤ
row width w cells y = map (λ x. cell width cells x y) (range_with_len 0 w)

-- a plane as large as `cells` whose cell in column x of row y is f x y
abbrev pub each_place : ℕ → List ℤ → (ℕ → ℕ → ℤ) → List ℤ
each_place width cells f = map (λ i. f (i % width) (i / width)) (range_with_len 0 (length cells))

-- The transform t of a line, applied to every column of the upper left rectangle of w columns and h
-- rows. The other cells stay.
unfoldable pub columns : (List ℤ → List ℤ) → ℕ → ℕ → ℕ → List ℤ → List ℤ
columns t width w h cells = each_place width cells (λ x y.
    if nat_lt x w && nat_lt y h then at (t (column width h cells x)) y else cell width cells x y)

-- the same for every row of the rectangle
unfoldable pub rows : (List ℤ → List ℤ) → ℕ → ℕ → ℕ → List ℤ → List ℤ
rows t width w h cells = each_place width cells (λ x y.
    if nat_lt x w && nat_lt y h then at (t (row width w cells y)) x else cell width cells x y)

-- one level: all columns, then all rows
abbrev pub one_level : ℕ → ℕ → ℕ → List ℤ → List ℤ
one_level width w h cells = rows line_transform width w h (columns line_transform width w h cells)

-- l levels, each on the LL part that the level before it leaves in the upper left corner
unfoldable pub levels_from : ℕ → ℕ → ℕ → ℕ → List ℤ → List ℤ
levels_from zero width w h cells = cells
levels_from (suc l) width w h cells =
    levels_from l width (div_up w 2) (div_up h 2) (one_level width w h cells)

-- the transform of l levels of a plane of this width and height
abbrev pub plane_transform : ℕ → ℕ → ℕ → List ℤ → List ℤ
plane_transform l width height cells = levels_from l width width height cells
