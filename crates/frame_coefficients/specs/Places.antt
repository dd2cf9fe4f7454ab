-- The coefficients of a transformed plane: the index of each place, by the step of the band that it
-- is in (ISO/IEC 15444-1, Annexes B.5 and E.2). A plane is the list of its cells in raster order.
use Rattle.std.specs.Prelude.{ℕ, ◌/◌, ◌%◌, max, ℤ, pos, List, map, length, slice_index_or}
use Rattle.std.specs.List.{range_with_len}
use Rattle.cine_nums.specs.declared.orient.Orient.{Orient}
use Rattle.band_geometry.specs.Places.{res_at, orient_of}
use Rattle.dz_quantiser.specs.Bands.{step_of, range_of, band_planes}
use Rattle.dz_quantiser.specs.Index.{index_of}
use Rattle.dz_quantiser.specs.Coefficient.{Coefficient}
use Rattle.dz_quantiser.specs.declared.steps.StepSizes.{StepSizes}

-- the index of a cell of a band
abbrev pub index_in : StepSizes → ℕ → Orient → ℤ → Coefficient
index_in steps r o v = index_of v (step_of steps r o) (range_of o) (band_planes steps r o)

-- the index of the cell in a column of resolution c and a row of resolution r, which is one of the
-- band at the larger of the two
abbrev pub index_at : StepSizes → ℕ → ℕ → ℤ → Coefficient
index_at steps c r v = index_in steps (max c r) (orient_of c r) v

-- the coefficient at place n of a transformed plane of so many levels, this width and this height,
-- and those at all places
unfoldable pub coef_at : ℕ → ℕ → ℕ → StepSizes → List ℤ → ℕ → Coefficient
coef_at levels width height steps cells n =
    index_at steps (res_at levels width (n % width)) (res_at levels height (n / width))
    (slice_index_or cells n (pos 0))

unfoldable pub quantised : ℕ → ℕ → ℕ → StepSizes → List ℤ → List Coefficient
quantised levels width height steps cells =
    map (coef_at levels width height steps cells) (range_with_len 0 (length cells))
