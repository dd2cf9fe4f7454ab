-- The number of a block, by counting how many stand before it in the list of all blocks. That it
-- is the block's place in that list say the clauses `value` and `counted` of `number`.
use Rattle.std.specs.Prelude.{ℕ, zero, suc, ◌+◌, ◌*◌}
use Rattle.cine_nums.specs.declared.orient.Orient.{Orient}
use Rattle.cine_nums.specs.declared.orient.Orient.TheVariants.{LL, HL, LH, HH}
use Rattle.band_geometry.specs.Bands.{block_columns, block_rows}
use Rattle.band_geometry.specs.declared.geometry.Geometry.{Geometry}
use Rattle.band_geometry.specs.declared.places.BlockId.{BlockId}

-- the blocks of a band
unfoldable pub band_count : Geometry → ℕ → Orient → ℕ
band_count g r o = block_rows g r o * block_columns g r o

-- the blocks of a resolution
abbrev pub res_count : Geometry → ℕ → ℕ
res_count g zero = band_count g zero LL
res_count g (suc r) = band_count g (suc r) HL + band_count g (suc r) LH + band_count g (suc r) HH

-- the blocks of the resolutions below r
unfoldable pub count_below : Geometry → ℕ → ℕ
count_below g zero = 0
count_below g (suc r) = count_below g r + res_count g r

-- the blocks of a component
abbrev pub component_count : Geometry → ℕ
component_count g = count_below g (g.levels + 1)

-- the blocks of the bands that stand before this one at its resolution
abbrev pub count_before_band : Geometry → ℕ → Orient → ℕ
count_before_band g r LL = 0
count_before_band g r HL = 0
count_before_band g r LH = band_count g r HL
count_before_band g r HH = band_count g r HL + band_count g r LH

-- the place of a block among those of its resolution
abbrev pub place_in_res : Geometry → BlockId → ℕ
place_in_res g id =
    count_before_band g id.res id.orient + id.y * block_columns g id.res id.orient + id.x

-- the place of a block among all
abbrev pub number_of : Geometry → BlockId → ℕ
number_of g id =
    id.component * component_count g + count_below g id.res +
    count_before_band g id.res id.orient + id.y * block_columns g id.res id.orient + id.x
