-- The numbers of the code blocks: a block's number is its place in the list of all blocks.
use Rattle.std.specs.Prelude.{ℕ, zero, suc, ◌+◌, List, [], ◌∷◌, map}
use Rattle.std.specs.List.{flat_map, range_with_len}
use Rattle.cine_nums.specs.declared.orient.Orient.{Orient}
use Rattle.cine_nums.specs.declared.orient.Orient.TheVariants.{LL, HL, LH, HH}
use Rattle.band_geometry.specs.Bands.{block_columns, block_rows}
use Rattle.band_geometry.specs.declared.geometry.Geometry.{Geometry}
use Rattle.band_geometry.specs.declared.places.BlockId.{BlockId}

-- the bands of a resolution, in the order in which they stand in a codestream
abbrev pub orients_of : ℕ → List Orient
orients_of zero = LL ∷ []
orients_of (suc _) = HL ∷ LH ∷ HH ∷ []

-- one row of blocks, from left to right
unfoldable pub blocks_of_row : Geometry → ℕ → ℕ → Orient → ℕ → List BlockId
blocks_of_row g c r o y =
    map (λ x. record { component = c; res = r; orient = o; x = x; y = y })
    (range_with_len 0 (block_columns g r o))

-- the blocks of a band, row by row
unfoldable pub blocks_of_band : Geometry → ℕ → ℕ → Orient → List BlockId
blocks_of_band g c r o = flat_map (blocks_of_row g c r o) (range_with_len 0 (block_rows g r o))

-- the blocks of a resolution, band by band
unfoldable pub blocks_of_res : Geometry → ℕ → ℕ → List BlockId
blocks_of_res g c r = flat_map (blocks_of_band g c r) (orients_of r)

-- the blocks of a component, resolution by resolution
unfoldable pub blocks_of_component : Geometry → ℕ → List BlockId
blocks_of_component g c = flat_map (blocks_of_res g c) (range_with_len 0 (g.levels + 1))

-- the blocks of the three components
unfoldable pub all_blocks : Geometry → List BlockId
all_blocks g = flat_map (blocks_of_component g) (range_with_len 0 3)
