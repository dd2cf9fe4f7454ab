-- The code-blocks of a frame by their numbers, as an allocation names them.
use Rattle.std.specs.Prelude.{ℕ, ◌+◌, List, [], ◌∷◌, get_or, map}
use Rattle.std.specs.List.{range_with_len}
use Rattle.cine_nums.specs.declared.orient.Orient.TheVariants.{LL}
use Rattle.band_geometry.specs.Numbering.{all_blocks}
use Rattle.band_geometry.specs.declared.geometry.Geometry.{Geometry}
use Rattle.band_geometry.specs.declared.places.BlockId.{BlockId}
use Rattle.budget_duals.specs.declared.members.Members.{Members}
use Rattle.codeblock_views.specs.declared.plane.CoefPlane.{CoefPlane}
use Rattle.dz_quantiser.specs.declared.steps.StepSizes.{StepSizes}
use Rattle.profile_reader.specs.Chosen.{Planes}
use Rattle.rd_hulls.specs.declared.point.Point.{Point}
use Rattle.frame_packets.specs.Changes.{block_members}
use Rattle.frame_choice.specs.Choice.{block_bytes, block_distortion, block_passes}

-- the block with this number
abbrev pub block_numbered : Geometry → ℕ → BlockId
block_numbered g n =
    get_or (all_blocks g) n (record { component = 0; res = 0; orient = LL; x = 0; y = 0 })

-- its budgets
abbrev pub inside_at : Geometry → ℕ → Members
inside_at g n = block_members g (block_numbered g n)

-- how many passes each block has
abbrev pub most_passes : Geometry → Planes → List ℕ
most_passes g planes = map (block_passes g planes) (all_blocks g)

-- the point of a block's first k passes
abbrev pub point_of : Geometry → StepSizes → Planes → BlockId → ℕ → Point
point_of g steps planes b k = record {
  len = block_bytes g steps planes b k;
  dist = block_distortion g planes b k;
  passes = k;
}

-- the points of a block, for each number of passes that it has, from none on
abbrev pub points_of : Geometry → StepSizes → Planes → BlockId → List Point
points_of g steps planes b =
    map (point_of g steps planes b) (range_with_len 0 (block_passes g planes b + 1))

-- the coefficients of the three components
abbrev pub three_planes : CoefPlane → CoefPlane → CoefPlane → Planes
three_planes c0 c1 c2 c = get_or (c0.cells.items ∷ c1.cells.items ∷ c2.cells.items ∷ []) c []
