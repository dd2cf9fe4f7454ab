-- The code-blocks of a frame whose coding passes are coded on demand.
use Rattle.std.specs.Prelude.{ℕ, ◌≡◌, ◌<◌, List, length, slice_get, Option, Some, None}
use Rattle.cine_nums.specs.declared.orient.Orient.{Orient}
use Rattle.band_geometry.specs.Bands.{block_of}
use Rattle.band_geometry.specs.Numbering.{all_blocks}
use Rattle.band_geometry.specs.declared.geometry.Geometry.{Geometry}
use Rattle.band_geometry.specs.declared.places.BlockId.{BlockId}
use Rattle.codeblock_views.specs.Views.{view_cells}
use Rattle.codeblock_views.specs.declared.view.BlockView.{BlockView}
use Rattle.demand_blocks.specs.Blocks.{identity_in, known_in}
use Rattle.demand_blocks.specs.declared.block.DemandBlock.{DemandBlock}
use Rattle.profile_reader.specs.Chosen.{Planes, block_cells}
use Rattle.frame_choice.specs.Blocks.{block_numbered}

-- A view of a plane shows this code-block of the frame, and the orientation is that of its band.
pub record IsSeenAs (g : Geometry) (planes : Planes) (b : BlockId) (view : BlockView)
    (orient : Orient) : Type 0 where
  pub rect : view.rect ≡ block_of g b
  pub cells : view_cells view ≡ block_cells g planes b
  pub band : orient ≡ b.orient

abbrev pub IsSeen : Geometry → Planes → BlockId → Option (BlockView × Orient) → Type 0
IsSeen g planes b None = ⊥
IsSeen g planes b (Some i) = IsSeenAs g planes b i.0 i.1

-- The first n code-blocks of the frame, by their numbers.
pub record AreDemandedBelow (g : Geometry) (planes : Planes) (n : ℕ) (blocks : List DemandBlock)
    : Type 0 where
  pub long : length blocks ≡ n
  pub each : (k : ℕ) → k < n →
      IsSeen g planes (block_numbered g k) (identity_in (slice_get blocks k))

-- and all of them
abbrev pub AreDemanded : Geometry → Planes → List DemandBlock → Type 0
AreDemanded g planes blocks = AreDemandedBelow g planes (length (all_blocks g)) blocks

-- the passes of a choice are coded
abbrev pub AreCodedUpTo : Geometry → ℕ → (ℕ → ℕ) → List DemandBlock → Type 0
AreCodedUpTo g n counts blocks = (k : ℕ) → k < n → counts k < length (known_in (slice_get blocks k))
