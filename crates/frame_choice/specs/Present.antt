-- What is kept of each code-block at the present choice of passes, and the steps whose price
-- follows from it.
use Rattle.std.specs.Prelude.{ℕ, ◌≡◌, ◌+◌, ◌<◌, ◌≤◌, List, length, get_or}
use Rattle.band_geometry.specs.Numbering.{all_blocks}
use Rattle.band_geometry.specs.declared.geometry.Geometry.{Geometry}
use Rattle.band_geometry.specs.declared.places.BlockId.{BlockId}
use Rattle.dz_quantiser.specs.Bands.{band_planes}
use Rattle.dz_quantiser.specs.declared.steps.StepSizes.{StepSizes}
use Rattle.profile_reader.specs.Chosen.{Planes, block_coefs, block_shape, written_of}
use Rattle.profile_reader.specs.Packets.{BlockBytes}
use Rattle.rd_hulls.specs.declared.step.Step.{Step}
use Rattle.frame_choice.specs.Blocks.{block_numbered}
use Rattle.frame_choice.specs.Choice.{block_bytes}
use Rattle.frame_choice.specs.declared.present.PresentBlock.{PresentBlock}

-- what is written of a block's first k passes
abbrev pub block_written : Geometry → StepSizes → Planes → BlockId → ℕ → BlockBytes
block_written g steps planes b k =
    written_of (band_planes steps b.res b.orient) (block_coefs g planes b) (block_shape g planes b)
    k

-- the bytes of a block's first k passes, and the bit-planes of its largest magnitude
pub record IsPresent (g : Geometry) (steps : StepSizes) (planes : Planes) (b : BlockId) (k : ℕ)
    (kept : PresentBlock) : Type 0 where
  pub bytes : kept.bytes ≡ block_bytes g steps planes b k
  pub planes_are : kept.planes ≡ (block_shape g planes b).planes

-- that of the blocks below n, in their order, at the count of passes of each
pub record ArePresentBelow (g : Geometry) (steps : StepSizes) (planes : Planes) (counts : ℕ → ℕ)
    (n : ℕ) (present : List PresentBlock) : Type 0 where
  pub long : length present ≡ n
  pub each : (b : ℕ) → b < n → IsPresent g steps planes (block_numbered g b) (counts b)
      (get_or present b (record { bytes = 0; planes = 0 }))

-- and of all blocks of a frame at a choice
abbrev pub ArePresent : Geometry → StepSizes → Planes → List ℕ → List PresentBlock → Type 0
ArePresent g steps planes choice present =
    ArePresentBelow g steps planes (λ b. get_or choice b 0) (length (all_blocks g)) present

-- The length of a step is that by which the code of its block grows, to at most 131,072 bytes.
pub record IsKnownStep (g : Geometry) (steps : StepSizes) (planes : Planes) (s : Step) : Type 0
  where
    pub len : block_bytes g steps planes (block_numbered g s.block) s.from + s.len
        ≡ block_bytes g steps planes (block_numbered g s.block) s.to
    pub short : block_bytes g steps planes (block_numbered g s.block) s.to ≤ 131072
