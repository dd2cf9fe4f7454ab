-- The code-blocks of a frame with all their coding passes coded (ISO/IEC 15444-1, Annexes C and D).
use Rattle.std.specs.Prelude.{ℕ, ◌+◌, ◌-◌, ◌^◌, ◌<◌, ◌≤◌, ◌≡◌, Bool, List, [], ◌∷◌, ◌++◌}
use Rattle.std.specs.Prelude.{length, get_or, take, drop}
use Rattle.band_geometry.specs.Bands.{IsBlock}
use Rattle.band_geometry.specs.Counts.{number_of}
use Rattle.band_geometry.specs.Numbering.{all_blocks}
use Rattle.band_geometry.specs.declared.geometry.Geometry.{Geometry}
use Rattle.band_geometry.specs.declared.places.BlockId.{BlockId}
use Rattle.distortion_sums.specs.Distortion.{distortion}
use Rattle.dz_quantiser.specs.Bands.{band_planes}
use Rattle.dz_quantiser.specs.declared.steps.StepSizes.{StepSizes}
use Rattle.ebcot_contexts.specs.Contexts.{Shape}
use Rattle.profile_reader.specs.Chosen.{Planes, block_coefs, block_shape}
use Rattle.ebcot_passes.specs.Code.{IsPass, passes_of}
use Rattle.coded_blocks.specs.Rows.{KeepAtMost}
use Rattle.coded_blocks.specs.declared.blocks.CodedBlocks.{CodedBlocks}
use Rattle.ebcot_passes.specs.declared.coded.BlockCode.{BlockCode}
use Rattle.ebcot_passes.specs.declared.coded.CodedPass.{CodedPass}
use Rattle.coded_blocks.specs.declared.row.CodedBlock.{CodedBlock}

-- how many blocks there are
abbrev pub count_of : CodedBlocks → ℕ
count_of s = length s.rows.items

-- what is kept of the block with this number
abbrev pub row_at : CodedBlocks → ℕ → CodedBlock
row_at s n =
    get_or s.rows.items n
    (record { zero_planes = 0; passes = 0; first = 0; at = 0; start = 0 })

-- how many passes the block with this number has
abbrev pub passes_at : CodedBlocks → ℕ → ℕ
passes_at s n = (row_at s n).passes

-- One number for each block, by block number, and none above the number of its passes. Block
-- numbers are below 2^32.
pub record AreCounts (s : CodedBlocks) (counts : List ℕ) : Type 0 where
  pub long : length counts ≡ count_of s
  pub few : count_of s < 2 ^ 32
  pub most : (n : ℕ) → n < count_of s → get_or counts n 0 ≤ passes_at s n

-- What is kept of a block of a band of so many bit-planes: its coefficients and its shape say what
-- its passes are. Its passes are those from its first one on, and their code stands from its first
-- byte on.
pub record IsCodedBlock (coefs : List (ℕ × Bool)) (s : Shape) (band_planes : ℕ) (row : CodedBlock)
    (passes : List CodedPass) (bytes : List ℕ) : Type 0 where
  pub planes : s.planes ≤ band_planes
  pub zero_planes : row.zero_planes ≡ band_planes - s.planes
  pub passes_are : row.passes ≡ passes_of s.planes
  pub start_is : row.start ≡ distortion coefs s 0
  pub each : (k : ℕ) (other : CodedPass) → k < row.passes →
      IsPass coefs s k (get_or passes (row.first + k) other) (drop row.at bytes)

-- the blocks whose numbers are below n
pub record AreCodedBelow (g : Geometry) (steps : StepSizes) (planes : Planes) (n : ℕ)
    (s : CodedBlocks) : Type 0 where
  pub count : count_of s ≡ n
  pub each : (b : BlockId) → IsBlock g b → number_of g b < n →
      IsCodedBlock (block_coefs g planes b) (block_shape g planes b)
      (band_planes steps b.res b.orient) (row_at s (number_of g b)) s.passes.items s.bytes.items

-- All blocks of a frame with these coefficients, whose bands have these steps, are coded.
abbrev pub AreCoded : Geometry → StepSizes → Planes → CodedBlocks → Type 0
AreCoded g steps planes s = AreCodedBelow g steps planes (length (all_blocks g)) s

-- the row of a block that is joined to others
abbrev pub row_for : CodedBlocks → BlockCode → ℕ → CodedBlock
row_for s code zero_planes = record {
  zero_planes = zero_planes;
  passes = length code.passes.items;
  first = length s.passes.items;
  at = length s.bytes.items;
  start = code.start;
}

-- A block was joined to others: its row, its passes, and those bytes of the buffer that the code of
-- some of its passes keeps.
pub record IsJoined (code : BlockCode) (zero_planes : ℕ) (buffer : List ℕ) (old new : CodedBlocks)
    : Type 0 where
  pub kept : ℕ
  pub enough : KeepAtMost code.passes.items kept
  pub inside : kept ≤ length buffer
  pub rows : new.rows.items ≡ old.rows.items ++ row_for old code zero_planes ∷ []
  pub passes : new.passes.items ≡ old.passes.items ++ code.passes.items
  pub bytes : new.bytes.items ≡ old.bytes.items ++ take kept buffer
