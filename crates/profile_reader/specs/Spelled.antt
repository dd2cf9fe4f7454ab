-- What is spelled of code-blocks that mean cells: when it can be spelled, and what it is read as.
use Rattle.std.specs.Prelude.{ℕ, ◌<◌, ◌^◌, ◌≡◌, List, [], ◌∷◌, length, map}
use Rattle.std.specs.List.{All}
use Rattle.cine_nums.specs.Profile.{levels_of}
use Rattle.band_geometry.specs.Bands.{IsBlock}
use Rattle.band_geometry.specs.Numbering.{all_blocks}
use Rattle.band_geometry.specs.declared.geometry.Geometry.{Geometry}
use Rattle.band_geometry.specs.declared.places.BlockId.{BlockId}
use Rattle.codeblock_views.specs.Blocks.{plane_of}
use Rattle.codeblock_views.specs.KnownCells.{zero_known}
use Rattle.codeblock_views.specs.declared.known.Known.{Known}
use Rattle.dz_quantiser.specs.Bands.{band_planes, AreUsable}
use Rattle.dz_quantiser.specs.declared.steps.StepSizes.{StepSizes}
use Rattle.packet_headers.specs.Written.{CanWriteEntry, IsPlain}
use Rattle.profile_reader.specs.Packets.{BlockBytes}
use Rattle.profile_reader.specs.Reads.{BlockRead, Decoding, BlockMeans, Reads, Stream, StreamFits}
use Rattle.profile_reader.specs.Reads.{block_in, PartsSay}
use Rattle.profile_reader.specs.Spell.{part_lengths, header_for, spell}

-- what is written of a code-block can be written, in a band of so many magnitude bit-planes
pub record IsWritable (band_planes : ℕ) (written : BlockBytes) : Type 0 where
  pub can_write : CanWriteEntry band_planes written.entry
  pub plain : IsPlain written.entry
  pub len : length written.code ≡ written.entry.len

-- A codestream can be spelled of what is written of each code-block: the levels are those of the
-- writer, the steps are ones that the quantiser takes, each tile-part has a length of 32 bits, and
-- what is written of each block can be written.
pub record CanSpell (g : Geometry) (steps : StepSizes) (given : BlockId → BlockBytes)
    : Type 0 where
  pub levels : g.levels ≡ levels_of g.profile
  pub steps_usable : AreUsable g.levels steps
  pub lengths : All (λ n. n < 2 ^ 32) (part_lengths g steps given)
  pub writable : (b : BlockId) → IsBlock g b →
      IsWritable (band_planes steps b.res b.orient) (given b)

-- the decoding in which the blocks have these bit-planes, passes and cells
abbrev pub decoding_with : Geometry → StepSizes → (BlockId → BlockBytes) → (BlockId → BlockRead) →
    (BlockId → List Known) → Decoding
decoding_with g steps given reads cells = record {
  main = header_for g steps (part_lengths g steps given);
  blocks = map reads (all_blocks g);
  planes =
      plane_of zero_known g 0 cells ∷ plane_of zero_known g 1 cells ∷ plane_of zero_known g 2 cells
      ∷ [];
}

-- What is spelled of code-blocks that mean cells is read as these cells.
abbrev pub SpelledReads : Type 0
SpelledReads =
    (g : Geometry) (steps : StepSizes) (given : BlockId → BlockBytes) (reads : BlockId → BlockRead)
    (cells : BlockId → List Known) → CanSpell g steps given →
    ((b : BlockId) → IsBlock g b →
    BlockMeans g (band_planes steps b.res b.orient) b (given b) (reads b) (cells b)) →
    Reads (spell g steps given) (decoding_with g steps given reads cells)

-- Each code-block of the frame is said once: two lists of what is written of the blocks, both as
-- the packets of a codestream say, agree in each block.
abbrev pub SaidOnce : Type 0
SaidOnce =
    (s : Stream) (blocks others : List BlockBytes) → StreamFits s →
    PartsSay s.geometry blocks 0 s.parts → PartsSay s.geometry others 0 s.parts →
    (b : BlockId) → IsBlock s.geometry b → block_in s.geometry blocks b
    ≡ block_in s.geometry others b

-- What is written of a block means one thing.
abbrev pub MeansOnce : Type 0
MeansOnce =
    (g : Geometry) (band_planes : ℕ) (b : BlockId) (written : BlockBytes) (read other : BlockRead)
    (cells other_cells : List Known) → BlockMeans g band_planes b written read cells →
    BlockMeans g band_planes b written other other_cells → (read ≡ other) × (cells ≡ other_cells)

-- By the same words codestreams have one decoding.
abbrev pub OneDecoding : Type 0
OneDecoding =
    (bytes others : List ℕ) (d e : Decoding) (reads : Reads bytes d) (also : Reads others e) →
    reads.stream ≡ also.stream → d ≡ e
