-- The code-blocks of a codestream that was found: what is said of them can be decoded, and the
-- cells that are their meaning (ISO/IEC 15444-1, Annex D).
use Rattle.std.specs.Prelude.{ℕ, ◌≡◌, ◌≤◌, ◌<◌, List, [], ◌∷◌, length, map, get_or}
use Rattle.band_geometry.specs.Bands.{block_of, IsBlock}
use Rattle.band_geometry.specs.Counts.{number_of}
use Rattle.band_geometry.specs.Numbering.{all_blocks}
use Rattle.band_geometry.specs.declared.geometry.Geometry.{Geometry}
use Rattle.band_geometry.specs.declared.places.BlockId.{BlockId}
use Rattle.codeblock_views.specs.KnownCells.{zero_known}
use Rattle.codeblock_views.specs.Rectangles.{cells_in}
use Rattle.codeblock_views.specs.declared.known.Known.{Known}
use Rattle.codestream_reader.specs.Spans.{AreReadable, said_of}
use Rattle.codestream_reader.specs.declared.stream.StreamSpans.{StreamSpans}
use Rattle.dz_quantiser.specs.Bands.{band_planes}
use Rattle.packet_headers.specs.Grammar.{most_passes}
use Rattle.profile_reader.specs.Packets.{BlockBytes}
use Rattle.profile_reader.specs.Reads.{BlockRead as Read, BlockMeans, block_in, nothing_read}
use Rattle.frame_reader.specs.declared.decoded.BlockRead.{BlockRead}
use Rattle.frame_reader.specs.declared.decoded.Planes.{Planes}

-- What is said of a code-block fits its band: it has no more zero bit-planes than the band has
-- magnitude bit-planes, no more passes than the others give, and as many bytes as its entry says.
pub record BlockFits (planes : ℕ) (written : BlockBytes) : Type 0 where
  pub zero_planes : written.entry.zero_planes ≤ planes
  pub passes : written.entry.passes ≤ most_passes planes written.entry.zero_planes
  pub len : length written.code ≡ written.entry.len

-- A codestream was found whose code-blocks can be decoded.
pub record CanDecode (bytes : List ℕ) (found : StreamSpans) : Type 0 where
  pub steps : AreReadable found.geometry.levels found.read.main.steps
  pub count : length found.spans.items ≡ length (all_blocks found.geometry)
  pub fit : (b : BlockId) → IsBlock found.geometry b →
      BlockFits (band_planes found.read.main.steps b.res b.orient)
      (block_in found.geometry (said_of bytes found.spans.items) b)

-- what is decoded of a block, in the words of `profile_reader`
abbrev pub read_of : BlockRead → Read
read_of b = record { planes = b.planes; passes = b.passes }

-- the cells of the three components
abbrev pub planes_of : Planes → List (List Known)
planes_of p = p.c0.cells.items ∷ p.c1.cells.items ∷ p.c2.cells.items ∷ []

-- planes of the frame's size
pub record AreOfFrame (g : Geometry) (p : Planes) : Type 0 where
  pub width0 : p.c0.width ≡ g.width
  pub width1 : p.c1.width ≡ g.width
  pub width2 : p.c2.width ≡ g.width
  pub height0 : p.c0.height ≡ g.height
  pub height1 : p.c1.height ≡ g.height
  pub height2 : p.c2.height ≡ g.height

-- the cells of a block
abbrev pub cells_at : Geometry → List (List Known) → BlockId → List Known
cells_at g planes b = cells_in zero_known g.width (block_of g b) (get_or planes b.component [])

-- the blocks whose numbers are below n are decoded
pub record AreDecodedBelow (n : ℕ) (bytes : List ℕ) (found : StreamSpans)
    (blocks : List BlockRead) (planes : List (List Known)) : Type 0 where
  pub means : (b : BlockId) → IsBlock found.geometry b → number_of found.geometry b < n →
      BlockMeans found.geometry (band_planes found.read.main.steps b.res b.orient) b
      (block_in found.geometry (said_of bytes found.spans.items) b)
      (get_or (map read_of blocks) (number_of found.geometry b) nothing_read)
      (cells_at found.geometry planes b)
