-- What the bytes of a codestream mean: words that spell them, what these words say of each
-- code-block, and the cells that are the meaning of its bytes (ISO/IEC 15444-1, Annexes A to D).
use Rattle.std.specs.Prelude.{ℕ, ◌+◌, ◌*◌, ◌≡◌, ◌≤◌, ◌<◌, List, [], ◌∷◌, ◌++◌, length, map}
use Rattle.std.specs.Prelude.{get_or}
use Rattle.std.specs.List.{All}
use Rattle.band_geometry.specs.Bands.{block_of, IsBlock}
use Rattle.band_geometry.specs.Counts.{number_of}
use Rattle.band_geometry.specs.Numbering.{all_blocks}
use Rattle.band_geometry.specs.declared.geometry.Geometry.{Geometry}
use Rattle.band_geometry.specs.declared.places.BlockId.{BlockId}
use Rattle.cinema_markers.specs.Words.{MainWords, MainFits, main_words}
use Rattle.cinema_markers.specs.declared.header.MainHeader.{MainHeader}
use Rattle.codeblock_views.specs.KnownCells.{zero_known}
use Rattle.codeblock_views.specs.Rectangles.{cells_in}
use Rattle.codeblock_views.specs.declared.known.Known.{Known}
use Rattle.dz_quantiser.specs.Bands.{band_planes, planes_of}
use Rattle.ebcot_contexts.specs.Cells.{Cell}
use Rattle.ebcot_contexts.specs.Contexts.{Shape}
use Rattle.ebcot_contexts.specs.Meaning.{Means, DecidedBy}
use Rattle.packet_order.specs.Blocks.{blocks_of_packet}
use Rattle.packet_order.specs.Order.{ordered_packets}
use Rattle.packet_order.specs.declared.packet.PacketId.{PacketId}
use Rattle.tile_parts.specs.Head.{eoc}
use Rattle.profile_reader.specs.Packets.{BlockBytes, left_out}
use Rattle.profile_reader.specs.Words.{PacketWhole, PartWhole, entries_of, PartsFit, parts_bytes}

-- What is decoded of a code-block: its bit-planes and its coding passes.
pub record BlockRead : Type 0 where
  pub planes : ℕ
  pub passes : ℕ

-- What is decoded of a codestream: its main header, its code-blocks by their numbers, and what is
-- known of the coefficients of each component, in raster order of its transformed plane.
pub record Decoding : Type 0 where
  pub main : MainHeader
  pub blocks : List BlockRead
  pub planes : List (List Known)

-- what is known of a coefficient, in the two forms in which coding passes and planes have it
abbrev pub known_of : Cell → Known
known_of c = record { magnitude = c.magnitude; negative = c.negative; unknown = c.unknown }

abbrev pub cell_of_known : Known → Cell
cell_of_known k = record { magnitude = k.magnitude; negative = k.negative; unknown = k.unknown }

-- A codestream as it stands: what its main header says, the geometry of its frame, the words that
-- spell its main header, and its tile-parts.
pub record Stream : Type 0 where
  pub main : MainHeader
  pub geometry : Geometry
  pub words : MainWords
  pub parts : List PartWhole

-- its bytes
abbrev pub stream_bytes : Stream → List ℕ
stream_bytes s = main_words s.main s.words ++ (parts_bytes 0 s.parts ++ eoc)

-- the geometry is that of a main header. It is the only one: its other fields are facts
pub record IsGeometryOfHeader (m : MainHeader) (g : Geometry) : Type 0 where
  pub profile : g.profile ≡ m.profile
  pub levels : g.levels ≡ m.levels
  pub width : g.width ≡ m.width
  pub height : g.height ≡ m.height

-- Its words may spell a codestream of its profile: each band has at most 31 magnitude bit-planes,
-- and the tile-parts have the lengths that the main header gives them.
pub record StreamFits (s : Stream) : Type 0 where
  pub geometry : IsGeometryOfHeader s.main s.geometry
  pub main : MainFits s.main s.words
  pub few_planes : All (λ step. planes_of s.main.steps.guard step.exponent ≤ 31)
      s.main.steps.bands.items
  pub parts : PartsFit s.geometry s.main.steps 0 (length s.main.parts.items) s.main.parts.items
      s.parts

-- the block of a list by block number
abbrev pub block_in : Geometry → List BlockBytes → BlockId → BlockBytes
block_in g blocks b = get_or blocks (number_of g b) left_out

-- a packet says this of its code-blocks: their entries, and their bytes
pub record PacketSays (g : Geometry) (blocks : List BlockBytes) (p : PacketId) (w : PacketWhole)
    : Type 0 where
  pub entries : entries_of w.words ≡ map (λ b. (block_in g blocks b).entry) (blocks_of_packet g p)
  pub codes : w.codes ≡ map (λ b. (block_in g blocks b).code) (blocks_of_packet g p)

-- and so does each packet of a list
unfoldable pub PacketsSay : Geometry → List BlockBytes → List PacketId → List PacketWhole → Type 0
PacketsSay g blocks [] [] = Unit {0}
PacketsSay g blocks (p ∷ ps) (w ∷ ws) = PacketSays g blocks p w × PacketsSay g blocks ps ws
PacketsSay g blocks [] (_ ∷ _) = ⊥
PacketsSay g blocks (_ ∷ _) [] = ⊥

-- and of each tile-part from an index on
unfoldable pub PartsSay : Geometry → List BlockBytes → ℕ → List PartWhole → Type 0
PartsSay g blocks index [] = Unit {0}
PartsSay g blocks index (w ∷ ws) =
    PacketsSay g blocks (ordered_packets g index) w.packets × PartsSay g blocks (index + 1) ws

-- the shape of a code-block with so many bit-planes
abbrev pub shape_with : Geometry → BlockId → ℕ → Shape
shape_with g b planes = record {
  orient = b.orient;
  width = (block_of g b).width;
  height = (block_of g b).height;
  planes = planes;
}

-- What is written of a code-block, of a band of `band_planes` magnitude bit-planes, means these
-- cells: with its zero bit-planes its bit-planes are those of the band, its passes are those of the
-- entry, and the cells are what these passes mean, whose symbols the bytes decide.
pub record BlockMeans (g : Geometry) (band_planes : ℕ) (b : BlockId) (written : BlockBytes)
    (read : BlockRead) (cells : List Known) : Type 0 where
  pub planes : read.planes + written.entry.zero_planes ≡ band_planes
  pub passes : read.passes ≡ written.entry.passes
  pub decoded : Means (DecidedBy written.code) (shape_with g b read.planes) read.passes
      (map cell_of_known cells)

-- what was decoded of a block, and the cells of its rectangle
abbrev pub nothing_read : BlockRead
nothing_read = record { planes = 0; passes = 0 }

abbrev pub read_in : Geometry → Decoding → BlockId → BlockRead
read_in g d b = get_or d.blocks (number_of g b) nothing_read

abbrev pub cells_of : Geometry → Decoding → BlockId → List Known
cells_of g d b = cells_in zero_known g.width (block_of g b) (get_or d.planes b.component [])

-- The bytes of a codestream mean this: some words spell them, and say of each code-block its entry
-- and its bytes, which mean its cells.
pub record Reads (bytes : List ℕ) (d : Decoding) : Type 0 where
  pub stream : Stream
  pub fits : StreamFits stream
  pub spelled : bytes ≡ stream_bytes stream
  pub main : d.main ≡ stream.main
  -- by block number
  pub blocks : List BlockBytes
  pub count : length blocks ≡ length (all_blocks stream.geometry)
  pub says : PartsSay stream.geometry blocks 0 stream.parts
  pub counted : length d.blocks ≡ length (all_blocks stream.geometry)
  pub means : (b : BlockId) → IsBlock stream.geometry b →
      BlockMeans stream.geometry (band_planes stream.main.steps b.res b.orient) b
      (block_in stream.geometry blocks b) (read_in stream.geometry d b)
      (cells_of stream.geometry d b)
  pub components : length d.planes ≡ 3
  pub sizes : (c : ℕ) → c < 3 → length (get_or d.planes c []) ≡ d.main.height * d.main.width
