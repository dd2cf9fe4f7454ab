-- Packets and tile-parts as they stand in a codestream, and what spells them (ISO/IEC 15444-1, A.4,
-- B.9 and B.10).
use Rattle.std.specs.Prelude.{ℕ, ◌+◌, ◌≡◌, ◌⊎◌, List, [], ◌∷◌, ◌++◌, length, map}
use Rattle.std.specs.List.{flat_map, All}
use Rattle.band_geometry.specs.declared.geometry.Geometry.{Geometry}
use Rattle.bit_stuffing.specs.Stuffing.{Stuffs}
use Rattle.cine_nums.specs.Segments.{Segment}
use Rattle.dz_quantiser.specs.declared.steps.StepSizes.{StepSizes}
use Rattle.packet_order.specs.Order.{ordered_packets}
use Rattle.packet_order.specs.declared.packet.PacketId.{PacketId}
use Rattle.packet_headers.specs.Grammar.{WordsFit}
use Rattle.packet_headers.specs.Words.{BlockWords, BandWords, PacketWords, header_words}
use Rattle.packet_headers.specs.declared.entry.Entry.{Entry}
use Rattle.packet_headers.specs.declared.packet.BandShape.{BandShape}
use Rattle.tile_parts.specs.Spelling.{IsSegment, head_with}
use Rattle.profile_reader.specs.Shapes.{shapes_in}

-- a packet: what its header says, the header's bytes, and the bytes of each code-block
pub record PacketWhole : Type 0 where
  pub words : PacketWords
  pub head : List ℕ
  pub codes : List (List ℕ)

-- the entries of a header, band by band
abbrev pub band_entries : BandWords → List Entry
band_entries band = map (λ (block : BlockWords). block.entry) band.blocks

abbrev pub entries_of : PacketWords → List Entry
entries_of words = flat_map band_entries words.bands

-- the bytes of a packet
abbrev pub packet_bytes : PacketWhole → List ℕ
packet_bytes w = w.head ++ flat_map (λ code. code) w.codes

-- a packet of these shapes: its words fit them, its header spells its words, and each block has as
-- many bytes as its entry says
pub record PacketFits (shapes : List BandShape) (w : PacketWhole) : Type 0 where
  pub words : WordsFit shapes w.words
  pub head : Stuffs (header_words w.words) w.head
  pub codes : map length w.codes ≡ map (λ (e : Entry). e.len) (entries_of w.words)

-- the packets of these numbers, in this order
unfoldable pub PacketsFit : Geometry → StepSizes → List PacketId → List PacketWhole → Type 0
PacketsFit g steps [] [] = Unit {0}
PacketsFit g steps (p ∷ ps) (w ∷ ws) =
    PacketFits (shapes_in g steps p) w × PacketsFit g steps ps ws
PacketsFit g steps [] (_ ∷ _) = ⊥
PacketsFit g steps (_ ∷ _) [] = ⊥

-- a tile-part: the segments between SOT and SOD, TNsot, and its packets
pub record PartWhole : Type 0 where
  pub segments : List Segment
  pub tnsot : ℕ
  pub packets : List PacketWhole

-- the bytes of its packets
abbrev pub body_bytes : PartWhole → List ℕ
body_bytes w = flat_map packet_bytes w.packets

-- Psot: its length in bytes. The length of a head doesn't depend on its numbers
abbrev pub part_size : PartWhole → ℕ
part_size w = length (head_with 0 0 0 w.segments) + length (body_bytes w)

-- the bytes of the tile-part of this index
abbrev pub part_bytes : ℕ → PartWhole → List ℕ
part_bytes index w = head_with (part_size w) index w.tnsot w.segments ++ body_bytes w

-- The tile-part of this index of `count`, of `size` bytes: TNsot is the count, or 0, and its
-- packets are those of the tile-part in their order.
pub record PartFits (g : Geometry) (steps : StepSizes) (index count size : ℕ) (w : PartWhole)
    : Type 0 where
  pub segments : All IsSegment w.segments
  pub count_is : (w.tnsot ≡ count) ⊎ (w.tnsot ≡ 0)
  pub size_is : part_size w ≡ size
  pub packets : PacketsFit g steps (ordered_packets g index) w.packets

-- the tile-parts from an index on, of these sizes
unfoldable pub PartsFit : Geometry → StepSizes → ℕ → ℕ → List ℕ → List PartWhole → Type 0
PartsFit g steps index count [] [] = Unit {0}
PartsFit g steps index count (size ∷ sizes) (w ∷ ws) =
    PartFits g steps index count size w × PartsFit g steps (index + 1) count sizes ws
PartsFit g steps index count [] (_ ∷ _) = ⊥
PartsFit g steps index count (_ ∷ _) [] = ⊥

-- their bytes
unfoldable pub parts_bytes : ℕ → List PartWhole → List ℕ
parts_bytes index [] = []
parts_bytes index (w ∷ ws) = part_bytes index w ++ parts_bytes (index + 1) ws
