-- A packet header's bits (ISO/IEC 15444-1, B.10), as a function of what it says: the entries, and
-- how they are spelled: the numberings of each band's two tag trees, and how often each block's
-- Lblock is raised.
use Rattle.std.specs.Prelude.{ℕ, ◌+◌, ◌/◌, ◌%◌, Bool, true, false, if◌then◌else◌, List, [], ◌∷◌}
use Rattle.std.specs.Prelude.{◌++◌, length, map, sum_by}
use Rattle.tag_trees.specs.TagTree.{Writing, leaf_node, levels_above, bits_of_writing}
use Rattle.packet_headers.specs.declared.entry.Entry.{Entry}
use Rattle.packet_headers.specs.declared.packet.PacketBand.{PacketBand}
use Rattle.packet_headers.specs.declared.packet.Packet.{Packet}
use Rattle.packet_headers.specs.Codewords.{pass_bits, length_bits}

-- a block's entry, and how often its Lblock is raised
pub record BlockWords : Type 0 where
  pub entry : Entry
  pub raise : ℕ

-- a band's two tag trees: their sides in leaves, and the numberings of the inclusion tree and of
-- the zero plane tree
pub record BandTrees : Type 0 where
  pub width : ℕ
  pub height : ℕ
  pub inclusion : ℕ → ℕ
  pub zero_planes : ℕ → ℕ

-- a band: its trees, its magnitude bit planes, and its blocks in raster order
pub record BandWords : Type 0 where
  pub trees : BandTrees
  pub planes : ℕ
  pub blocks : List BlockWords

-- a packet: its first bit, and its bands
pub record PacketWords : Type 0 where
  pub begins : Bool
  pub bands : List BandWords

-- the writing of the leaf at a place in raster order, up to a threshold
abbrev pub leaf_writing : ℕ → ℕ → ℕ → Writing
leaf_writing width place threshold = record {
  column = place % width;
  row = place / width;
  threshold = threshold;
}

-- the number of the leaf at a place
abbrev pub leaf_at : ℕ → ℕ → ℕ
leaf_at width place = leaf_node (place % width) (place / width)

-- the writings of the inclusion tree of these blocks, which begin at this place: each leaf up to 1
unfoldable pub inclusion_writings : ℕ → ℕ → List BlockWords → List Writing
inclusion_writings width place [] = []
inclusion_writings width place (block ∷ blocks) = leaf_writing width place 1
    ∷ inclusion_writings width (place + 1) blocks

-- the writings of the zero plane tree: the leaf of each included block, up to its zero planes and
-- one more
unfoldable pub zero_plane_writings : ℕ → ℕ → List BlockWords → List Writing
zero_plane_writings width place [] = []
zero_plane_writings width place (block ∷ blocks) =
    (if block.entry.included then leaf_writing width place (block.entry.zero_planes + 1) ∷ []
    else [])
    ++ zero_plane_writings width (place + 1) blocks

-- the inclusion bits of the block that follows these
unfoldable pub inclusion_bits : BandTrees → List BlockWords → List Bool
inclusion_bits trees before =
    bits_of_writing (levels_above trees.width trees.height) trees.inclusion
    (inclusion_writings trees.width 0 before) (leaf_writing trees.width (length before) 1)

-- its zero plane bits up to a threshold
unfoldable pub zero_plane_bits : BandTrees → List BlockWords → ℕ → List Bool
zero_plane_bits trees before threshold =
    bits_of_writing (levels_above trees.width trees.height) trees.zero_planes
    (zero_plane_writings trees.width 0 before) (leaf_writing trees.width (length before) threshold)

-- the bits of an included block after its inclusion
abbrev pub included_bits : BandTrees → List BlockWords → BlockWords → List Bool
included_bits trees before block =
    zero_plane_bits trees before (block.entry.zero_planes + 1)
    ++ (pass_bits block.entry.passes ++ length_bits block.entry.passes block.raise block.entry.len)

-- the bits of a block that follows these
abbrev pub block_bits : BandTrees → List BlockWords → BlockWords → List Bool
block_bits trees before block = inclusion_bits trees before
    ++ (if block.entry.included then included_bits trees before block else [])

-- the bits of blocks that follow these
unfoldable pub blocks_bits : BandTrees → List BlockWords → List BlockWords → List Bool
blocks_bits trees before [] = []
blocks_bits trees before (block ∷ blocks) = block_bits trees before block
    ++ blocks_bits trees (before ++ block ∷ []) blocks

-- the bits of bands
unfoldable pub bands_bits : List BandWords → List Bool
bands_bits [] = []
bands_bits (band ∷ bands) = blocks_bits band.trees [] band.blocks ++ bands_bits bands

-- a header's bits: a 0 alone, or a 1 and the bands
abbrev pub header_words : PacketWords → List Bool
header_words words = if words.begins then true ∷ bands_bits words.bands else false ∷ []

-- the packet that these words say
abbrev pub band_of : BandWords → PacketBand
band_of band = record {
  width = band.trees.width;
  height = band.trees.height;
  planes = band.planes;
  entries = record { items = map (λ block. block.entry) band.blocks };
}

abbrev pub packet_of : PacketWords → Packet
packet_of words = record { bands = record { items = map band_of words.bands } }

-- the bytes of the bodies of blocks, and of all bands
abbrev pub blocks_len : List BlockWords → ℕ
blocks_len blocks = sum_by (λ block. block.entry.len) blocks

abbrev pub body_of : PacketWords → ℕ
body_of words = sum_by (λ band. blocks_len band.blocks) words.bands

-- the bytes of the bodies of a band's entries, and of a packet's
abbrev pub band_body : PacketBand → ℕ
band_body band = sum_by (λ (entry : Entry). entry.len) band.entries.items

abbrev pub packet_body : Packet → ℕ
packet_body p = sum_by band_body p.bands.items
