-- The writer's header of a packet: the least numbers, the least raises, and a 0 alone where no
-- block is included.
use Rattle.std.specs.Prelude.{ℕ, ◌*◌, ◌<◌, ◌≤◌, ◌≡◌, Bool, false, IsTrue, if◌then◌else◌, List}
use Rattle.std.specs.Prelude.{length, map, All}
use Rattle.std.specs.List.{list_any}
use Rattle.tag_trees.specs.TagTree.{least}
use Rattle.packet_headers.specs.declared.entry.Entry.{Entry}
use Rattle.packet_headers.specs.declared.packet.PacketBand.{PacketBand}
use Rattle.packet_headers.specs.declared.packet.Packet.{Packet}
use Rattle.packet_headers.specs.declared.packet.BandShape.{BandShape}
use Rattle.packet_headers.specs.Codewords.{least_raise}
use Rattle.packet_headers.specs.Words.{BlockWords, BandTrees, BandWords, PacketWords, header_words}
use Rattle.packet_headers.specs.Grammar.{most_passes}

-- the leaf values of the two trees: 0 for an included block and 1 for another; its zero planes, and
-- all planes for another
abbrev pub inclusion_value : Entry → ℕ
inclusion_value entry = if entry.included then 0 else 1

abbrev pub zero_plane_value : ℕ → Entry → ℕ
zero_plane_value planes entry = if entry.included then entry.zero_planes else planes

abbrev pub written_block : Entry → BlockWords
written_block entry = record { entry = entry; raise = least_raise entry.passes entry.len }

abbrev pub written_trees : PacketBand → BandTrees
written_trees band = record {
  width = band.width;
  height = band.height;
  inclusion = least band.width (map inclusion_value band.entries.items);
  zero_planes = least band.width (map (zero_plane_value band.planes) band.entries.items);
}

abbrev pub written_band : PacketBand → BandWords
written_band band = record {
  trees = written_trees band;
  planes = band.planes;
  blocks =
      map written_block band.entries.items;
}

-- whether any block is included
abbrev pub band_has_any : PacketBand → Bool
band_has_any band = list_any (λ entry. entry.included) band.entries.items

abbrev pub has_any : Packet → Bool
has_any packet = list_any band_has_any packet.bands.items

-- what the writer's header of a packet says, and its bits
abbrev pub written : Packet → PacketWords
written packet = record { begins = has_any packet; bands = map written_band packet.bands.items }

abbrev pub written_bits : Packet → List Bool
written_bits packet = header_words (written packet)

-- the shapes of a packet's bands
abbrev pub shape_of : PacketBand → BandShape
shape_of band = record { width = band.width; height = band.height; planes = band.planes }

abbrev pub shapes_of : Packet → List BandShape
shapes_of packet = map shape_of packet.bands.items

-- an entry that isn't included has zeros
pub record HasZeros (entry : Entry) : Type 0 where
  pub zero_planes : entry.zero_planes ≡ 0
  pub passes : entry.passes ≡ 0
  pub len : entry.len ≡ 0

abbrev pub IsPlain : Entry → Type 0
IsPlain entry = entry.included ≡ false → HasZeros entry

abbrev pub ArePlain : Packet → Type 0
ArePlain packet = All (λ band. All IsPlain band.entries.items) packet.bands.items

-- an entry that can be written in a band of so many planes
pub record CanWriteIncluded (planes : ℕ) (entry : Entry) : Type 0 where
  pub fewer : entry.zero_planes < planes
  pub some_passes : 1 ≤ entry.passes
  pub passes : entry.passes ≤ most_passes planes entry.zero_planes
  pub some_bytes : 1 ≤ entry.len
  pub len : entry.len ≤ 131072

abbrev pub CanWriteEntry : ℕ → Entry → Type 0
CanWriteEntry planes entry = IsTrue entry.included → CanWriteIncluded planes entry

-- a band that can be written
pub record CanWriteBand (band : PacketBand) : Type 0 where
  pub width : band.width ≤ 4
  pub height : band.height ≤ 4
  pub count : length band.entries.items ≡ band.width * band.height
  pub some_planes : 1 ≤ band.planes
  pub planes : band.planes ≤ 20
  pub entries : All (CanWriteEntry band.planes) band.entries.items

-- a packet that can be written
abbrev pub CanWrite : Packet → Type 0
CanWrite packet = All CanWriteBand packet.bands.items
