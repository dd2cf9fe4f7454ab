-- The inside of the crate: where the entry of a code-block stands, and what its change makes.
use Rattle.std.specs.Prelude.{ℕ, ◌≡◌, ◌+◌, ◌-◌, ◌*◌, ◌/◌, ◌<◌, ◌≤◌, [], length, get_or}
use Rattle.cine_nums.specs.Profile.{parts_of}
use Rattle.cine_nums.specs.declared.orient.Orient.{Orient}
use Rattle.cine_nums.specs.declared.orient.Orient.TheVariants.{LL, HL, LH, HH}
use Rattle.band_geometry.specs.Bands.{blocks_along_precinct, precinct_blocks_of}
use Rattle.band_geometry.specs.TileParts.{part_of_res}
use Rattle.band_geometry.specs.declared.geometry.Geometry.{Geometry}
use Rattle.band_geometry.specs.declared.places.BlockId.{BlockId}
use Rattle.packet_order.specs.Blocks.{packet_of_block}
use Rattle.packet_order.specs.Order.{ordered_packets}
use Rattle.packet_order.specs.declared.packet.PacketId.{PacketId}
use Rattle.packet_headers.specs.Kept.{band_at, header_length, with_entry}
use Rattle.packet_headers.specs.declared.entry.Entry.{Entry}
use Rattle.packet_headers.specs.declared.packet.Packet.{Packet}
use Rattle.profile_reader.specs.Packets.{BlockBytes, left_out, packet_with}
use Rattle.frame_packets.specs.Keeps.{FrameKept, PartKept, Keeps}
use Rattle.frame_packets.specs.declared.spot.Spot.{Spot}
use Rattle.frame_packets.specs.declared.part.Change.{Change}

-- the packet at a place of the order of a tile-part
abbrev pub packet_at : PartKept → ℕ → Packet
packet_at part at = get_or part.packets at (record { bands = record { items = [] } })

-- the entry at a place of a band of a packet
abbrev pub entry_at : Packet → ℕ → ℕ → Entry
entry_at packet band place = get_or (band_at packet band).entries.items place left_out.entry

-- the place of a band among those of its resolution
abbrev pub band_place : Orient → ℕ
band_place LL = 0
band_place HL = 0
band_place LH = 1
band_place HH = 2

-- the place of a block among those of its band that its packet has
abbrev pub place_in : Geometry → BlockId → ℕ
place_in g b =
    let range = precinct_blocks_of g b.res b.orient (b.x / blocks_along_precinct)
    (b.y / blocks_along_precinct) in
    (b.y - range.y0) * (range.x1 - range.x0) + (b.x - range.x0)

-- the entry of a block stands there
pub record IsSpot (g : Geometry) (b : BlockId) (spot : Spot) : Type 0 where
  pub part : spot.part ≡ part_of_res g.profile g.levels b.component b.res
  pub exists : spot.part < parts_of g.profile
  pub within : spot.at < length (ordered_packets g spot.part)
  pub at : (d : PacketId) → get_or (ordered_packets g spot.part) spot.at d ≡ packet_of_block b
  pub band : spot.band ≡ band_place b.orient
  pub place : spot.place ≡ place_in g b

-- what another entry at a place makes of a tile-part: the length of the packet's header, and that
-- of the tile-part
pub record IsChange (part : PartKept) (at band place : ℕ) (entry : Entry) (change : Change)
    : Type 0 where
  pub header : change.header ≡ header_length (with_entry (packet_at part at) band place entry)
  pub few : change.header ≤ 449
  pub bytes : change.bytes
      + (header_length (packet_at part at) + (entry_at (packet_at part at) band place).len)
      ≡ part.bytes + (change.header + entry.len)

-- What is kept is so by some choice of what is written, whose headers have at most 449 bytes.
pub record IsKept (s : FrameKept) : Type 0 where
  pub given : BlockId → BlockBytes
  pub keeps : Keeps s.geometry s.steps given s
  pub short : (p : PacketId) → p.component < 3 → p.res ≤ s.geometry.levels →
      header_length (packet_with s.geometry s.steps given p) ≤ 449
