-- A packet with another entry for one of its blocks, and the length of its header.
use Rattle.std.specs.Prelude.{ℕ, ◌<◌, List, [], length, get_or, set}
use Rattle.bit_stuffing.specs.Stuffing.{packed}
use Rattle.packet_headers.specs.declared.entry.Entry.{Entry}
use Rattle.packet_headers.specs.declared.packet.PacketBand.{PacketBand}
use Rattle.packet_headers.specs.declared.packet.Packet.{Packet}
use Rattle.packet_headers.specs.Written.{written_bits, CanWriteEntry}

-- the number of bytes of the writer's header
abbrev pub header_length : Packet → ℕ
header_length packet = length (packed (written_bits packet))

-- the band of a packet with this number, counted from 0; a packet has no band past its last
abbrev pub band_at : Packet → ℕ → PacketBand
band_at packet band = get_or packet.bands.items band (record {
  width = 0;
  height = 0;
  planes = 0;
  entries = record { items = [] };
})

-- the band with this entry at a place in raster order
abbrev pub band_with : PacketBand → ℕ → Entry → PacketBand
band_with band place entry = record {
  width = band.width;
  height = band.height;
  planes = band.planes;
  entries = record { items = set band.entries.items place entry };
}

-- the packet with this entry at a place of one of its bands
abbrev pub with_entry : Packet → ℕ → ℕ → Entry → Packet
with_entry packet band place entry = record {
  bands = record { items = set packet.bands.items band (band_with (band_at packet band) place entry) };
}

-- the band and the place are there, and the entry can be written there
pub record CanPut (packet : Packet) (band place : ℕ) (entry : Entry) : Type 0 where
  pub has_band : band < length packet.bands.items
  pub has_place : place < length (band_at packet band).entries.items
  pub can_write : CanWriteEntry (band_at packet band).planes entry
