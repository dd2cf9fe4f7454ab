-- What is written of the code-blocks of a frame, packet by packet (ISO/IEC 15444-1, B.9, B.10).
use Rattle.std.specs.Prelude.{ℕ, ◌-◌, false, List, [], ◌++◌, map}
use Rattle.std.specs.List.{flat_map}
use Rattle.cine_nums.specs.declared.orient.Orient.{Orient}
use Rattle.band_geometry.specs.Bands.{precinct_blocks_of}
use Rattle.band_geometry.specs.Numbering.{orients_of}
use Rattle.band_geometry.specs.declared.geometry.Geometry.{Geometry}
use Rattle.band_geometry.specs.declared.places.BlockId.{BlockId}
use Rattle.dz_quantiser.specs.Bands.{band_planes}
use Rattle.dz_quantiser.specs.declared.steps.StepSizes.{StepSizes}
use Rattle.packet_order.specs.Blocks.{blocks_in, blocks_of_packet}
use Rattle.packet_order.specs.Order.{ordered_packets}
use Rattle.packet_order.specs.declared.packet.PacketId.{PacketId}
use Rattle.packet_headers.specs.declared.entry.Entry.{Entry}
use Rattle.packet_headers.specs.declared.packet.Packet.{Packet}
use Rattle.packet_headers.specs.declared.packet.PacketBand.{PacketBand}
use Rattle.packet_headers.specs.Written.{written_bits}
use Rattle.bit_stuffing.specs.Stuffing.{packed}

-- what is written of a code-block: its entry in the packet header, and its bytes in the packet's
-- body
pub record BlockBytes : Type 0 where
  pub entry : Entry
  pub code : List ℕ

-- of a code-block that isn't included
abbrev pub left_out : BlockBytes
left_out = record {
  entry = record {
    included = false;
    zero_planes = 0;
    passes = 0;
    len =
        0;
  };
  code = [];
}

-- a band's part of a packet: its columns and rows of code-blocks, its magnitude bit-planes, and
-- their entries
abbrev pub band_with : Geometry → StepSizes → (BlockId → BlockBytes) → PacketId → Orient →
    PacketBand
band_with g steps given p o =
    let range = precinct_blocks_of g p.res o p.px p.py in
    record {
      width = range.x1 - range.x0;
      height = range.y1 - range.y0;
      planes = band_planes steps p.res o;
      entries = record { items = map (λ b. (given b).entry) (blocks_in g p o) };
    }

-- a packet as its header describes it
unfoldable pub packet_with : Geometry → StepSizes → (BlockId → BlockBytes) → PacketId → Packet
packet_with g steps given p = record {
  bands =
      record { items = map (band_with g steps given p) (orients_of p.res) };
}

-- a packet as it stands: its header, and then the bytes of its code-blocks
unfoldable pub written_packet : Geometry → StepSizes → (BlockId → BlockBytes) → PacketId → List ℕ
written_packet g steps given p =
    packed (written_bits (packet_with g steps given p))
    ++ flat_map (λ b. (given b).code) (blocks_of_packet g p)

-- the packets of a tile-part in their order
unfoldable pub written_body : Geometry → StepSizes → (BlockId → BlockBytes) → ℕ → List ℕ
written_body g steps given index = flat_map (written_packet g steps given) (ordered_packets g index)
