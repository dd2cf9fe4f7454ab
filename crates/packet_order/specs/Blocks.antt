-- The code blocks of a packet (ISO/IEC 15444-1, B.7, B.9): those of its precinct, band by band.
use Rattle.std.specs.Prelude.{ℕ, ◌≡◌, ◌+◌, ◌-◌, ◌/◌, List, map}
use Rattle.std.specs.List.{flat_map, range_with_len}
use Rattle.cine_nums.specs.declared.orient.Orient.{Orient}
use Rattle.band_geometry.specs.Bands.{IsBlock, blocks_along_precinct, precinct_blocks_of}
use Rattle.band_geometry.specs.Numbering.{orients_of}
use Rattle.band_geometry.specs.declared.geometry.Geometry.{Geometry}
use Rattle.band_geometry.specs.declared.places.BlockId.{BlockId}
use Rattle.packet_order.specs.declared.packet.PacketId.{PacketId}

-- the block in row y and column x of a band of the packet's resolution
abbrev pub block_at : PacketId → Orient → ℕ → ℕ → BlockId
block_at p o y x = record { component = p.component; res = p.res; orient = o; x = x; y = y }

-- one row of the blocks of a band that the packet has
abbrev pub row_in : Geometry → PacketId → Orient → ℕ → List BlockId
row_in g p o j =
    let range = precinct_blocks_of g p.res o p.px p.py in
    map (λ i. block_at p o (range.y0 + j) (range.x0 + i)) (range_with_len 0 (range.x1 - range.x0))

-- the blocks of a band that the packet has, in raster order
unfoldable pub blocks_in : Geometry → PacketId → Orient → List BlockId
blocks_in g p o =
    let range = precinct_blocks_of g p.res o p.px p.py in
    flat_map (row_in g p o) (range_with_len 0 (range.y1 - range.y0))

-- all its blocks, in the order in which the packet has them
unfoldable pub blocks_of_packet : Geometry → PacketId → List BlockId
blocks_of_packet g p = flat_map (blocks_in g p) (orients_of p.res)

-- the packet of a block
abbrev pub packet_of_block : BlockId → PacketId
packet_of_block b = record {
  component = b.component;
  res = b.res;
  px = b.x / blocks_along_precinct;
  py = b.y / blocks_along_precinct;
}

-- the block is one of the packet's
pub record IsBlockOf (g : Geometry) (p : PacketId) (b : BlockId) : Type 0 where
  pub block : IsBlock g b
  pub packet : packet_of_block b ≡ p

-- and is in this band
pub record IsBlockIn (g : Geometry) (p : PacketId) (o : Orient) (b : BlockId) : Type 0 where
  pub of_packet : IsBlockOf g p b
  pub orient : b.orient ≡ o
