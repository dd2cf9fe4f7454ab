-- What stands in the bytes of a codestream from one place up to another: packets and tile-parts, as
-- `profile_reader` says what they are (ISO/IEC 15444-1, A.4, B.9 and B.10). Places are counted in
-- bytes from 0.
use Rattle.std.specs.Prelude.{ℕ, ◌+◌, ◌≡◌, List, ◌++◌, length, drop, slice_range, sum}
use Rattle.std.specs.List.{flat_map}
use Rattle.band_geometry.specs.declared.geometry.Geometry.{Geometry}
use Rattle.dz_quantiser.specs.declared.steps.StepSizes.{StepSizes}
use Rattle.packet_headers.specs.declared.packet.BandShape.{BandShape}
use Rattle.packet_order.specs.declared.packet.PacketId.{PacketId}
use Rattle.profile_reader.specs.Words.{PacketWhole, PacketFits, PacketsFit, packet_bytes}
use Rattle.profile_reader.specs.Words.{PartWhole, PartFits, PartsFit, part_bytes, parts_bytes}

-- the bytes before `stop` begin at the place `from` with this packet, which ends at `to`
pub record PacketStands (shapes : List BandShape) (bytes : List ℕ) (from stop to : ℕ)
    (w : PacketWhole) : Type 0 where
  pub fits : PacketFits shapes w
  pub bytes_are : slice_range bytes from stop ≡ packet_bytes w ++ slice_range bytes to stop
  pub to_is : to ≡ from + length (packet_bytes w)

-- and with packets of these numbers
pub record PacketsStand (g : Geometry) (steps : StepSizes) (bytes : List ℕ) (from stop to : ℕ)
    (ids : List PacketId) (ws : List PacketWhole) : Type 0 where
  pub fits : PacketsFit g steps ids ws
  pub bytes_are : slice_range bytes from stop
      ≡ flat_map packet_bytes ws ++ slice_range bytes to stop
  pub to_is : to ≡ from + length (flat_map packet_bytes ws)

-- packets of these numbers fill the bytes from one place up to another
pub record PacketsFill (g : Geometry) (steps : StepSizes) (bytes : List ℕ) (from stop : ℕ)
    (ids : List PacketId) (ws : List PacketWhole) : Type 0 where
  pub fits : PacketsFit g steps ids ws
  pub bytes_are : slice_range bytes from stop ≡ flat_map packet_bytes ws

-- the bytes from the place `at` on begin with this tile-part, the `index`-th of `count`, of `size`
-- bytes
pub record PartStands (g : Geometry) (steps : StepSizes) (bytes : List ℕ)
    (at index count size : ℕ) (w : PartWhole) : Type 0 where
  pub fits : PartFits g steps index count size w
  pub bytes_are : drop at bytes ≡ part_bytes index w ++ drop (at + size) bytes

-- and with tile-parts of these sizes, the first the `index`-th of `count`
pub record PartsStand (g : Geometry) (steps : StepSizes) (bytes : List ℕ)
    (at to index count : ℕ) (sizes : List ℕ) (ws : List PartWhole) : Type 0 where
  pub fits : PartsFit g steps index count sizes ws
  pub bytes_are : drop at bytes ≡ parts_bytes index ws ++ drop to bytes
  pub to_is : to ≡ at + sum sizes
