-- The first fault of the tile-parts of a codestream in reading order. Each case says what stands
-- before it, so that the cases need no order of their own. Places are counted in bytes from 0.
use Rattle.std.specs.Prelude.{ℕ, ◌≡◌, ◌<◌, List, length, take, slice_get, Some}
use Rattle.band_geometry.specs.declared.geometry.Geometry.{Geometry}
use Rattle.cinema_markers.specs.declared.refusal.MarkerRefusal.TheVariants.{BadTlm}
use Rattle.dz_quantiser.specs.declared.steps.StepSizes.{StepSizes}
use Rattle.packet_headers.specs.declared.refusal.PacketRefusal.{PacketRefusal}
use Rattle.packet_order.specs.Order.{ordered_packets}
use Rattle.packet_order.specs.declared.packet.PacketId.{PacketId}
use Rattle.profile_reader.specs.Words.{PacketWhole, PartWhole}
use Rattle.tile_parts.specs.Refusals.{IsRefused}
use Rattle.tile_parts.specs.Spelling.{Spells}
use Rattle.tile_parts.specs.declared.part.Part.{Part}
use Rattle.tile_parts.specs.declared.refusal.PartRefusal.{PartRefusal}
use Rattle.codestream_reader.specs.PacketFaults.{PacketsFault}
use Rattle.codestream_reader.specs.Standing.{PacketsStand, PartsStand}
use Rattle.codestream_reader.specs.declared.refusal.ReadRefusal.{ReadRefusal}
use Rattle.codestream_reader.specs.declared.refusal.ReadRefusal.TheVariants.{Main, Part as OfPart}
use Rattle.codestream_reader.specs.declared.refusal.ReadRefusal.TheVariants.{Packet, PartTooLong}

-- packets of these numbers don't fill the bytes between two places: one is refused, or bytes remain
-- after the last one
pub data BodyFault (g : Geometry) (steps : StepSizes) (bytes : List ℕ) (from stop : ℕ)
    (ids : List PacketId) (refusal : ReadRefusal) : Type 0 where
  packet : (fault : PacketRefusal) → PacketsFault g steps bytes from stop ids fault
      → refusal ≡ Packet fault → BodyFault g steps bytes from stop ids refusal
  long : (at : ℕ) (ws : List PacketWhole) → PacketsStand g steps bytes from stop at ids ws
      → at < stop → refusal ≡ PartTooLong at → BodyFault g steps bytes from stop ids refusal

-- At the place `at` stands no tile-part, the `index`-th of `count`, of the size that TLM has for it
-- at the place `size_at`: its head is refused, or Psot is another length, or its packets don't fill
-- it.
pub data PartFault (g : Geometry) (steps : StepSizes) (bytes : List ℕ)
    (at index count size size_at : ℕ) (refusal : ReadRefusal) : Type 0 where
  head : (fault : PartRefusal) → IsRefused bytes at index count fault
      → refusal ≡ OfPart fault → PartFault g steps bytes at index count size size_at refusal
  size_differs : (part : Part) → Spells bytes at index count part → (part.length ≡ size → ⊥)
      → refusal ≡ Main (BadTlm size_at)
      → PartFault g steps bytes at index count size size_at refusal
  body : (part : Part) → Spells bytes at index count part → part.length ≡ size
      → BodyFault g steps bytes part.body part.stop (ordered_packets g index) refusal
      → PartFault g steps bytes at index count size size_at refusal

-- the first tile-parts stand, and the next has a fault
pub record PartsFault (g : Geometry) (steps : StepSizes) (bytes : List ℕ) (from : ℕ)
    (sizes places : List ℕ) (refusal : ReadRefusal) : Type 0 where
  pub index : ℕ
  pub at : ℕ
  pub size : ℕ
  pub size_at : ℕ
  pub before : List PartWhole
  pub stand : PartsStand g steps bytes from at 0 (length sizes) (take index sizes) before
  pub size_is : slice_get sizes index ≡ Some size
  pub size_place : slice_get places index ≡ Some size_at
  pub fault : PartFault g steps bytes at index (length sizes) size size_at refusal
