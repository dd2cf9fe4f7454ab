-- The first fault of the packets of a tile-part: packets stand up to a place, and the next packet
-- is refused there (ISO/IEC 15444-1, B.10).
use Rattle.std.specs.Prelude.{ℕ, ◌+◌, ◌≡◌, List, ◌∷◌, ◌++◌, slice_range}
use Rattle.band_geometry.specs.declared.geometry.Geometry.{Geometry}
use Rattle.dz_quantiser.specs.declared.steps.StepSizes.{StepSizes}
use Rattle.packet_headers.specs.Reading.{Refused}
use Rattle.packet_headers.specs.declared.packet.BandShape.{BandShape}
use Rattle.packet_headers.specs.declared.refusal.PacketRefusal.{PacketRefusal}
use Rattle.packet_headers.specs.declared.refusal.PacketRefusal.TheVariants.{HeaderTruncated}
use Rattle.packet_headers.specs.declared.refusal.PacketRefusal.TheVariants.{StuffedBitSet}
use Rattle.packet_headers.specs.declared.refusal.PacketRefusal.TheVariants.{ZeroPlanesTooMany}
use Rattle.packet_headers.specs.declared.refusal.PacketRefusal.TheVariants.{PassesTooMany}
use Rattle.packet_headers.specs.declared.refusal.PacketRefusal.TheVariants.{BodyTruncated}
use Rattle.packet_order.specs.declared.packet.PacketId.{PacketId}
use Rattle.profile_reader.specs.Shapes.{shapes_in}
use Rattle.profile_reader.specs.Words.{PacketWhole}
use Rattle.codestream_reader.specs.Standing.{PacketsStand}

-- the place of a refusal
abbrev pub place_in : PacketRefusal → ℕ
place_in (HeaderTruncated place) = place
place_in (StuffedBitSet place) = place
place_in (ZeroPlanesTooMany place) = place
place_in (PassesTooMany place) = place
place_in (BodyTruncated place) = place

-- the refusal of a packet that begins at a place, with the place counted from there on
abbrev pub moved : ℕ → PacketRefusal → PacketRefusal
moved at (HeaderTruncated place) = HeaderTruncated (at + place)
moved at (StuffedBitSet place) = StuffedBitSet (at + place)
moved at (ZeroPlanesTooMany place) = ZeroPlanesTooMany (at + place)
moved at (PassesTooMany place) = PassesTooMany (at + place)
moved at (BodyTruncated place) = BodyTruncated (at + place)

-- no packet of these shapes stands at the place `from` before `stop`, for this cause
pub record PacketFault (shapes : List BandShape) (bytes : List ℕ) (from stop : ℕ)
    (fault : PacketRefusal) : Type 0 where
  pub own : PacketRefusal
  pub refused : Refused shapes (slice_range bytes from stop) own
  pub fault_is : fault ≡ moved from own

-- packets of the first numbers stand from the place `from` on before `stop`, and after them none of
-- the next number
pub record PacketsFault (g : Geometry) (steps : StepSizes) (bytes : List ℕ) (from stop : ℕ)
    (ids : List PacketId) (fault : PacketRefusal) : Type 0 where
  pub first : List PacketId
  pub next : PacketId
  pub later : List PacketId
  pub ids_are : ids ≡ first ++ next ∷ later
  pub before : List PacketWhole
  pub at : ℕ
  pub stand : PacketsStand g steps bytes from stop at first before
  pub next_fault : PacketFault (shapes_in g steps next) bytes at stop fault
