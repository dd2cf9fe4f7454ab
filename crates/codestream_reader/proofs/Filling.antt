-- Packets that fill the bytes between two places stand there up to the second one.
use Rattle.std.proofs.Common.{◌≡◌, ℕ, ◌-◌, ◌≤◌, ◌<◌, List, [], ◌++◌, length, take, drop}
use Rattle.std.proofs.Common.{ap, sym, ◌∙◌, arith, slice_range, subst, Err, Result}
use Rattle.std.specs.List.{flat_map}
use Rattle.std.proofs.lemmas.List.{append-nil}
use Rattle.band_geometry.specs.declared.geometry.Geometry.{Geometry}
use Rattle.dz_quantiser.specs.declared.steps.StepSizes.{StepSizes}
use Rattle.packet_headers.specs.declared.refusal.PacketRefusal.{PacketRefusal}
use Rattle.packet_order.specs.declared.packet.PacketId.{PacketId}
use Rattle.profile_reader.specs.Words.{PacketWhole, packet_bytes}
use Rattle.codestream_reader.specs.PacketFaults.{PacketsFault}
use Rattle.codestream_reader.specs.Standing.{PacketsStand, PacketsFill}
use Rattle.codestream_reader.specs.PartFaults.{BodyFault}
use Rattle.codestream_reader.specs.PartFaults.BodyFault.{packet, long}
use Rattle.codestream_reader.specs.declared.refusal.ReadRefusal.{ReadRefusal}
use Rattle.codestream_reader.specs.declared.refusal.ReadRefusal.TheVariants.{Packet, PartTooLong}
use Rattle.codestream_reader.proofs.OnePacket.{err_once}
use Rattle.codestream_reader.proofs.Pieces.{length_part}

empty_part : {A : Type 0} (xs : List A) (a : ℕ) → slice_range xs a a ≡ []
empty_part xs a = ap (λ n. take n (drop a xs)) (let e : a - a ≡ 0 = omega arith in e)

pub fill_stands : (g : Geometry) (steps : StepSizes) (bytes : List ℕ) (from stop : ℕ)
    (ids : List PacketId) (ws : List PacketWhole) → from ≤ stop → stop ≤ length bytes →
    PacketsFill g steps bytes from stop ids ws →
    PacketsStand g steps bytes from stop stop ids ws
fill_stands g steps bytes from stop ids ws order inside fill = record {
  fits = fill.fits;
  bytes_are =
      fill.bytes_are ∙ sym (append-nil (flat_map packet_bytes ws))
      ∙ ap (λ t. flat_map packet_bytes ws ++ t) (sym (empty_part bytes stop));
  to_is =
      let whole = length_part bytes from stop inside in
      let same = ap (λ (t : List ℕ). length t) fill.bytes_are in
      omega (arith, whole, same, order);
}

pub stands_fill : (g : Geometry) (steps : StepSizes) (bytes : List ℕ) (from stop to : ℕ)
    (ids : List PacketId) (ws : List PacketWhole) → to ≡ stop →
    PacketsStand g steps bytes from stop to ids ws → PacketsFill g steps bytes from stop ids ws
stands_fill g steps bytes from stop to ids ws whole stand = record {
  fits = stand.fits;
  bytes_are =
      stand.bytes_are
      ∙ ap (λ t. flat_map packet_bytes ws ++ t)
      (ap (λ n. slice_range bytes n stop) whole ∙ empty_part bytes stop)
      ∙ append-nil (flat_map packet_bytes ws);
}

-- the fault that is returned where a packet is refused
pub packet_fault : (g : Geometry) (steps : StepSizes) (bytes : List ℕ) (from stop : ℕ)
    (ids : List PacketId) (fault : PacketRefusal) (refusal : ReadRefusal) →
    ((f : PacketRefusal) → PacketsFault g steps bytes from stop ids f →
    ◌≡◌ {A = Result ℕ PacketRefusal} (Err fault) (Err f)) →
    ((ws : List PacketWhole) (to : ℕ) → PacketsStand g steps bytes from stop to ids ws → ⊥) →
    BodyFault g steps bytes from stop ids refusal → Packet fault ≡ refusal
packet_fault g steps bytes from stop ids fault refusal faults never (packet f h is) =
    ap (λ e. Packet e) (err_once {T = ℕ} {E = PacketRefusal} fault f (faults f h)) ∙ sym is
packet_fault g steps bytes from stop ids fault refusal faults never (long at ws s less is) =
    absurd (never ws at s)

-- where all packets were read
pub long_fault : (g : Geometry) (steps : StepSizes) (bytes : List ℕ) (from stop to : ℕ)
    (ids : List PacketId) (refusal : ReadRefusal) →
    ((f : PacketRefusal) → PacketsFault g steps bytes from stop ids f → ⊥) →
    ((ws : List PacketWhole) (at : ℕ) → PacketsStand g steps bytes from stop at ids ws →
    to ≡ at) →
    BodyFault g steps bytes from stop ids refusal → (to < stop) × (PartTooLong to ≡ refusal)
long_fault g steps bytes from stop to ids refusal never ends (packet f h is) =
    absurd (never f h)
long_fault g steps bytes from stop to ids refusal never ends (long at ws s less is) =
    let same : to ≡ at = ends ws at s in
    (subst (λ n. n < stop) (sym same) less, ap (λ n. PartTooLong n) same ∙ sym is)
