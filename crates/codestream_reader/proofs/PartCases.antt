-- Which fault of a tile-part is returned, and what stands where its head was read.
use Rattle.std.proofs.Common.{◌≡◌, ℕ, ◌+◌, ◌≤◌, List, length, ap, sym, ◌∙◌, subst, Err, Result}
use Rattle.band_geometry.specs.declared.geometry.Geometry.{Geometry}
use Rattle.cinema_markers.specs.declared.refusal.MarkerRefusal.TheVariants.{BadTlm}
use Rattle.dz_quantiser.specs.declared.steps.StepSizes.{StepSizes}
use Rattle.packet_order.specs.Order.{ordered_packets}
use Rattle.packet_order.specs.declared.packet.PacketId.{PacketId}
use Rattle.profile_reader.specs.Words.{PartWhole}
use Rattle.tile_parts.specs.Refusals.{IsRefused}
use Rattle.tile_parts.specs.Spelling.{Spells}
use Rattle.tile_parts.specs.declared.part.Part.{Part}
use Rattle.tile_parts.specs.declared.refusal.PartRefusal.{PartRefusal}
use Rattle.codestream_reader.specs.Standing.{PacketsFill, PartStands}
use Rattle.codestream_reader.specs.PartFaults.{BodyFault, PartFault}
use Rattle.codestream_reader.specs.PartFaults.PartFault.{head, size_differs, body}
use Rattle.codestream_reader.specs.declared.refusal.ReadRefusal.{ReadRefusal}
use Rattle.codestream_reader.specs.declared.refusal.ReadRefusal.TheVariants.{Main, Part as OfPart}
use Rattle.codestream_reader.proofs.Heads.{part_of, stands_spelled}
use Rattle.codestream_reader.proofs.OnePacket.{err_once}

pub head_fault : (g : Geometry) (steps : StepSizes) (bytes : List ℕ)
    (at index count size size_at : ℕ) (e : PartRefusal) (refusal : ReadRefusal) →
    ((f : PartRefusal) → IsRefused bytes at index count f →
    ◌≡◌ {A = Result Part PartRefusal} (Err e) (Err f)) →
    ((p : Part) → Spells bytes at index count p → ⊥) →
    PartFault g steps bytes at index count size size_at refusal → OfPart e ≡ refusal
head_fault g steps bytes at index count size size_at e refusal faults never (head f h is) =
    ap (λ x. OfPart x) (err_once {T = Part} {E = PartRefusal} e f (faults f h)) ∙ sym is
head_fault g steps bytes at index count size size_at e refusal faults never
    (size_differs p s differs is) =
    absurd (never p s)
head_fault g steps bytes at index count size size_at e refusal faults never (body p s same b) =
    absurd (never p s)

pub size_fault : (g : Geometry) (steps : StepSizes) (bytes : List ℕ)
    (at index count size size_at : ℕ) (part : Part) (refusal : ReadRefusal) →
    ((f : PartRefusal) → IsRefused bytes at index count f → ⊥) →
    ((p : Part) → Spells bytes at index count p → part ≡ p) → (part.length ≡ size → ⊥) →
    PartFault g steps bytes at index count size size_at refusal →
    Main (BadTlm size_at) ≡ refusal
size_fault g steps bytes at index count size size_at part refusal never only other (head f h is) =
    absurd (never f h)
size_fault g steps bytes at index count size size_at part refusal never only other
    (size_differs p s differs is) =
    sym is
size_fault g steps bytes at index count size size_at part refusal never only other
    (body p s same b) =
    absurd (other (ap (λ (x : Part). x.length) (only p s) ∙ same))

pub body_fault : (g : Geometry) (steps : StepSizes) (bytes : List ℕ)
    (at index count size size_at : ℕ) (part : Part) (ids : List PacketId) (refusal : ReadRefusal) →
    ids ≡ ordered_packets g index → ((f : PartRefusal) → IsRefused bytes at index count f → ⊥) →
    ((p : Part) → Spells bytes at index count p → part ≡ p) → part.length ≡ size →
    PartFault g steps bytes at index count size size_at refusal →
    BodyFault g steps bytes part.body part.stop ids refusal
body_fault g steps bytes at index count size size_at part ids refusal are never only same
    (head f h is) =
    absurd (never f h)
body_fault g steps bytes at index count size size_at part ids refusal are never only same
    (size_differs p s differs is) =
    absurd (differs (sym (ap (λ (x : Part). x.length) (only p s)) ∙ same))
body_fault g steps bytes at index count size size_at part ids refusal are never only same
    (body p s also b) =
    subst (λ (l : List PacketId). BodyFault g steps bytes part.body part.stop l refusal) (sym are)
    (subst (λ (x : Part). BodyFault g steps bytes x.body x.stop (ordered_packets g index) refusal)
    (sym (only p s)) b)

-- where a tile-part stands its head is the one that was read, and its packets fill it
pub record IsHere (g : Geometry) (steps : StepSizes) (bytes : List ℕ) (at size : ℕ) (part : Part)
    (ids : List PacketId) (w : PartWhole) : Type 0 where
  pub length_is : part.length ≡ size
  pub stop_is : part.stop ≡ at + size
  pub fill : PacketsFill g steps bytes part.body part.stop ids w.packets

pub part_here : (g : Geometry) (steps : StepSizes) (bytes : List ℕ)
    (at index count size : ℕ) (part : Part) (ids : List PacketId) (w : PartWhole) →
    at ≤ length bytes → ids ≡ ordered_packets g index →
    ((p : Part) → Spells bytes at index count p → part ≡ p) →
    PartStands g steps bytes at index count size w → IsHere g steps bytes at size part ids w
part_here g steps bytes at index count size part ids w begins are only stands =
    let s = stands_spelled g steps bytes at index count size w begins stands in
    let same : part ≡ part_of at index size w = only (part_of at index size w) s.spells in
    record {
      length_is = ap (λ (x : Part). x.length) same ∙ s.length_is;
      stop_is = ap (λ (x : Part). x.stop) same ∙ s.stop_is;
      fill = subst (λ (l : List PacketId). PacketsFill g steps bytes part.body part.stop l w.packets)
          (sym are)
          (subst (λ (x : Part).
          PacketsFill g steps bytes x.body x.stop (ordered_packets g index) w.packets) (sym same)
          s.fill);
    }
