-- The codestream of an encoding has a meaning within the limits of its profile.
use Rattle.std.proofs.Common.{◌≡◌, ℕ, ◌+◌, ◌-◌, ◌<◌, ◌≤◌, true, Option, Some, None, IfSome, is_some}
use Rattle.std.proofs.Common.{length, sum, refl, sym, ◌∙◌, ap, subst, arith}
use Rattle.budget_duals.specs.Held.{held_of, limits_of, IsWithin}
use Rattle.budget_duals.specs.declared.held.Held.{Held}
use Rattle.budget_duals.specs.declared.limits.Limits.{Limits}
use Rattle.cine_nums.specs.Limits.{limit_of}
use Rattle.cine_nums.specs.declared.budget.Budget.TheVariants.{Frame, Inner, C0, C1, C2}
use Rattle.cine_nums.specs.declared.profile.Profile.{Profile}
use Rattle.cine_nums.specs.declared.profile.Profile.TheVariants.{TwoK, FourK}
use Rattle.cinema_markers.specs.MainHeader.{main_header_of}
use Rattle.frame_encoder.specs.Encoded.{Encoding, Encodes, decoded_by, steps_in, written_by}
use Rattle.frame_encoder.specs.Orders.{AreLimitsFor}
use Rattle.frame_encoder.specs.declared.order.EncodeOrder.{EncodeOrder}
use Rattle.frame_reader.specs.Decoded.{IsMeaning, held_from}
use Rattle.pnm_frames.specs.Picture.{Picture}
use Rattle.profile_reader.specs.Spell.{header_for, part_lengths}

-- ---- within lower limits, within those of the profile

inner_broken : (inner : Option ℕ) (most held : ℕ) → is_some inner ≡ true →
    IfSome inner (λ m. m ≤ most) → ((m : ℕ) → inner ≡ Some m → m < held → ⊥) → most < held → ⊥
inner_broken None most held some low none more = absurd cc
inner_broken (Some m) most held some low none more = none m refl (omega (arith, low, more))

lower_broken : (low most held n : ℕ) → low ≤ most → Some most ≡ Some n → n < held → low < held
lower_broken low most held n le same more = let is : most ≡ n = cc in omega (arith, le, is, more)

raised : (profile : Profile) (limits : Limits) (held : Held) → AreLimitsFor profile limits →
    IsWithin limits held → IsWithin (limits_of profile) held
raised profile limits held low within Frame = λ breaks.
    within Frame (limits.frame, refl, lower_broken _ _ _ _ (low.most Frame) breaks.1 breaks.2)
raised TwoK limits held low within Inner = λ breaks. absurd (let none = breaks.1 in cc)
raised FourK limits held low within Inner = λ breaks.
    let same : limit_of FourK Inner ≡ breaks.0 = let is = breaks.1 in cc in
    inner_broken limits.inner (limit_of FourK Inner) held.inner low.inner (low.most Inner)
    (λ m is more. within Inner (m, is, more)) (let more = breaks.2 in omega (arith, same, more))
raised profile limits held low within C0 = λ breaks.
    within C0 (_, refl, lower_broken _ _ _ _ (low.most C0) breaks.1 breaks.2)
raised profile limits held low within C1 = λ breaks.
    within C1 (_, refl, lower_broken _ _ _ _ (low.most C1) breaks.1 breaks.2)
raised profile limits held low within C2 = λ breaks.
    within C2 (_, refl, lower_broken _ _ _ _ (low.most C2) breaks.1 breaks.2)

-- ---- what the bytes hold

-- the bytes of the main header are all but those of the tile-parts and of EOC
header_left : (main parts frame bytes : ℕ) → frame ≡ main + parts + 2 → frame ≡ bytes →
    bytes - (parts + 2) ≡ main
header_left main parts frame bytes is whole = omega (arith, is, whole)

held_same : (order : EncodeOrder) (p : Picture) (e : Encoding) (encodes : Encodes order p e) →
    held_from e.bytes (decoded_by encodes.geometry p e.choice).main ≡ e.held
held_same order p e encodes =
    let g = encodes.geometry in
    let lengths = part_lengths g (steps_in g) (written_by g p e.choice) in
    let main = length (main_header_of (header_for g (steps_in g) lengths)) in
    let frame : e.held.frame ≡ main + sum lengths + 2 =
    ap (λ (held : Held). held.frame) encodes.held in
    ap (λ (m : ℕ). held_of g.profile m lengths)
    (header_left main (sum lengths) e.held.frame (length e.bytes) frame encodes.whole)
    ∙ sym encodes.held

-- the codestream of an encoding means what the chosen passes show of the picture
pub is_meaning : (order : EncodeOrder) (p : Picture) (e : Encoding) →
    AreLimitsFor order.profile order.limits → (encodes : Encodes order p e) →
    IsMeaning e.bytes (decoded_by encodes.geometry p e.choice)
is_meaning order p e low encodes = record {
  reads = encodes.reads;
  within =
      subst (λ (held : Held). IsWithin (limits_of encodes.geometry.profile) held)
      (sym (held_same order p e encodes))
      (subst (λ (profile : Profile). IsWithin (limits_of profile) e.held)
      (sym encodes.of_picture.profile_is)
      (raised order.profile order.limits e.held low encodes.limits));
}
