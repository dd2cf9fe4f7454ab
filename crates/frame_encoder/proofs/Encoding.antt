-- What was made of a frame is a right encoding.
use Rattle.std.proofs.Common.{◌≡◌, ℕ, List, length, ap, sym, subst, ◌∙◌}
use Rattle.band_geometry.specs.declared.geometry.Geometry.{Geometry}
use Rattle.budget_duals.specs.Held.{IsWithin, held_in}
use Rattle.budget_duals.specs.declared.certificate.Certificate.{Certificate}
use Rattle.budget_duals.specs.declared.held.Held.{Held}
use Rattle.cine_nums.specs.declared.budget.Budget.TheVariants.{Frame}
use Rattle.cine_nums.specs.declared.profile.Profile.{Profile}
use Rattle.frame_choice.specs.Choice.{no_passes}
use Rattle.frame_choice.specs.Chosen.{IsChosen}
use Rattle.pnm_frames.specs.Picture.{Picture}
use Rattle.profile_reader.specs.Chosen.{Planes}
use Rattle.profile_reader.specs.Reads.{Reads}
use Rattle.profile_reader.specs.Shown.{ChosenReads, DecodesTo}
use Rattle.profile_reader.specs.Spell.{spell}
use Rattle.frame_encoder.specs.Encoded.{Encodes, IsGeometryOf, decoded_by, distortion_of}
use Rattle.frame_encoder.specs.Encoded.{planes_of, steps_in}
use Rattle.frame_encoder.specs.Orders.{AreLimitsFor}
use Rattle.frame_encoder.specs.Writing.{IsFrameOf, chosen_by, chosen_held, steps_of}
use Rattle.frame_encoder.specs.declared.order.EncodeOrder.{EncodeOrder}
use Rattle.frame_encoder.specs.declared.writing.ChosenPasses.{ChosenPasses}
use Rattle.frame_encoder.proofs.Chosen.{can_choose}
use Rattle.frame_encoder.proofs.Whole.{counted, whole}

-- the geometry by its own profile
pub own_profile : (profile : Profile) (p : Picture) (g : Geometry) → IsGeometryOf profile p g →
    IsGeometryOf g.profile p g
own_profile profile p g is =
    subst (λ (q : Profile). IsGeometryOf q p g) (sym is.profile_is) is

-- The codestream of the chosen passes of a frame is right.
pub encodes_so : ChosenReads → DecodesTo → (order : EncodeOrder) (p : Picture) (g : Geometry)
    (s : ChosenPasses) (bytes : List ℕ) (held : Held) (empty : ℕ) (c : Certificate) →
    IsGeometryOf order.profile p g → AreLimitsFor order.profile order.limits →
    s.geometry ≡ g → IsFrameOf (planes_of g p) s → empty ≡ distortion_of g p (no_passes g) →
    IsChosen g (steps_in g) (planes_of g p) order.limits s.choice.items c →
    ((planes : Planes) → IsFrameOf planes s →
    bytes ≡ spell s.geometry (steps_of s) (chosen_by planes s)) →
    ((planes : Planes) → IsFrameOf planes s → held ≡ chosen_held planes s) →
    Encodes order p (record {
      bytes = bytes;
      choice = s.choice.items;
      held = held;
      empty = empty;
      certificate = c;
    })
encodes_so reading decoding order p g s bytes held empty c of allowed same is_frame empty_is chosen
    bytes_are held_is =
    let h = s.geometry in
    let back : g ≡ h = sym same in
    let planes = planes_of h p in
    let is : IsFrameOf planes s =
    subst (λ (k : Geometry). IsFrameOf (planes_of k p) s) back is_frame in
    let best : IsChosen h (steps_in h) planes order.limits s.choice.items c =
    subst (λ (k : Geometry). IsChosen k (steps_in k) (planes_of k p) order.limits s.choice.items c)
    back chosen in
    let can = can_choose planes s is best.is_choice order.limits (allowed.most Frame) best.within in
    record {
      geometry = h;
      of_picture = subst (λ (k : Geometry). IsGeometryOf order.profile p k) back of;
      bytes = bytes_are planes is;
      held = held_is planes is;
      whole = ap (λ (k : Held). k.frame) (held_is planes is)
          ∙ sym (whole h (steps_of s) (chosen_by planes s))
          ∙ sym (ap (λ (bs : List ℕ). length bs) (bytes_are planes is));
      counted = λ budget.
          ap (λ (k : Held). held_in k budget) (held_is planes is)
          ∙ counted h (steps_of s) (chosen_by planes s) budget;
      limits = subst (λ (k : Held). IsWithin order.limits k) (sym (held_is planes is)) best.within;
      reads = subst (λ (bs : List ℕ). Reads bs (decoded_by h p s.choice.items))
          (sym (bytes_are planes is)) (reading h (steps_of s) planes s.choice.items can);
      decodes = decoding h (steps_of s) planes s.choice.items can;
      choice = best.is_choice;
      empty = subst (λ (k : Geometry). empty ≡ distortion_of k p (no_passes k)) back empty_is;
      distortion = best.distortion;
      rivals = best.rivals;
      refused_steps = best.below_prices;
      no_multiplier = best.none;
      chosen = best;
    }
