-- The coefficients that were made of a frame are those of its picture.
use Rattle.std.proofs.Common.{◌≡◌, ◌≤◌, ◌∙◌, ℕ, List, [], ◌∷◌, ap, get_or, subst}
use Rattle.band_geometry.specs.Bands.{IsBlock}
use Rattle.band_geometry.specs.declared.geometry.Geometry.{Geometry}
use Rattle.band_geometry.specs.declared.places.BlockId.{BlockId}
use Rattle.budget_duals.specs.declared.certificate.Certificate.{Certificate}
use Rattle.budget_duals.specs.declared.limits.Limits.{Limits}
use Rattle.coded_blocks.specs.Codes.{AreChosenCodes}
use Rattle.coded_blocks.specs.declared.codes.ChosenCodes.{ChosenCodes}
use Rattle.codeblock_views.specs.declared.plane.CoefPlane.{CoefPlane}
use Rattle.dz_quantiser.specs.Bands.{band_planes}
use Rattle.dz_quantiser.specs.declared.steps.StepSizes.{StepSizes}
use Rattle.frame_choice.specs.Blocks.{three_planes}
use Rattle.frame_choice.specs.Chosen.{IsChosen}
use Rattle.frame_coefficients.specs.BuiltIn.{built_in_steps}
use Rattle.frame_coefficients.specs.Frame.{coefficients_of}
use Rattle.frame_packets.specs.Keeps.{FrameKept, Keeps}
use Rattle.pnm_frames.specs.Picture.{Picture}
use Rattle.profile_reader.specs.Chosen.{Planes, block_shape, chosen, choice_distortion}
use Rattle.frame_encoder.specs.Encoded.{plane_of, planes_of}

plane_made : (g : Geometry) (p : Picture) (steps : StepSizes) (i : ℕ) (xs ys zs : List ℕ) →
    steps ≡ built_in_steps g.profile → xs ≡ p.x → ys ≡ p.y → zs ≡ p.z →
    coefficients_of g.levels g.width g.height steps i xs ys zs ≡ plane_of g p i
plane_made g p steps i xs ys zs same first second third =
    let built = built_in_steps g.profile in
    ap (λ (s : StepSizes). coefficients_of g.levels g.width g.height s i xs ys zs) same
    ∙ ap (λ (x : List ℕ). coefficients_of g.levels g.width g.height built i x ys zs) first
    ∙ ap (λ (y : List ℕ). coefficients_of g.levels g.width g.height built i p.x y zs) second
    ∙ ap (λ (z : List ℕ). coefficients_of g.levels g.width g.height built i p.x p.y z) third

planes_made : (g : Geometry) (p : Picture) (c0 c1 c2 : CoefPlane) →
    c0.cells.items ≡ plane_of g p 0 → c1.cells.items ≡ plane_of g p 1 →
    c2.cells.items ≡ plane_of g p 2 → three_planes c0 c1 c2 ≡ planes_of g p
unfolding planes_of
planes_made g p c0 c1 c2 first second third =
    λ i. λ c. get_or (first i ∷ second i ∷ third i ∷ []) c []

-- the same from the steps and samples that they were made with
pub planes_from : (g : Geometry) (p : Picture) (steps : StepSizes) (c0 c1 c2 : CoefPlane)
    (xs ys zs : List ℕ) → steps ≡ built_in_steps g.profile → xs ≡ p.x → ys ≡ p.y → zs ≡ p.z →
    c0.cells.items ≡ coefficients_of g.levels g.width g.height steps 0 xs ys zs →
    c1.cells.items ≡ coefficients_of g.levels g.width g.height steps 1 xs ys zs →
    c2.cells.items ≡ coefficients_of g.levels g.width g.height steps 2 xs ys zs →
    three_planes c0 c1 c2 ≡ planes_of g p
planes_from g p steps c0 c1 c2 xs ys zs same x y z first second third =
    let there = λ (i : ℕ). plane_made g p steps i xs ys zs same x y z in
    planes_made g p c0 c1 c2 (first ∙ there 0) (second ∙ there 1) (third ∙ there 2)

-- What holds of the steps and planes that were made holds of those of the profile and the picture.
module _ (g : Geometry) (made steps : StepSizes) (first planes : Planes) (same : made ≡ steps)
    (same_planes : first ≡ planes) where
  pub below_with : ((b : BlockId) → IsBlock g b →
      (block_shape g first b).planes ≤ band_planes made b.res b.orient) → (b : BlockId) →
      IsBlock g b → (block_shape g planes b).planes ≤ band_planes steps b.res b.orient
  below_with below b is =
      subst (λ (f : Planes). (block_shape g f b).planes ≤ band_planes steps b.res b.orient)
      same_planes
      (subst (λ (s : StepSizes). (block_shape g first b).planes ≤ band_planes s b.res b.orient)
      same (below b is))

  pub codes_with : (choice : List ℕ) (codes : ChosenCodes) →
      AreChosenCodes g made first choice codes → AreChosenCodes g steps planes choice codes
  codes_with choice codes are =
      subst (λ (f : Planes). AreChosenCodes g steps f choice codes) same_planes
      (subst (λ (s : StepSizes). AreChosenCodes g s first choice codes) same are)

  pub chosen_with : (limits : Limits) (choice : List ℕ) (c : Certificate) →
      IsChosen g made first limits choice c → IsChosen g steps planes limits choice c
  chosen_with limits choice c chosen =
      subst (λ (f : Planes). IsChosen g steps f limits choice c) same_planes
      (subst (λ (s : StepSizes). IsChosen g s first limits choice c) same chosen)

  pub kept_with : (choice : List ℕ) (packets : FrameKept) →
      Keeps g made (chosen g made first choice) packets →
      Keeps g steps (chosen g steps planes choice) packets
  kept_with choice packets kept =
      subst (λ (f : Planes). Keeps g steps (chosen g steps f choice) packets) same_planes
      (subst (λ (s : StepSizes). Keeps g s (chosen g s first choice) packets) same kept)

  pub distortion_with : (choice : List ℕ) →
      choice_distortion g first choice ≡ choice_distortion g planes choice
  distortion_with choice = ap (λ (f : Planes). choice_distortion g f choice) same_planes
