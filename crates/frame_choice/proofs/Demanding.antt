-- The code-blocks of a frame whose passes are coded on demand.
use Rattle.std.proofs.Common.{◌≡◌, ℕ, zero, suc, ◌+◌, ◌<◌, ◌≤◌, List, [], ◌∷◌, ◌++◌, length, map}
use Rattle.std.proofs.Common.{refl, sym, ap, ◌∙◌, subst, arith, inl, inr, slice_get, Option, Some}
use Rattle.std.proofs.Common.{None, length-append, Bool, get_or}
use Rattle.std.specs.List.{range_with_len}
use mathlib.Core.Path.{fun_ext}
use Rattle.cine_nums.specs.declared.orient.Orient.{Orient}
use Rattle.band_geometry.specs.Bands.{IsBlock, block_of}
use Rattle.band_geometry.specs.Counts.{number_of}
use Rattle.band_geometry.specs.Numbering.{all_blocks}
use Rattle.band_geometry.specs.declared.geometry.Geometry.{Geometry}
use Rattle.band_geometry.specs.declared.places.BlockId.{BlockId}
use Rattle.band_geometry.specs.declared.places.Rect.{Rect}
use Rattle.coded_blocks.specs.Codes.{written_code}
use Rattle.codeblock_views.specs.Magnitudes.{block_planes}
use Rattle.codeblock_views.specs.Rectangles.{IsBlockIn}
use Rattle.codeblock_views.specs.declared.plane.CoefPlane.{CoefPlane}
use Rattle.demand_blocks.specs.BlockLaws.{completes_in}
use Rattle.demand_blocks.specs.Blocks.{all_in, identity_in, known_in}
use Rattle.demand_blocks.specs.PointLaws.{upto_long}
use Rattle.demand_blocks.specs.Points.{points_upto}
use Rattle.demand_blocks.specs.Points as demanded
use Rattle.demand_blocks.specs.Views.{coefs_in, shape_in}
use Rattle.demand_blocks.specs.declared.block.DemandBlock.{DemandBlock}
use Rattle.distortion_sums.specs.Coefs.{coefs_of}
use Rattle.distortion_sums.specs.Distortion.{distortion}
use Rattle.dz_quantiser.specs.Bands.{band_planes}
use Rattle.dz_quantiser.specs.declared.steps.StepSizes.{StepSizes}
use Rattle.ebcot_contexts.specs.Contexts.{Shape}
use Rattle.ebcot_contexts.specs.Laws.{shaped}
use Rattle.frame_coefficients.specs.Planes.{HasSize}
use Rattle.profile_reader.specs.Chosen.{Planes, block_coefs, block_shape, chosen}
use Rattle.profile_reader.specs.Chosen.{written_of}
use Rattle.rd_hulls.specs.Hull.{IsHull}
use Rattle.rd_hulls.specs.Points.{ArePoints}
use Rattle.rd_hulls.specs.declared.point.Point.{Point}
use Rattle.rd_hulls.specs.declared.step.Step.{Step}
use Rattle.frame_choice.specs.Blocks.{block_numbered, point_of, points_of}
use Rattle.frame_choice.specs.Choice.{block_distortion, block_passes}
use Rattle.frame_choice.specs.Demanded.{AreDemanded, AreDemandedBelow, IsSeen}
use Rattle.frame_choice.specs.Demanded.{IsSeenAs}
use Rattle.frame_choice.specs.HeldLaws.{number_cases}
use Rattle.frame_choice.specs.Hulls.{AreHulls}
use Rattle.frame_choice.specs.NumberLaws.{block_is}

-- ---- one block

-- a block of the frame is a rectangle of a plane of its size
pub fits_in : (g : Geometry) (b : BlockId) (plane : CoefPlane) (r : Rect) → HasSize g plane →
    r ≡ block_of g b → IsBlockIn g.width g.height (block_of g b) →
    IsBlockIn plane.width plane.height r
fits_in g b plane r size is fits =
    subst (λ (q : Rect). IsBlockIn plane.width plane.height q) (sym is)
    (subst (λ w. IsBlockIn w plane.height (block_of g b)) (sym size.width)
    (subst (λ h. IsBlockIn g.width h (block_of g b)) (sym size.height) fits))

module _ (g : Geometry) (planes : Planes) (b : BlockId) (d : DemandBlock)
    (is : IsSeenAs g planes b d.view d.orient) where
  pub coefs_are : coefs_in d.view ≡ block_coefs g planes b
  unfolding coefs_in
  coefs_are = ap coefs_of is.cells

  pub planes_are : d.planes ≡ (block_shape g planes b).planes
  planes_are = d.planes_are ∙ ap block_planes is.cells

  pub shape_is : shape_in d.view d.orient d.planes ≡ block_shape g planes b
  shape_is =
      ap (λ (r : Rect). shaped r.width r.height d.planes d.orient) is.rect
      ∙ ap (λ (n : ℕ). shaped (block_of g b).width (block_of g b).height n d.orient) planes_are
      ∙ ap (λ (o : Orient). shaped (block_of g b).width (block_of g b).height
      (block_shape g planes b).planes o) is.band

  -- what is said of it over its view is said over the frame
  pub in_frame : (P : List (ℕ × Bool) → Shape → Type 0) →
      P (coefs_in d.view) (shape_in d.view d.orient d.planes) →
      P (block_coefs g planes b) (block_shape g planes b)
  in_frame P here =
      subst (P (block_coefs g planes b)) shape_is
      (subst (λ (coefs : List (ℕ × Bool)). P coefs (shape_in d.view d.orient d.planes)) coefs_are
      here)

-- ---- points

pub same_code : (band : ℕ) (coefs : List (ℕ × Bool)) (s : Shape) (k : ℕ) →
    demanded.code_of coefs s k ≡ (written_of band coefs s k).code
same_code band coefs s zero = refl
same_code band coefs s (suc k) = refl

same_point : (g : Geometry) (steps : StepSizes) (planes : Planes) (b : BlockId) (k : ℕ) →
    demanded.point_of (block_coefs g planes b) (block_shape g planes b) k
    ≡ point_of g steps planes b k
same_point g steps planes b zero = refl
same_point g steps planes b (suc k) = refl

same_points : (g : Geometry) (steps : StepSizes) (planes : Planes) (b : BlockId) →
    demanded.points_of (block_coefs g planes b) (block_shape g planes b)
    ≡ points_of g steps planes b
unfolding points_upto
same_points g steps planes b =
    ap (λ (f : ℕ → Point). map f (range_with_len 0 (block_passes g planes b + 1)))
    (fun_ext (same_point g steps planes b))

-- the points of all passes of a block
pub all_are : (g : Geometry) (steps : StepSizes) (planes : Planes) (b : BlockId)
    (d : Option DemandBlock) → IsSeen g planes b (identity_in d) →
    all_in d ≡ points_of g steps planes b
all_are g steps planes b None seen = absurd seen
all_are g steps planes b (Some d) seen =
    in_frame g planes b d seen
    (λ coefs s. all_in (Some d) ≡ demanded.points_of coefs s) refl
    ∙ same_points g steps planes b

-- ---- the blocks of a frame

before_seam : {A : Type 0} (xs ys : List A) (k : ℕ) → k < length xs →
    slice_get (xs ++ ys) k ≡ slice_get xs k
before_seam [] ys k below = absurd (omega (arith, below))
before_seam (x ∷ xs) ys zero below = refl
before_seam (x ∷ xs) ys (suc k) below = before_seam xs ys k (omega (arith, below))

at_seam : {A : Type 0} (xs : List A) (y : A) → slice_get (xs ++ y ∷ []) (length xs) ≡ Some y
at_seam [] y = refl
at_seam (x ∷ xs) y = at_seam xs y

pub none_demanded : (g : Geometry) (planes : Planes) → AreDemandedBelow g planes 0 []
none_demanded g planes = record {
  long = refl;
  each = λ k below. absurd (omega (arith, below));
}

pub one_demanded : (g : Geometry) (planes : Planes) (n : ℕ) (blocks : List DemandBlock)
    (d : DemandBlock) → AreDemandedBelow g planes n blocks →
    IsSeenAs g planes (block_numbered g n) d.view d.orient →
    AreDemandedBelow g planes (suc n) (blocks ++ d ∷ [])
one_demanded g planes n blocks d are seen = record {
  long = length-append blocks (d ∷ []) ∙ (let l = are.long in omega (arith, l));
  each = λ k below. elim (number_cases k n) [
    | inl is ↦
        subst (λ (o : Option DemandBlock). IsSeen g planes (block_numbered g k) (identity_in o))
        (sym (ap (slice_get (blocks ++ d ∷ [])) (is ∙ sym are.long) ∙ at_seam blocks d))
        (subst (λ (m : ℕ). IsSeenAs g planes (block_numbered g m) d.view d.orient) (sym is) seen)
    | inr other ↦
        subst (λ (o : Option DemandBlock). IsSeen g planes (block_numbered g k) (identity_in o))
        (sym (before_seam blocks (d ∷ []) k
        (let l = are.long in omega (arith, l, below, other))))
        (are.each k (omega (arith, below, other)))
  ];
}

-- each is there
pub there : (g : Geometry) (planes : Planes) (b : BlockId) (d : Option DemandBlock) →
    IsSeen g planes b (identity_in d) → (e : DemandBlock) × (d ≡ Some e)
there g planes b None seen = absurd seen
there g planes b (Some d) seen = (d, refl)

-- and is seen as the frame's block
pub seen_at : (g : Geometry) (planes : Planes) (blocks : List DemandBlock) (n : ℕ)
    (d : DemandBlock) → AreDemanded g planes blocks → n < length (all_blocks g) →
    slice_get blocks n ≡ Some d → IsSeenAs g planes (block_numbered g n) d.view d.orient
seen_at g planes blocks n d are below at =
    subst (λ (o : Option DemandBlock). IsSeen g planes (block_numbered g n) (identity_in o)) at
    (are.each n below)

-- what is written of its first passes
pub code_at : (g : Geometry) (steps : StepSizes) (planes : Planes) (blocks : List DemandBlock)
    (n k : ℕ) (d : DemandBlock) → AreDemanded g planes blocks → n < length (all_blocks g) →
    slice_get blocks n ≡ Some d →
    let b = block_numbered g n in
    demanded.code_of (coefs_in d.view) (shape_in d.view d.orient d.planes) k
    ≡ (written_of (band_planes steps b.res b.orient) (block_coefs g planes b)
    (block_shape g planes b) k).code
code_at g steps planes blocks n k d are below at =
    let b = block_numbered g n in
    in_frame g planes b d (seen_at g planes blocks n d are below at)
    (λ coefs s. demanded.code_of (coefs_in d.view) (shape_in d.view d.orient d.planes) k
    ≡ demanded.code_of coefs s k) refl
    ∙ same_code (band_planes steps b.res b.orient) (block_coefs g planes b)
    (block_shape g planes b) k

-- by a choice of passes
pub chosen_code : (g : Geometry) (steps : StepSizes) (planes : Planes) (counts : List ℕ)
    (blocks : List DemandBlock) (n : ℕ) (d : DemandBlock) → AreDemanded g planes blocks →
    n < length (all_blocks g) → slice_get blocks n ≡ Some d → (b : BlockId) → IsBlock g b →
    number_of g b ≡ n →
    demanded.code_of (coefs_in d.view) (shape_in d.view d.orient d.planes) (get_or counts n 0)
    ≡ written_code g steps planes counts b
unfolding chosen
chosen_code g steps planes counts blocks n d are below at b is number =
    code_at g steps planes blocks n (get_or counts n 0) d are below at
    ∙ ap (λ (x : BlockId). (written_of (band_planes steps x.res x.orient) (block_coefs g planes x)
    (block_shape g planes x) (get_or counts n 0)).code)
    (ap (block_numbered g) (sym number) ∙ block_is g b is)
    ∙ ap (λ (m : ℕ). (written_of (band_planes steps b.res b.orient) (block_coefs g planes b)
    (block_shape g planes b) (get_or counts m 0)).code) (sym number)

-- and what they leave
pub distortion_at : (g : Geometry) (planes : Planes) (blocks : List DemandBlock) (n k : ℕ)
    (d : DemandBlock) → AreDemanded g planes blocks → n < length (all_blocks g) →
    slice_get blocks n ≡ Some d →
    distortion (coefs_in d.view) (shape_in d.view d.orient d.planes) k
    ≡ block_distortion g planes (block_numbered g n) k
distortion_at g planes blocks n k d are below at =
    in_frame g planes (block_numbered g n) d (seen_at g planes blocks n d are below at)
    (λ coefs s. distortion (coefs_in d.view) (shape_in d.view d.orient d.planes) k
    ≡ distortion coefs s k) refl

-- a number of passes whose point is known is coded
pub passes_in : (blocks : List DemandBlock) (n k : ℕ) (d : DemandBlock) →
    slice_get blocks n ≡ Some d → k < length (known_in (slice_get blocks n)) →
    k ≤ length d.passes.items
passes_in blocks n k d at known =
    let here = subst (λ (o : Option DemandBlock). k < length (known_in o)) at known in
    let long = upto_long (coefs_in d.view) (shape_in d.view d.orient d.planes)
    (length d.passes.items) in
    omega (arith, here, long)

-- ---- hulls over all passes

pub hulls_of : (g : Geometry) (steps : StepSizes) (planes : Planes) (blocks : List DemandBlock)
    (all : ℕ → List Step) → AreDemanded g planes blocks →
    ((n : ℕ) → n < length blocks → IsHull n (all_in (slice_get blocks n)) (all n)) →
    AreHulls g steps planes all
hulls_of g steps planes blocks all are hulls = record {
  points = λ n below.
      subst (λ (ps : List Point). ArePoints ps)
      (all_are g steps planes (block_numbered g n) (slice_get blocks n) (are.each n below))
      (completes_in (slice_get blocks n)).are;
  hulls = λ n below.
      subst (λ (ps : List Point). IsHull n ps (all n))
      (all_are g steps planes (block_numbered g n) (slice_get blocks n) (are.each n below))
      (hulls n (let long = are.long in omega (arith, below, long)));
}

-- ---- blocks stay while more of their passes are coded

none_some : {A : Type 0} (x : A) → ◌≡◌ {A = Option A} None (Some x) → ⊥
none_some x e = let bad : ⊥ = cc in bad

same_long : (old new : List DemandBlock) →
    ((k : ℕ) → identity_in (slice_get new k) ≡ identity_in (slice_get old k)) →
    length new ≡ length old
same_long [] [] same = refl
same_long [] (y ∷ ys) same = absurd (none_some (y.view, y.orient) (sym (same 0)))
same_long (x ∷ xs) [] same = absurd (none_some (x.view, x.orient) (same 0))
same_long (x ∷ xs) (y ∷ ys) same =
    let rest = same_long xs ys (λ k. same (suc k)) in omega (arith, rest)

pub still_demanded : (g : Geometry) (planes : Planes) (old new : List DemandBlock) →
    ((k : ℕ) → identity_in (slice_get new k) ≡ identity_in (slice_get old k)) →
    AreDemanded g planes old → AreDemanded g planes new
still_demanded g planes old new same are = record {
  long = same_long old new same ∙ are.long;
  each = λ n below. subst (IsSeen g planes (block_numbered g n)) (sym (same n)) (are.each n below);
}
