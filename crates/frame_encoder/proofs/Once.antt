-- A picture has one geometry, and a codestream one outermost budget that is too small.
use Rattle.std.proofs.Common.{◌≡◌, ◌↔◌, ℕ, zero, suc, ◌≤◌, refl, sym, ◌∙◌, ap, subst, arith, Result, Ok, Err}
use mathlib.Core.HLevel.{is_prop→PathP}
use native.Mathlib.Bridge.{le_prop}
use Rattle.cine_nums.specs.Profile.{levels_of, least_levels_of, max_width_of, max_height_of}
use Rattle.cine_nums.specs.declared.budget.Budget.{Budget}
use Rattle.cine_nums.specs.declared.budget.Budget.TheVariants.{Frame, Inner, C0, C1, C2}
use Rattle.cine_nums.specs.declared.profile.Profile.{Profile}
use Rattle.band_geometry.specs.declared.geometry.Geometry.{Geometry}
use Rattle.budget_duals.specs.Held.{held_in, place_of, IsOutermostBroken, IsWithin}
use Rattle.budget_duals.specs.declared.held.Held.{Held}
use Rattle.budget_duals.specs.declared.limits.Limits.{Limits}
use Rattle.pnm_frames.specs.Picture.{Picture}
use Rattle.frame_encoder.specs.Empty.{empty_held}
use Rattle.frame_encoder.specs.Encoded.{IsGeometryOf}
use Rattle.frame_encoder.specs.Refused.{IsTooSmall}
use Rattle.frame_encoder.specs.declared.frame.Encoded.{Encoded}
use Rattle.frame_encoder.specs.declared.order.EncodeOrder.{EncodeOrder}
use Rattle.frame_encoder.specs.declared.refusal.EncodeRefusal.{EncodeRefusal}
use Rattle.frame_encoder.specs.declared.refusal.EncodeRefusal.TheVariants.{LimitTooSmall, Memory}

geometry_once : (g h : Geometry) → g.profile ≡ h.profile → g.levels ≡ h.levels →
    g.width ≡ h.width → g.height ≡ h.height → g ≡ h
geometry_once g h p l w v = λ i. record {
  profile = p i;
  levels = l i;
  width = w i;
  height = v i;
  enough_levels = is_prop→PathP (λ j. least_levels_of (p j) ≤ l j)
      (λ j. le_prop) g.enough_levels h.enough_levels i;
  few_levels = is_prop→PathP (λ j. l j ≤ levels_of (p j))
      (λ j. le_prop) g.few_levels h.few_levels i;
  some_width = is_prop→PathP (λ j. 1 ≤ w j) (λ j. le_prop) g.some_width h.some_width i;
  width_in_profile = is_prop→PathP (λ j. w j ≤ max_width_of (p j))
      (λ j. le_prop) g.width_in_profile h.width_in_profile i;
  some_height = is_prop→PathP (λ j. 1 ≤ v j) (λ j. le_prop) g.some_height h.some_height i;
  height_in_profile = is_prop→PathP (λ j. v j ≤ max_height_of (p j))
      (λ j. le_prop) g.height_in_profile h.height_in_profile i;
}

-- the geometry of a picture
pub picture_once : (profile : Profile) (p : Picture) (g h : Geometry) → IsGeometryOf profile p g →
    IsGeometryOf profile p h → g ≡ h
picture_once profile p g h one other = geometry_once g h
    (one.profile_is ∙ sym other.profile_is) (one.levels ∙ sym other.levels)
    (one.width ∙ sym other.width) (one.height ∙ sym other.height)

budget_at : ℕ → Budget
budget_at zero = Frame
budget_at (suc zero) = Inner
budget_at (suc (suc zero)) = C0
budget_at (suc (suc (suc zero))) = C1
budget_at (suc (suc (suc (suc n)))) = C2

at_place : (b : Budget) → budget_at (place_of b) ≡ b
unfolding budget_at
at_place Frame = refl
at_place Inner = refl
at_place C0 = refl
at_place C1 = refl
at_place C2 = refl

-- the outermost broken budget
outermost_once : (l : Limits) (held : Held) (a b : Budget) → IsOutermostBroken l held a →
    IsOutermostBroken l held b → a ≡ b
outermost_once l held a b one other =
    let low = one.outermost b other.broken in
    let high = other.outermost a one.broken in
    let same : place_of a ≡ place_of b = omega (arith, low, high) in
    sym (at_place a) ∙ ap budget_at same ∙ at_place b

-- no limit is too small for a codestream that is within all
pub none_too_small : (order : EncodeOrder) (p : Picture) (g : Geometry) (b : Budget) (n : ℕ) →
    IsGeometryOf order.profile p g → IsWithin order.limits (empty_held g) →
    IsTooSmall order p b n → ⊥
none_too_small order p g b n of within small =
    let same = picture_once order.profile p small.geometry g small.of_picture of in
    within b (subst (λ h. IsOutermostBroken order.limits (empty_held h) b) same
    small.outermost).broken

-- a result is the refusal for this budget, which needs so many bytes
abbrev IsOk : Encoded → Budget → ℕ → Type 0
IsOk encoded b n = let made : Result Encoded EncodeRefusal = Ok encoded in
    made ≡ Err (LimitTooSmall b n)

abbrev IsErr : EncodeRefusal → Budget → ℕ → Type 0
IsErr refusal b n = let made : Result Encoded EncodeRefusal = Err refusal in
    made ≡ Err (LimitTooSmall b n)

-- and a result that isn't such a refusal
pub not_refused : (order : EncodeOrder) (p : Picture) (g : Geometry)
    (made : Result Encoded EncodeRefusal) → IsGeometryOf order.profile p g →
    IsWithin order.limits (empty_held g) →
    ((b : Budget) (n : ℕ) → made ≡ Err (LimitTooSmall b n) → ⊥) → (b : Budget) (n : ℕ) →
    (made ≡ Err (LimitTooSmall b n)) ↔ IsTooSmall order p b n
not_refused order p g made of within other b n = (
  λ same. absurd (other b n same),
  λ small. absurd
      (none_too_small order p g b n of within small),
)

pub ok_other : (made : Encoded) (b : Budget) (n : ℕ) → IsOk made b n → ⊥
ok_other made b n same = cc

pub memory_other : (b : Budget) (n : ℕ) → IsErr Memory b n → ⊥
memory_other b n same = cc

-- the refusal for the outermost limit that is too small
pub refused_so : (order : EncodeOrder) (p : Picture) (g : Geometry) (found : Budget) (m : ℕ) →
    IsGeometryOf order.profile p g → IsOutermostBroken order.limits (empty_held g) found →
    m ≡ held_in (empty_held g) found → (b : Budget) (n : ℕ) →
    IsErr (LimitTooSmall found m) b n ↔ IsTooSmall order p b n
refused_so order p g found m of outermost bytes b n = (
  λ same.
      let one : found ≡ b = cc in
      let other : m ≡ n = cc in
      subst (λ k. IsTooSmall order p b k) other
      (subst (λ x. IsTooSmall order p x m) one
      (record { geometry = g; of_picture = of; outermost = outermost; bytes = bytes })),
  λ small.
      let same = picture_once order.profile p small.geometry g small.of_picture of in
      let here = subst (λ h. IsOutermostBroken order.limits (empty_held h) b) same small.outermost
      in
      let one : found ≡ b = outermost_once order.limits (empty_held g) found b outermost here in
      let needed : n ≡ held_in (empty_held g) b =
      subst (λ h. n ≡ held_in (empty_held h) b) same small.bytes in
      let other : m ≡ n = bytes ∙ ap (λ x. held_in (empty_held g) x) one ∙ sym needed in
      ap (λ x. Err (LimitTooSmall x m)) one ∙ ap (λ k. Err (LimitTooSmall b k)) other,
)
