-- The offers of a corner by known points are true of the steps that are left.
use Rattle.std.proofs.Common.{ℕ, suc, ◌+◌, ◌-◌, ◌*◌, ◌<◌, ◌≤◌, ◌≡◌, inl, inr, List, [], ◌∷◌, length}
use Rattle.std.proofs.Common.{Bool, true, arith, refl, sym, subst, ap, ◌∙◌}
use Rattle.std.proofs.Math.Nat.{mul-le-mul_left}
use Rattle.std.proofs.lemmas.Bool.{cases_lt}
use Rattle.std.specs.List.{AllByRecursion}
use Rattle.rd_hulls.specs.declared.point.Point.{Point}
use Rattle.rd_hulls.specs.declared.step.Step.{Step as HullStep}
use Rattle.rd_hulls.specs.Points.{point_at}
use Rattle.rd_hulls.specs.Search.{height, HasNone, IsBest}
use Rattle.rd_hulls.specs.Steps.{FallFrom}
use Rattle.rd_hulls.proofs.Lines.{worse_above, steeper_above}
use Rattle.allocation_bound.proofs.Products.{steep_by}
use Rattle.budget_duals.specs.Offers.{IsOffer, IsNoSteeper}
use Rattle.budget_duals.specs.declared.offer.Slope.{Slope}
use Rattle.budget_duals.specs.declared.offer.Offer.TheVariants.{Nothing, Step, AtMost}
use Rattle.partial_hulls.specs.Known.{IsBetween, IsCompletion}
use Rattle.partial_hulls.specs.Offered.{IsBoundFrom, IsUnsure}
use Rattle.partial_hulls.proofs.Corners.{IsHullFrom, from_corner, end_no_steeper, next_is_best}
use Rattle.partial_hulls.proofs.Corners.{one_best, best_of_all}

-- ---- points that aren't known

-- a code of more passes has at least the bytes of the bound more
reaches : (low a n l : ℕ) → (a < low → a + n ≡ low) → (low ≤ a → n ≡ 1) → low ≤ l → a < l → a + n ≤ l
reaches low a n l above one long longer = elim (cases_lt a low) [
  | inl h ↦ omega (arith, above h)
  | inr h ↦ omega (arith, one h)
]

-- it lies strictly above the line of a step that is steeper than the bound,
far_above : (a e l d g n h m : ℕ) → h ≡ e → a + m ≤ l → h * n < g * m
    → e * n + g * a < d * n + g * l
far_above a e l d g n h m same far steep =
    let x : g * (a + m) ≤ g * l = mul-le-mul_left g far in
    omega (arith, x, steep, ap (λ z. z * n) same)

-- and not under the bound's
far_from : (a e l d h m : ℕ) → h ≡ e → a + m ≤ l → e * m + h * a ≤ d * m + h * l
far_from a e l d h m same far =
    let x : h * (a + m) ≤ h * l = mul-le-mul_left h far in
    omega (arith, x, ap (λ z. z * m) same)

-- ---- the bound

pub none_unsure : (known : List Point) (low : ℕ) (c : Point) (bound : Slope)
    → HasNone known c (length known) → IsBoundFrom low c bound → IsUnsure known low c bound
none_unsure known low c bound none is = record {
  bound_is = is;
  line = λ k below longer. worse_above c.len c.dist (point_at known k).len (point_at known k).dist
      bound.gain bound.len (omega arith) (none k below longer);
}

pub flat_unsure : (b : ℕ) (known : List Point) (low : ℕ) (c : Point) (bound : Slope) (t : HullStep)
    → IsBest b known c (length known) t → t.gain * bound.len ≤ bound.gain * t.len
    → IsBoundFrom low c bound → IsUnsure known low c bound
flat_unsure b known low c bound t best flat is = record {
  bound_is = is;
  line = λ k below longer. steeper_above c.len c.dist (point_at known k).len (point_at known k).dist
      t.gain t.len bound.gain bound.len t.longer (omega arith) flat (best.line k below longer);
}

-- no point of more bytes lies under the bound's line, known or not
none_under : (known : List Point) (low : ℕ) (whole : Bool) (all : List Point) (c : Point)
    (bound : Slope) → IsCompletion known low whole all → IsUnsure known low c bound
    → (k : ℕ) → k < length all → c.len < (point_at all k).len
    → c.dist * bound.len + bound.gain * c.len
    ≤ (point_at all k).dist * bound.len + bound.gain * (point_at all k).len
none_under known low whole all c bound is unsure k below longer =
    elim (cases_lt k (length known)) [
      | inl h ↦ subst (λ (p : Point). c.dist * bound.len + bound.gain * c.len
          ≤ p.dist * bound.len + bound.gain * p.len) (sym (is.first k h))
          (unsure.line k h (subst (λ (p : Point). c.len < p.len) (is.first k h) longer))
      | inr h ↦ far_from c.len c.dist (point_at all k).len (point_at all k).dist bound.gain
          bound.len unsure.bound_is.gain
          (reaches low c.len bound.len (point_at all k).len unsure.bound_is.above
          unsure.bound_is.one (is.longer k h below) longer)
    ]

-- no step after one that is no steeper than the bound is
fall_no_steeper : (bound : Slope) (g n : ℕ) (steps : List HullStep) → 1 ≤ n
    → g * bound.len ≤ bound.gain * n → FallFrom g n steps
    → AllByRecursion (IsNoSteeper bound) steps
fall_no_steeper bound g n [] some flat fall = tt
fall_no_steeper bound g n (t ∷ r) some flat fall =
    let next : t.gain * bound.len ≤ bound.gain * t.len =
    steep_by bound.gain bound.len g n t.gain t.len some flat (omega (arith, fall.0)) in
    (next, fall_no_steeper bound t.gain t.len r t.longer next fall.1)

-- where distortion is left a step is left
last_place : (all : List Point) → 0 < length all → suc (length all - 1) ≡ length all
last_place all some = omega arith

no_end : (known : List Point) (low : ℕ) (whole : Bool) (b : ℕ) (all : List Point) (c : ℕ)
    → IsCompletion known low whole all → IsHullFrom b all c [] → 0 < (point_at all c).dist → ⊥
no_end known low whole b all c is from some =
    let last = length all - 1 in
    let at : suc last ≡ length all = last_place all is.are.first in
    omega (arith, some, is.ends last at, from.lowest.least last (omega (arith, at)))

at_most : (known : List Point) (low : ℕ) (whole : Bool) (b : ℕ) (all : List Point) (c : ℕ)
    (bound : Slope) (left : List HullStep) → IsCompletion known low whole all
    → IsHullFrom b all c left → 0 < (point_at all c).dist
    → IsUnsure known low (point_at all c) bound → IsOffer left (AtMost bound)
at_most known low whole b all c bound [] is from some unsure =
    absurd (no_end known low whole b all c is from some)
at_most known low whole b all c bound (s ∷ r) is from some unsure =
    let next = from.follow.0 in
    let flat : s.gain * bound.len ≤ bound.gain * s.len =
    end_no_steeper (point_at all c).len (point_at all c).dist (point_at all s.to).len
    (point_at all s.to).dist bound.gain bound.len s.len s.gain next.step.len next.step.gain
    (none_under known low whole all (point_at all c) bound is unsure s.to next.within
    (omega (arith, next.step.len, s.longer))) in
    (tt, (flat, fall_no_steeper bound s.gain s.len r s.longer flat from.fall))

-- ---- a sure step

steeper_above_all : (known : List Point) (low : ℕ) (whole : Bool) (all : List Point) (c : Point)
    (bound : Slope) (t : HullStep) → IsCompletion known low whole all → IsBoundFrom low c bound
    → bound.gain * t.len < t.gain * bound.len
    → (k : ℕ) → length known ≤ k → k < length all → c.len < (point_at all k).len
    → height t c < height t (point_at all k)
steeper_above_all known low whole all c bound t is from steep k beyond below longer =
    far_above c.len c.dist (point_at all k).len (point_at all k).dist t.gain t.len bound.gain
    bound.len from.gain
    (reaches low c.len bound.len (point_at all k).len from.above from.one
    (is.longer k beyond below) longer)
    steep

next_step : (b : ℕ) (all : List Point) (c : ℕ) (t : HullStep) (left : List HullStep)
    → IsHullFrom b all c left → IsBest b all (point_at all c) (length all) t
    → IsOffer left (Step t)
next_step b all c t [] from best =
    absurd (omega (
      arith,
      from.lowest.least t.to best.within,
      best.step.gain,
      t.gains,
    ))
next_step b all c t (s ∷ r) from best =
    one_best b all (point_at all c) s t (next_is_best b all c s r from) best

-- ---- what is offered

module _ (known : List Point) (low : ℕ) (whole : Bool) (b c : ℕ) (inside : c < length known)
    (all : List Point) (done left : List HullStep) (is : IsCompletion known low whole all)
    (between : IsBetween b all c done left) where
  from : IsHullFrom b all c left
  from = from_corner b all c done left between

  same : point_at all c ≡ point_at known c
  same = is.first c inside

  ended : (steps : List HullStep) → IsHullFrom b all c steps → (point_at all c).dist ≡ 0
      → steps ≡ []
  ended [] h none = refl
  ended (s ∷ r) h none = absurd (omega (arith, none, h.follow.0.step.gain, s.gains))

  pub nothing_true : (point_at known c).dist ≡ 0 → IsOffer left Nothing
  nothing_true none = ended left from (ap (λ (p : Point). p.dist) same ∙ none)

  pub bound_true : (bound : Slope) → 0 < (point_at known c).dist
      → IsUnsure known low (point_at known c) bound → IsOffer left (AtMost bound)
  bound_true bound some unsure =
      at_most known low whole b all c bound left is from
      (subst (λ (p : Point). 0 < p.dist) (sym same) some)
      (subst (λ (p : Point). IsUnsure known low p bound) (sym same) unsure)

  pub whole_true : (t : HullStep) → whole ≡ true
      → IsBest b known (point_at known c) (length known) t → IsOffer left (Step t)
  whole_true t every best =
      next_step b all c t left from
      (best_of_all b known all (point_at all c) t is.first is.within
      (subst (λ (p : Point). IsBest b known p (length known) t) (sym same) best)
      (λ k beyond below longer. absurd (omega (arith, is.none_more every))))

  pub steep_true : (bound : Slope) (t : HullStep) → IsBoundFrom low (point_at known c) bound
      → bound.gain * t.len < t.gain * bound.len
      → IsBest b known (point_at known c) (length known) t → IsOffer left (Step t)
  steep_true bound t bounds steep best =
      next_step b all c t left from
      (best_of_all b known all (point_at all c) t is.first is.within
      (subst (λ (p : Point). IsBest b known p (length known) t) (sym same) best)
      (steeper_above_all known low whole all (point_at all c) bound t is
      (subst (λ (p : Point). IsBoundFrom low p bound) (sym same) bounds) steep))

  some_step : (steps : List HullStep) → IsHullFrom b all c steps → whole ≡ true
      → 0 < (point_at all c).dist → HasNone known (point_at all c) (length known) → ⊥
  some_step [] h every some none = no_end known low whole b all c is h some
  some_step (s ∷ r) h every some none =
      let next = h.follow.0 in
      let below : s.to < length known = omega (arith, next.within, is.none_more every) in
      let at = is.first s.to below in
      let worse : (point_at all c).dist ≤ (point_at known s.to).dist =
      none s.to below (subst (λ (p : Point). (point_at all c).len < p.len) at
      (omega (arith, next.step.len, s.longer))) in
      let worse_of_all : (point_at all c).dist ≤ (point_at all s.to).dist =
      subst (λ (p : Point). (point_at all c).dist ≤ p.dist) (sym at) worse in
      omega (arith, worse_of_all, next.step.gain, s.gains)

  -- once all points are known a step is found
  pub whole_has_step : whole ≡ true → 0 < (point_at known c).dist
      → HasNone known (point_at known c) (length known) → ⊥
  whole_has_step every some none =
      some_step left from every (subst (λ (p : Point). 0 < p.dist) (sym same) some)
      (subst (λ (p : Point). HasNone known p (length known)) (sym same) none)
