-- Each offer is true of the steps that are left, whatever the unknown points are.
use Rattle.std.proofs.Common.{ℕ, zero, suc, ◌≡◌, ◌<◌, ◌≤◌, ◌*◌, ◌∙◌, ◌↔◌, IsTrue, refl, sym, arith, subst, length}
use Rattle.std.proofs.Common.{inl, inr, false, Bool}
use Rattle.std.proofs.lemmas.Bool.{cases_lt, false≢true}
use Rattle.rd_hulls.specs.Points.{point_at}
use Rattle.rd_hulls.specs.Search.{HasNone, IsBest}
use Rattle.partial_hulls.specs.Offered.{IsBoundFrom, IsUnsure}
use Rattle.partial_hulls.proofs.Offers.{none_unsure, flat_unsure, nothing_true, bound_true}
use Rattle.partial_hulls.proofs.Offers.{whole_true, steep_true, whole_has_step}
use Rattle.partial_hulls.proofs.known.KnownPoints.offer.Goals as goal
use Rattle.partial_hulls.proofs.known.KnownPoints.offer.Goals.{then-self, else-self}

some_of : (n : ℕ) → ¬ (n ≡ 0) → 0 < n
some_of zero no_zero = absurd (no_zero refl)
some_of (suc n) no_zero = omega arith

-- a test that failed
not_less : (a b : ℕ) (test : Bool) → (IsTrue test ↔ (a < b)) → test ≡ false → b ≤ a
not_less a b test says is = elim (cases_lt a b) [
  | inl h ↦ absurd (false≢true (sym is ∙ says.1 h))
  | inr h ↦ h
]

pub returns-then-corner-eq0-clause-offer : goal.returns-then-corner-eq0-clause-offer
returns-then-corner-eq0-clause-offer c = λ all done left is between.
    let self = c.args.self.now in
    nothing_true self.points.now self.low self.whole self.block c.args.present c.requires all done
    left is between
    (subst (λ (k : ℕ). (point_at self.points.now k).dist ≡ 0) c.from.ensures c.if-corner-eq0.true)

pub returns-then-is_steeper-clause-offer : goal.returns-then-is_steeper-clause-offer
returns-then-is_steeper-clause-offer c = λ all done left is between.
    let self = c.args.self.now in
    let known = self.points.now in
    let step = c.in-Some.step in
    let best = subst (λ (k : ℕ). IsBest self.block known (point_at known k) (length known) step)
    c.from.ensures c.in-Some.ensures in
    elim c.if-self.branch [
      | then-self w ↦ whole_true known self.low self.whole self.block c.args.present
          c.requires all done left is between step w.if-self.true best
      | else-self w ↦ steep_true known self.low self.whole self.block c.args.present
          c.requires all done left is between c.bound_from-bound.result step
          (subst (λ (k : ℕ). IsBoundFrom self.low (point_at known k) c.bound_from-bound.result)
          c.from.ensures c.bound_from-bound.ensures)
          (w.is_steeper.ensures.0 (sym w.value-is ∙ c.if-is_steeper.true)) best
    ]

pub returns-else-is_steeper-clause-by_known : goal.returns-else-is_steeper-clause-by_known
returns-else-is_steeper-clause-by_known c =
    let self = c.args.self.now in
    let known = self.points.now in
    let bound = c.bound_from-bound.result in
    let step = c.in-Some.step in
    let flat : step.gain * bound.len ≤ bound.gain * step.len = elim c.if-self.branch [
      | then-self w ↦ absurd (false≢true (sym c.if-is_steeper.false ∙ w.value-is ∙ w.if-self.true))
      | else-self w ↦ not_less (bound.gain * step.len) (step.gain * bound.len)
          w.is_steeper.result w.is_steeper.ensures (sym w.value-is ∙ c.if-is_steeper.false)
    ] in
    subst (λ (k : ℕ). IsUnsure known self.low (point_at known k) bound) c.from.ensures
    (flat_unsure self.block known self.low (point_at known c.from.result) bound step
    c.in-Some.ensures flat c.bound_from-bound.ensures)

pub returns-else-is_steeper-clause-offer : goal.returns-else-is_steeper-clause-offer
returns-else-is_steeper-clause-offer c = λ all done left is between.
    let self = c.args.self.now in
    let known = self.points.now in
    let bound = c.bound_from-bound.result in
    let step = c.in-Some.step in
    let flat : step.gain * bound.len ≤ bound.gain * step.len = elim c.if-self.branch [
      | then-self w ↦ absurd (false≢true (sym c.if-is_steeper.false ∙ w.value-is ∙ w.if-self.true))
      | else-self w ↦ not_less (bound.gain * step.len) (step.gain * bound.len)
          w.is_steeper.result w.is_steeper.ensures (sym w.value-is ∙ c.if-is_steeper.false)
    ] in
    bound_true known self.low self.whole self.block c.args.present c.requires all done left is
    between bound
    (subst (λ (k : ℕ). 0 < (point_at known k).dist) c.from.ensures
    (some_of (point_at known c.from.result).dist c.if-corner-eq0.false))
    (subst (λ (k : ℕ). IsUnsure known self.low (point_at known k) bound) c.from.ensures
    (flat_unsure self.block known self.low (point_at known c.from.result) bound step
    c.in-Some.ensures flat c.bound_from-bound.ensures))

pub returns-in-None-clause-offer : goal.returns-in-None-clause-offer
returns-in-None-clause-offer c = λ all done left is between.
    let self = c.args.self.now in
    let known = self.points.now in
    let bound = c.bound_from-bound.result in
    bound_true known self.low self.whole self.block c.args.present c.requires all done left is
    between bound
    (subst (λ (k : ℕ). 0 < (point_at known k).dist) c.from.ensures
    (some_of (point_at known c.from.result).dist c.if-corner-eq0.false))
    (subst (λ (k : ℕ). IsUnsure known self.low (point_at known k) bound) c.from.ensures
    (none_unsure known self.low (point_at known c.from.result) bound c.in-None.ensures
    c.bound_from-bound.ensures))

pub returns-in-None-clause-more : goal.returns-in-None-clause-more
returns-in-None-clause-more c = λ all done left is between every at_most.
    let self = c.args.self.now in
    let known = self.points.now in
    whole_has_step known self.low self.whole self.block c.args.present c.requires all done left is
    between every
    (subst (λ (k : ℕ). 0 < (point_at known k).dist) c.from.ensures
    (some_of (point_at known c.from.result).dist c.if-corner-eq0.false))
    (subst (λ (k : ℕ). HasNone known (point_at known k) (length known)) c.from.ensures
    c.in-None.ensures)
