-- The laws of rows.
use Rattle.std.proofs.Common.{ℕ, ◌≡◌, ◌<◌, Bool, List, [], ◌∷◌, ◌++◌}
use Rattle.std.proofs.Common.{sym, subst}
use Rattle.std.proofs.Props.{props}
use Rattle.std.proofs.lemmas.List.{take-append-drop}
use mathlib.Core.HLevel.{⊥_prop}
use Rattle.rd_hulls.specs.declared.point.Point.{Point}
use Rattle.rd_hulls.specs.declared.step.Step.{Step as HullStep}
use Rattle.rd_hulls.specs.Points.{ArePoints}
use Rattle.allocation_bound.specs.Steps.{IsHead}
use Rattle.budget_duals.specs.Offers.{IsOffer, HasBlock, HasStep}
use Rattle.budget_duals.specs.declared.offer.Offer.{Offer}
use Rattle.budget_duals.specs.declared.offer.Offer.TheVariants.{Nothing, Step, AtMost}
use Rattle.offers_on_demand.specs.HullLaws.{own_steps}
use Rattle.offers_on_demand.specs.Hulls.{hull_steps}
use Rattle.offers_on_demand.specs.Rows.{AreRows, row_at, done_of, left_of}
use Rattle.offers_on_demand.specs.declared.row.DemandRow.{DemandRow}

step_set : IsSet HullStep
step_set = Prim.hlevel props

none_prop : (left : List HullStep) → IsProp (left ≡ [])
none_prop left = Prim.hlevel (props, step_set)

head_prop : (s : HullStep) (left : List HullStep) → IsProp (IsHead s left)
head_prop s [] = ⊥_prop
head_prop s (t ∷ rest) = step_set t s

some_prop : (left : List HullStep) → IsProp (HasStep left)
some_prop [] = ⊥_prop
some_prop (t ∷ rest) = Prim.hlevel props

offer_prop : (left : List HullStep) (o : Offer) → IsProp (IsOffer left o)
offer_prop left Nothing = none_prop left
offer_prop left (Step s) = head_prop s left
offer_prop left (AtMost bound) = Prim.hlevel (props, some_prop)

pub rows_prop : (blocks : ℕ) (known : ℕ → List Point) (whole : ℕ → Bool)
    (steps : ℕ → List HullStep) (rows : List DemandRow)
    → IsProp (AreRows blocks known whole steps rows)
rows_prop blocks known whole steps rows = Prim.hlevel (props, offer_prop)

pub true_at : (blocks : ℕ) (known : ℕ → List Point) (whole : ℕ → Bool)
    (steps : ℕ → List HullStep) (rows : List DemandRow) (b : ℕ)
    → AreRows blocks known whole steps rows → b < blocks
    → IsOffer (left_of steps rows b) (row_at rows b).offer
true_at blocks known whole steps rows b are below = (are.each b below).offer

pub own_at : (all : ℕ → List Point) (rows : List DemandRow) (b : ℕ) → ArePoints (all b)
    → HasBlock b (done_of (λ k. hull_steps k (all k)) rows b
    ++ left_of (λ k. hull_steps k (all k)) rows b)
own_at all rows b are =
    subst (HasBlock b) (sym (take-append-drop (row_at rows b).taken (hull_steps b (all b))))
    (own_steps b (all b) are)
