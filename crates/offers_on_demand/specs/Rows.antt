-- What is kept of a block beside its points: the passes and the steps that are taken, and its
-- offer.
use Rattle.std.specs.Prelude.{ℕ, ◌≡◌, ◌<◌, ◌≤◌, Bool, false, List, length, take, drop, get_or}
use Rattle.rd_hulls.specs.declared.point.Point.{Point}
use Rattle.rd_hulls.specs.declared.step.Step.{Step as HullStep}
use Rattle.rd_hulls.specs.Hull.{end_of}
use Rattle.budget_duals.specs.Offers.{IsOffer, IsAtMost}
use Rattle.budget_duals.specs.declared.offer.Offer.TheVariants.{Nothing, Step}
use Rattle.offers_on_demand.specs.declared.row.DemandRow.{DemandRow}

-- a row of no block
abbrev pub no_row : DemandRow
no_row = record { present = 0; taken = 0; offer = Nothing }

abbrev pub row_at : List DemandRow → ℕ → DemandRow
row_at rows b = get_or rows b no_row

-- The row of a block of these hull steps, of whose points the first ones are known: the steps taken
-- lead to the present number of passes, whose point is known, and the offer is true of the others.
pub record IsRow (known : List Point) (whole : Bool) (steps : List HullStep) (row : DemandRow)
    : Type 0 where
  pub present_known : row.present < length known
  pub within : row.taken ≤ length steps
  pub ended : end_of 0 (take row.taken steps) ≡ row.present
  pub offer : IsOffer (drop row.taken steps) row.offer
  -- a step that is offered leads to a known point, and a bound is offered only where a pass is left
  pub to_known : (s : HullStep) → row.offer ≡ Step s → s.to < length known
  pub more : IsAtMost row.offer → whole ≡ false

-- the rows of so many blocks
pub record AreRows (blocks : ℕ) (known : ℕ → List Point) (whole : ℕ → Bool)
    (steps : ℕ → List HullStep) (rows : List DemandRow) : Type 0 where
  pub many : length rows ≡ blocks
  pub each : (b : ℕ) → b < blocks → IsRow (known b) (whole b) (steps b) (row_at rows b)

abbrev pub done_of : (ℕ → List HullStep) → List DemandRow → ℕ → List HullStep
done_of steps rows b = take (row_at rows b).taken (steps b)

abbrev pub left_of : (ℕ → List HullStep) → List DemandRow → ℕ → List HullStep
left_of steps rows b = drop (row_at rows b).taken (steps b)
