-- Blocks whose steps stand in lists, and how many of each were taken.
use Rattle.std.specs.Prelude.{ℕ, ◌≡◌, ◌<◌, ◌≤◌, ◌^◌, List, [], ◌∷◌, length, take, drop, get_or}
use Rattle.std.specs.Prelude.{◌==◌}
use Rattle.std.specs.List.{filter}
use Rattle.rd_hulls.specs.declared.step.Step.{Step as HullStep}
use Rattle.budget_duals.specs.declared.offer.Offer.{Offer}
use Rattle.budget_duals.specs.declared.offer.Offer.TheVariants.{Nothing, Step}
use Rattle.budget_duals.specs.Offers.{HasBlock}

-- the steps of a block
abbrev pub list_at : List (List HullStep) → ℕ → List HullStep
list_at rows b = get_or rows b []

-- as many places as lists, each within its list, and the lists have steps of their blocks
pub record AreRows (rows : List (List HullStep)) (places : List ℕ) : Type 0 where
  pub many : length places ≡ length rows
  pub few : length rows < 2 ^ 32
  pub within : (b : ℕ) → b < length rows → get_or places b 0 ≤ length (list_at rows b)
  pub own : (b : ℕ) → b < length rows → HasBlock b (list_at rows b)
  pub short : (b : ℕ) → b < length rows → length (list_at rows b) < 2 ^ 32

abbrev pub done_at : List (List HullStep) → List ℕ → ℕ → List HullStep
done_at rows places b = take (get_or places b 0) (list_at rows b)

abbrev pub left_at : List (List HullStep) → List ℕ → ℕ → List HullStep
left_at rows places b = drop (get_or places b 0) (list_at rows b)

-- the first of the steps that are left, or nothing
abbrev pub offer_of : List HullStep → Offer
offer_of [] = Nothing
offer_of (s ∷ rest) = Step s

abbrev pub offer_at : List (List HullStep) → List ℕ → ℕ → Offer
offer_at rows places b = offer_of (left_at rows places b)

-- the steps of a block among others
abbrev pub steps_of : ℕ → List HullStep → List HullStep
steps_of b steps = filter (λ s. s.block == b) steps
