-- The lower bound that multipliers of the byte budgets of a frame put on the distortion of its
-- choices of passes, and the gap above it (ISO/IEC 15444-1, J.14.3, on rate control).
use Rattle.std.specs.Prelude.{ℕ, ◌+◌, ◌*◌, ◌≤◌, List, get_or, map, sum}
use Rattle.cine_nums.specs.declared.budget.Budget.{Budget}
use Rattle.band_geometry.specs.Bands.{IsBlock}
use Rattle.band_geometry.specs.Numbering.{all_blocks}
use Rattle.band_geometry.specs.declared.geometry.Geometry.{Geometry}
use Rattle.band_geometry.specs.declared.places.BlockId.{BlockId}
use Rattle.allocation_bound.specs.Passes.{IsLeastTerm}
use Rattle.allocation_bound.specs.Steps.{scale}
use Rattle.allocation_bound.specs.Sums.{total}
use Rattle.budget_duals.specs.Frame.{limit_each}
use Rattle.budget_duals.specs.Held.{held_in, place_of}
use Rattle.budget_duals.specs.declared.limits.Limits.{Limits}
use Rattle.dz_quantiser.specs.declared.steps.StepSizes.{StepSizes}
use Rattle.profile_reader.specs.Chosen.{Planes, choice_distortion}
use Rattle.frame_choice.specs.Blocks.{points_of}
use Rattle.frame_choice.specs.Choice.{body_bytes, held_at}
use Rattle.frame_choice.specs.Refused.{all_budgets, multiplier_in, rate_in}

-- the least term of each block over all its numbers of passes: 2^32 times distortion, and the sum
-- of the multipliers of the block's budgets times bytes
abbrev pub AreLeastTerms : Geometry → StepSizes → Planes → List ℕ → (BlockId → ℕ) → Type 0
AreLeastTerms g steps planes multipliers least =
    (b : BlockId) → IsBlock g b →
    IsLeastTerm (points_of g steps planes b) (rate_in g multipliers b) (least b)

-- the worth of what the budgets hold; and of the limits with the body bytes, where the 2K portion
-- that a 2K frame hasn't got has the limit 0
abbrev pub held_worth : Geometry → StepSizes → Planes → List ℕ → List ℕ → ℕ
held_worth g steps planes choice multipliers =
    total (λ (j : Budget). multiplier_in multipliers j
    * held_in (held_at g steps planes choice) j) all_budgets

abbrev pub limit_worth : Geometry → StepSizes → Planes → Limits → List ℕ → List ℕ → ℕ
limit_worth g steps planes limits choice multipliers =
    total (λ (j : Budget). multiplier_in multipliers j
    * (get_or (limit_each limits) (place_of j) 0 + body_bytes g steps planes choice j)) all_budgets

-- The bound is the least terms together, less the multipliers' worth of what the limits leave for
-- body bytes beside the written headers. The choice's distortion less k is at most the bound; what
-- would be subtracted stands on the other side.
abbrev pub IsBelowBound : Geometry → StepSizes → Planes → Limits → List ℕ → List ℕ →
    (BlockId → ℕ) → ℕ → Type 0
IsBelowBound g steps planes limits choice multipliers least k =
    scale * choice_distortion g planes choice
    + limit_worth g steps planes limits choice multipliers
    ≤ sum (map least (all_blocks g)) + held_worth g steps planes choice multipliers + scale * k

-- the gap is the least whole number of that kind
pub record IsGapAbove (g : Geometry) (steps : StepSizes) (planes : Planes) (limits : Limits)
    (choice multipliers : List ℕ) (least : BlockId → ℕ) (gap : ℕ) : Type 0 where
  pub enough : IsBelowBound g steps planes limits choice multipliers least gap
  pub smallest : (k : ℕ) → IsBelowBound g steps planes limits choice multipliers least k → gap ≤ k
