-- The steps that the byte budgets of a frame refuse to a choice of coding passes (ISO/IEC 15444-1,
-- J.14.3, on rate control).
use Rattle.std.specs.Prelude.{ℕ, ◌≡◌, ◌+◌, ◌-◌, ◌<◌, ◌≤◌, IsTrue, List, [], ◌∷◌, set, Some}
use Rattle.std.specs.List.{filter}
use Rattle.cine_nums.specs.declared.budget.Budget.{Budget}
use Rattle.cine_nums.specs.declared.budget.Budget.TheVariants.{Frame, Inner, C0, C1, C2}
use Rattle.rd_hulls.specs.Hull.{IsHullStep}
use Rattle.band_geometry.specs.Bands.{IsBlock}
use Rattle.band_geometry.specs.Counts.{number_of}
use Rattle.band_geometry.specs.declared.geometry.Geometry.{Geometry}
use Rattle.band_geometry.specs.declared.places.BlockId.{BlockId}
use Rattle.allocation_bound.specs.Refused.{price}
use Rattle.allocation_bound.specs.Steps.{level}
use Rattle.allocation_bound.specs.Sums.{total}
use Rattle.budget_duals.specs.Held.{held_in, limit_in, place_of}
use Rattle.budget_duals.specs.Members.{is_in}
use Rattle.budget_duals.specs.Tree.{number_at}
use Rattle.budget_duals.specs.declared.certificate.RefusedStep.{RefusedStep}
use Rattle.budget_duals.specs.declared.limits.Limits.{Limits}
use Rattle.dz_quantiser.specs.declared.steps.StepSizes.{StepSizes}
use Rattle.frame_packets.specs.Changes.{block_members}
use Rattle.profile_reader.specs.Chosen.{Planes, chosen_passes}
use Rattle.frame_choice.specs.Blocks.{points_of}
use Rattle.frame_choice.specs.Choice.{block_bytes, block_distortion, block_passes, held_at}

-- the byte budgets of a frame, outermost first, and those in which a block's bytes stand
abbrev pub all_budgets : List Budget
all_budgets = Frame ∷ Inner ∷ C0 ∷ C1 ∷ C2 ∷ []

abbrev pub budgets_of : Geometry → BlockId → List Budget
budgets_of g b = filter (is_in (block_members g b)) all_budgets

-- the multiplier of a budget
abbrev pub multiplier_in : List ℕ → Budget → ℕ
multiplier_in multipliers budget = number_at multipliers (place_of budget)

-- the sum of the multipliers of a block's budgets
abbrev pub rate_in : Geometry → List ℕ → BlockId → ℕ
rate_in g multipliers b = total (multiplier_in multipliers) (budgets_of g b)

-- A step that a budget refused: from the chosen number of passes of one of its blocks to another
-- one. With the step taken, the budget would hold more than its limit.
pub record IsRefusedStep (g : Geometry) (steps : StepSizes) (planes : Planes) (limits : Limits)
    (choice multipliers : List ℕ) (r : RefusedStep) : Type 0 where
  pub block : BlockId
  pub is_block : IsBlock g block
  pub number : number_of g block ≡ r.step.block
  pub inside : IsTrue (is_in (block_members g block) r.budget)
  pub from : r.step.from ≡ chosen_passes g choice block
  pub to : r.step.to ≤ block_passes g planes block
  -- by so many bytes its code grows, and by so much its distortion falls
  pub len : block_bytes g steps planes block r.step.from + r.step.len
      ≡ block_bytes g steps planes block r.step.to
  pub gain : block_distortion g planes block r.step.to + r.step.gain
      ≡ block_distortion g planes block r.step.from
  -- no number of passes of the block has a point under the line of the step
  pub hull : IsHullStep r.step.block (points_of g steps planes block) r.step.from r.step
  pub limit : ℕ
  pub limited : limit_in limits r.budget ≡ Some limit
  pub breaks : limit
      < held_in (held_at g steps planes (set choice r.step.block r.step.to)) r.budget
  -- The budget would grow by so many bytes beyond those of the code; 0 where it would grow by
  -- fewer.
  pub grow_is : r.grow
      ≡ held_in (held_at g steps planes (set choice r.step.block r.step.to)) r.budget
      - (held_in (held_at g steps planes choice) r.budget + r.step.len)
  pub price_is : r.price ≡ price r.step r.grow
  -- 2^32 times the gain for a byte, rounded down, is the sum of the multipliers of the block's
  -- budgets
  pub slope : level r.step ≡ rate_in g multipliers block
