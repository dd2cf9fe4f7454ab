-- What stands of a choice of passes and its certificate: the lower bound on the distortion of its
-- rivals (ISO/IEC 15444-1, J.14.3, on rate control).
use Rattle.std.specs.Prelude.{ℕ, ◌≡◌, ◌+◌, ◌<◌, ◌≤◌, List, length, map, nat_lt}
use Rattle.std.specs.List.{All, filter}
use Rattle.cine_nums.specs.declared.budget.Budget.{Budget}
use Rattle.rd_hulls.specs.declared.step.Step.{Step}
use Rattle.rd_hulls.specs.Hull.{IsHull}
use Rattle.band_geometry.specs.Bands.{IsBlock}
use Rattle.band_geometry.specs.Numbering.{all_blocks}
use Rattle.band_geometry.specs.declared.geometry.Geometry.{Geometry}
use Rattle.band_geometry.specs.declared.places.BlockId.{BlockId}
use Rattle.allocation_bound.specs.Passes.{term}
use Rattle.allocation_bound.specs.Settled.{Budgets}
use Rattle.allocation_bound.specs.Sums.{total}
use Rattle.budget_duals.specs.Certified.{IsCertificate}
use Rattle.budget_duals.specs.Frame.{frame_budgets}
use Rattle.budget_duals.specs.Held.{IsWithin}
use Rattle.budget_duals.specs.Tree.{number_at}
use Rattle.budget_duals.specs.declared.certificate.Certificate.{Certificate}
use Rattle.budget_duals.specs.declared.certificate.RefusedStep.{RefusedStep}
use Rattle.budget_duals.specs.declared.limits.Limits.{Limits}
use Rattle.dz_quantiser.specs.declared.steps.StepSizes.{StepSizes}
use Rattle.profile_reader.specs.Chosen.{Planes, choice_distortion, chosen_passes}
use Rattle.frame_choice.specs.Blocks.{block_numbered, inside_at, point_of, points_of}
use Rattle.frame_choice.specs.Choice.{FitsBesideHeaders, IsChoice, block_passes, held_at}
use Rattle.frame_choice.specs.Choice.{no_passes}
use Rattle.frame_choice.specs.Gap.{AreLeastTerms, IsGapAbove}
use Rattle.frame_choice.specs.Refused.{IsRefusedStep, all_budgets, multiplier_in, rate_in}

-- the distortion of a frame of which nothing is decoded
abbrev pub undecoded : Geometry → Planes → ℕ
undecoded g planes = choice_distortion g planes (no_passes g)

-- the budgets of a frame, and what they hold at any counts of passes
abbrev pub choice_budgets : Geometry → StepSizes → Planes → Limits → Budgets
choice_budgets g steps planes limits =
    frame_budgets limits (length (all_blocks g)) (inside_at g) (held_at g steps planes)

-- The certificate says how far a choice can be from the best one.
pub record IsChosen (g : Geometry) (steps : StepSizes) (planes : Planes) (limits : Limits)
    (choice : List ℕ) (c : Certificate) : Type 0 where
  pub is_choice : IsChoice g planes choice
  -- each budget is within its limit, headers included
  pub within : IsWithin limits (held_at g steps planes choice)
  pub distortion : c.distortion ≡ choice_distortion g planes choice
  -- the choice is one of those that fit beside the headers written for it
  pub fits : FitsBesideHeaders g steps planes limits choice choice
  -- No choice of passes that fits beside the written headers has a distortion below the chosen
  -- one's, less the gap.
  pub rivals : (rival : List ℕ) → IsChoice g planes rival →
      FitsBesideHeaders g steps planes limits choice rival →
      choice_distortion g planes choice ≤ choice_distortion g planes rival + c.gap
  -- The gap is that of the bound of the multipliers, over all numbers of passes of all blocks.
  pub least : BlockId → ℕ
  pub terms : AreLeastTerms g steps planes c.multipliers least
  pub gap : IsGapAbove g steps planes limits choice c.multipliers least c.gap
  -- each block's chosen term is at most 2^17 above each other one
  pub chosen : (b : BlockId) → IsBlock g b → (k : ℕ) → k ≤ block_passes g planes b →
      term (rate_in g c.multipliers b)
      (point_of g steps planes b (chosen_passes g choice b))
      ≤ term (rate_in g c.multipliers b) (point_of g steps planes b k) + 131072
  -- The refused steps: one of each budget with a multiplier above 0, the outermost first.
  pub refused : All (IsRefusedStep g steps planes limits choice c.multipliers) c.refused.items
  pub budgets : map (λ (r : RefusedStep). r.budget) c.refused.items
      ≡ filter (λ (j : Budget). nat_lt 0 (multiplier_in c.multipliers j)) all_budgets
  -- The gap is at most the prices of the refused steps together and 1, and 0 where no budget has a
  -- multiplier.
  pub below_prices : c.gap ≤ total (λ (r : RefusedStep). r.price) c.refused.items + 1
  pub none : ((j : ℕ) → j < 5 → number_at c.multipliers j ≡ 0) → c.gap ≡ 0
  -- The steps of the hull of each block, those that it has taken and those that it has left.
  pub hull_steps : ℕ → List Step
  pub hulls : (b : ℕ) → b < length (all_blocks g) →
      IsHull b (points_of g steps planes (block_numbered g b)) (hull_steps b)
  pub done : ℕ → List Step
  pub left : ℕ → List Step
  -- What the walk over them gives: multipliers, gap and refused steps of a settled walk.
  pub certificate : IsCertificate (choice_budgets g steps planes limits) hull_steps choice done left
      (undecoded g planes) c
