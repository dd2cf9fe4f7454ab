-- The five byte budgets of a frame, one around the other (DCI Digital Cinema System Specification,
-- section 4), and the steps that they refuse.
use Rattle.std.specs.Prelude.{ℕ, false, true, ◌≡◌, ◌<◌, ◌≤◌, ◌^◌, ◌==◌, if◌then◌else◌}
use Rattle.std.specs.Prelude.{List, [], ◌∷◌, ◌++◌, get_or, slice_index_or, Option, Some, None}
use Rattle.cine_nums.specs.declared.budget.Budget.{Budget}
use Rattle.cine_nums.specs.declared.budget.Budget.TheVariants.{Frame, Inner, C0, C1, C2}
use Rattle.rd_hulls.specs.declared.step.Step.{Step}
use Rattle.allocation_bound.specs.Refused.{grow, price}
use Rattle.allocation_bound.specs.Settled.{Budgets, Outcome, multiplier_of}
use Rattle.budget_duals.specs.Held.{held_in, limit_in, place_of, IsOutermostBroken}
use Rattle.budget_duals.specs.Numbered.{node_in, bytes_in}
use Rattle.budget_duals.specs.declared.certificate.RefusedStep.{RefusedStep}
use Rattle.budget_duals.specs.declared.held.Held.{Held}
use Rattle.budget_duals.specs.declared.limits.Limits.{Limits}
use Rattle.budget_duals.specs.declared.members.Members.{Members}

-- The budgets around each of frame, inner, c0, c1 and c2, the nearest first. In a 4K frame a
-- component stands in the 2K portion, and this in the frame; in a 2K frame a component stands in
-- the frame, and no block is in `inner`.
abbrev pub around_each : Option ℕ → List (List ℕ)
around_each None = [] ∷ (0 ∷ []) ∷ (0 ∷ []) ∷ (0 ∷ []) ∷ (0 ∷ []) ∷ []
around_each (Some n) = [] ∷ (0 ∷ []) ∷ (1 ∷ 0 ∷ []) ∷ (1 ∷ 0 ∷ []) ∷ (1 ∷ 0 ∷ []) ∷ []

-- the limits in the same order; `inner` holds nothing in a 2K frame
abbrev pub or_none : Option ℕ → ℕ
or_none None = 0
or_none (Some n) = n

abbrev pub limit_each : Limits → List ℕ
limit_each limits =
    limits.frame ∷ or_none limits.inner ∷ slice_index_or limits.component 0 0
    ∷ slice_index_or limits.component 1 0 ∷ slice_index_or limits.component 2 0 ∷ []

-- the budgets of a frame of so many blocks, where `inside` has the budgets of each block, and
-- `held` what the budgets hold at any counts of passes
abbrev pub frame_budgets : Limits → ℕ → (ℕ → Members) → (List ℕ → Held) → Budgets
frame_budgets limits blocks inside held = record {
  blocks = blocks;
  number = 5;
  around = λ j. get_or (around_each limits.inner) j [];
  node = λ b. node_in (inside b);
  limit = λ j. get_or (limit_each limits) j 0;
  held = λ counts j. bytes_in (held counts) j;
}

-- the outermost budget that holds more than its limit, and what it holds
abbrev pub IsTooSmall : Limits → Held → Budget → ℕ → Type 0
IsTooSmall limits held budget needed = IsOutermostBroken limits held budget
    × (needed ≡ held_in held budget)

-- each limit is below 2^22 bytes
abbrev pub AreLow : Limits → Type 0
AreLow limits = (budget : Budget) (n : ℕ) → limit_in limits budget ≡ Some n → n < 2 ^ 22

-- The budgets that a block can be in: one of three components, which stands in the 2K portion where
-- there is one.
pub record AreMembers (inner : Option ℕ) (members : Members) : Type 0 where
  pub component : (c : ℕ) → members.component ≡ Some c → c ≤ 2
  pub none : inner ≡ None → members.inner ≡ false
  pub nested : (n c : ℕ) → inner ≡ Some n → members.component ≡ Some c → members.inner ≡ true

-- a refused step of a budget with a multiplier, with the bytes by which a header grows, and its
-- price
abbrev pub refused_one : Budget → ℕ → (Step → ℕ) → Option Step → List RefusedStep
refused_one budget multiplier more None = []
refused_one budget multiplier more (Some s) =
    if multiplier == 0 then []
    else record { budget = budget; step = s; grow = more s; price = price s (more s) } ∷ []

-- what one budget lists
abbrev pub refused_by : Budgets → Outcome → Budget → List RefusedStep
refused_by w o budget =
    refused_one budget (multiplier_of w o (place_of budget)) (λ s. grow w o s (place_of budget))
    (o.closed (place_of budget))

-- The steps that budgets refused, outermost first: one for each budget whose multiplier is above 0.
abbrev pub refused_steps : Budgets → Outcome → List RefusedStep
refused_steps w o =
    refused_by w o Frame ++ refused_by w o Inner ++ refused_by w o C0 ++ refused_by w o C1
    ++ refused_by w o C2
