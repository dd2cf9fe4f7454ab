-- The step that a budget refused, from lists of multipliers and of the steps that closed budgets.
use Rattle.std.specs.Prelude.{ℕ, ◌+◌, ◌-◌, List, ◌++◌, set, Option}
use Rattle.cine_nums.specs.declared.budget.Budget.{Budget}
use Rattle.cine_nums.specs.declared.budget.Budget.TheVariants.{Frame, Inner, C0, C1, C2}
use Rattle.rd_hulls.specs.declared.step.Step.{Step}
use Rattle.budget_duals.specs.Frame.{refused_one}
use Rattle.budget_duals.specs.Held.{place_of}
use Rattle.budget_duals.specs.Tree.{closed_by, number_at}
use Rattle.budget_duals.specs.declared.certificate.RefusedStep.{RefusedStep}

abbrev pub refused_listed : (List ℕ → ℕ → ℕ) → List ℕ → List ℕ → List (Option Step) → Budget
    → List RefusedStep
refused_listed held counts multipliers closed budget =
    refused_one budget (number_at multipliers (place_of budget))
    (λ s. held (set counts s.block s.to) (place_of budget) -
    (held counts (place_of budget) + s.len))
    (closed_by closed (place_of budget))

-- the steps that the five budgets of a frame refused, outermost first
abbrev pub refused_all : (List ℕ → ℕ → ℕ) → List ℕ → List ℕ → List (Option Step) → List RefusedStep
refused_all held counts multipliers closed =
    refused_listed held counts multipliers closed Frame
    ++ refused_listed held counts multipliers closed Inner
    ++ refused_listed held counts multipliers closed C0
    ++ refused_listed held counts multipliers closed C1
    ++ refused_listed held counts multipliers closed C2
