-- What an allocation leaves.
use Rattle.std.specs.Prelude.{ℕ, ◌≡◌, ◌<◌, List, length}
use Rattle.rd_hulls.specs.declared.step.Step.{Step}
use Rattle.allocation_bound.specs.Ledger.{rounded_up}
use Rattle.allocation_bound.specs.Settled.{Budgets, Outcome, IsSettled, multiplier_of}
use Rattle.allocation_bound.specs.Walk.{IsReached}
use Rattle.allocation_bound.specs.Laws.{HasCertificate, excess_and_unused}
use Rattle.budget_duals.specs.Tree.{number_at}

-- A choice beside nested budgets, with a multiplier of each and the gap: each budget is within its
-- limit and each block has taken the first of its steps (`settled`), the gap bounds every rival,
-- and refused steps bound the gap (`certificate`).
pub record IsAllocated (w : Budgets) (steps : ℕ → List Step) (o : Outcome) (numbers : List ℕ)
    (g : ℕ) : Type 0 where
  -- it is the end of a walk, by its moves
  pub reached : IsReached w steps o
  pub settled : IsSettled w steps o
  pub certificate : HasCertificate w steps o
  pub long : length numbers ≡ w.number
  pub multipliers : (j : ℕ) → j < w.number → number_at numbers j ≡ multiplier_of w o j
  pub gap : g ≡ rounded_up (excess_and_unused w o)
