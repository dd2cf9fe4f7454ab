-- What a walk over offers keeps.
use Rattle.std.specs.Prelude.{ℕ, ◌+◌, ◌<◌, ◌≤◌, List, length, get_or, Option, Some, None}
use Rattle.std.specs.List.{AllByRecursion}
use Rattle.rd_hulls.specs.declared.step.Step.{Step}
use Rattle.rd_hulls.specs.Steps.{IsFalling}
use Rattle.allocation_bound.specs.Sums.{upto, total}
use Rattle.allocation_bound.specs.Settled.{Budgets, Outcome}
use Rattle.allocation_bound.specs.Walk.{Stands, IsNext, IsReached}
use Rattle.allocation_bound.specs.Laws.{FollowOn}
use Rattle.budget_duals.specs.Tree.{closed_by}

-- what a walk has so far: counts, steps taken and left, and the steps that closed budgets
abbrev pub so_far : List ℕ → (ℕ → List Step) → (ℕ → List Step) → List (Option Step) → Outcome
so_far counts done left closed = record
    { counts = counts; done = done; left = left; closed = closed_by closed }

-- moves led here from the start, and the walk stands, whatever step was looked at last
pub record Walks (w : Budgets) (steps : ℕ → List Step) (o : Outcome) : Type 0 where
  pub front : Step
  pub stands : Stands w steps front o
  pub reached : IsReached w steps o

-- the step that a move may look at
abbrev pub IsNextStep : Budgets → Outcome → Step → Type 0
IsNextStep w o s = (rest : List Step) × IsNext w o s rest

-- Steps that can be taken one after the other: those of a block follow on from no passes, fall in
-- slope, and none leads above the block's highest count.
pub record CanWalk (most : List ℕ) (steps : ℕ → List Step) : Type 0 where
  pub follow : (b : ℕ) → b < length most → FollowOn 0 (steps b)
  pub fall : (b : ℕ) → b < length most → IsFalling (steps b)
  pub to : (b : ℕ) → b < length most
      → AllByRecursion (λ (s : Step). s.to ≤ get_or most b 0) (steps b)

-- how many budgets are open
abbrev pub is_none : Option Step → ℕ
is_none None = 1
is_none (Some s) = 0

abbrev pub open_count : List (Option Step) → ℕ
open_count closed = total is_none closed

-- What is still ahead of a walk: the steps left, the open budgets, and what is unknown of blocks.
abbrev pub ahead : ℕ → (ℕ → List Step) → List (Option Step) → (ℕ → ℕ) → ℕ
ahead blocks left closed unknown = upto blocks (λ b. length (left b)) + open_count closed
    + upto blocks unknown
