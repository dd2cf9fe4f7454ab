-- None of the budgets before is closed.
use Rattle.std.proofs.Common.{◌≡◌, take, None}
use Rattle.allocation_bound.specs.Budgets.{first}
use Rattle.budget_duals.specs.Tree.{closed_by}
use Rattle.budget_duals.proofs.levels.base_of.Given as goal

abbrev pub invariant-loop-j : goal.invariant-loop-j
invariant-loop-j l = first (closed_by l.closed) (take l.j-index l.budgets) ≡ None
