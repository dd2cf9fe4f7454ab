-- What is found is the last of the budgets before that holds too much.
use Rattle.std.proofs.Common.{◌≡◌, take}
use Rattle.budget_duals.specs.Tree.{number_at, outermost}
use Rattle.budget_duals.proofs.tree.last_broken.Given as goal

abbrev pub invariant-loop-j : goal.invariant-loop-j
invariant-loop-j l = l.found
    ≡ outermost (number_at l.limits) (number_at l.held) (take l.j-index l.budgets)
