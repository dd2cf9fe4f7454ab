-- The sum is that of the budgets before.
use Rattle.std.proofs.Common.{◌≡◌, ◌*◌, ◌-◌}
use Rattle.allocation_bound.specs.Sums.{upto}
use Rattle.budget_duals.specs.Tree.{limit_at, number_at}
use Rattle.budget_duals.proofs.sums.unused_sum.Given as goal

abbrev pub invariant-loop-j : goal.invariant-loop-j
invariant-loop-j g l = l.sum ≡ upto l.j (λ j. number_at l.multipliers j
    * (limit_at l.tree j - g.H.Holdings.held_by l.held (g.H.Holdings.chosen l.held) j))
