-- The multipliers before are set.
use Rattle.std.proofs.Common.{ℕ, ◌≡◌, ◌<◌, length}
use Rattle.allocation_bound.specs.Budgets.{multiplier}
use Rattle.budget_duals.specs.Tree.{around_in, closed_by, number_at}
use Rattle.budget_duals.proofs.sums.set_multipliers.Given as goal

abbrev pub invariant-loop-j : goal.invariant-loop-j
invariant-loop-j l = record {
  len : length l.out ≡ length l.fn.out;
  each : (j : ℕ) → j < l.j → number_at l.out j
      ≡ multiplier (around_in l.tree) (closed_by l.closed) j;
}
