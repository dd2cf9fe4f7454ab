-- So many budgets, all open.
use Rattle.std.proofs.Common.{ℕ, ◌≡◌, None, length}
use Rattle.budget_duals.specs.Tree.{closed_by}
use Rattle.budget_duals.proofs.duals.all_open.Given as goal

abbrev pub invariant-loop : goal.invariant-loop
invariant-loop l = record {
  many : length l.closed.items ≡ l.counter;
  none : (j : ℕ) → closed_by l.closed.items j ≡ None;
}
