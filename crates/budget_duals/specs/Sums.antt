-- The sum of the multipliers of a block's budgets, as the level of its nearest closed budget.
use Rattle.std.specs.Prelude.{ℕ, List, Option}
use Rattle.rd_hulls.specs.declared.step.Step.{Step}
use Rattle.allocation_bound.specs.Budgets.{base, chain}
use Rattle.budget_duals.specs.declared.tree.Tree.{Tree}
use Rattle.budget_duals.specs.Tree.{around_in, closed_by}

abbrev pub rate_by : Tree → List (Option Step) → (ℕ → ℕ) → ℕ → ℕ
rate_by tree closed node b = base (closed_by closed) (chain (around_in tree) (node b))
