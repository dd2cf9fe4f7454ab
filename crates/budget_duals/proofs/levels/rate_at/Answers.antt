-- The budgets around have numbers below the tree's.
use Rattle.std.specs.Borrow.{Bor}
use Rattle.std.proofs.Common.{subst, sym, ℕ, ◌<◌, [], List, slice_index_or}
use Rattle.std.specs.List.{AllByRecursion}
use Rattle.budget_duals.proofs.TreeLemmas.{row_below}
use Rattle.budget_duals.proofs.levels.rate_at.Goals as goal

pub base_of-requires : goal.base_of-requires
base_of-requires c =
    let d : Bor (List ℕ) = record { ref_ptr = (0, 0); now = [] } in
    let row : List ℕ = (slice_index_or c.args.tree.now.around.now c.args.node d).now in
    record {
      below = subst (λ (n : ℕ). AllByRecursion (λ j. j < n) row) (sym c.requires.closed)
          (row_below c.args.tree.now c.args.node d c.requires.tree c.requires.node);
    }
