-- The budgets around have numbers below the tree's.
use Rattle.std.specs.Borrow.{Bor}
use Rattle.std.proofs.Common.{subst, sym, ℕ, ◌<◌, [], List, slice_index_or}
use Rattle.std.specs.List.{AllByRecursion}
use Rattle.budget_duals.proofs.TreeLemmas.{row_below}
use Rattle.budget_duals.proofs.tree.Tree.is_open.Goals as goal

pub none_closed-requires : goal.none_closed-requires
none_closed-requires c =
    let d : Bor (List ℕ) = record { ref_ptr = (0, 0); now = [] } in
    let row : List ℕ = (slice_index_or c.args.self.now.around.now c.args.node d).now in
    record {
      below = subst (λ (n : ℕ). AllByRecursion (λ j. j < n) row) (sym c.requires.closed)
          (row_below c.args.self.now c.args.node d c.requires.tree c.requires.node);
    }
