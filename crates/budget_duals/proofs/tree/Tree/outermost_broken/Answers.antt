-- The budgets around have numbers below the tree's.
use Rattle.budget_duals.proofs.TreeLemmas.{row_below}
use Rattle.budget_duals.proofs.tree.Tree.outermost_broken.Goals as goal

pub last_broken-requires : goal.last_broken-requires
last_broken-requires c = record { below = row_below c.args.self.now c.args.node _ c.requires.tree c.requires.node }
