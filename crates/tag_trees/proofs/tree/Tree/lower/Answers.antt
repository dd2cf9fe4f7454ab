use Rattle.tag_trees.proofs.LeastLemmas.{lower_path}
use Rattle.tag_trees.proofs.tree.Tree.lower.Goals as goal

pub returns-clause-values : goal.returns-clause-values
returns-clause-values c n = lower_path _ _ _ n _ _ _ _ (c.lower_node.ensures.values n)
    (c.lower_node-2.ensures.values n) (c.lower_node-3.ensures.values n)
