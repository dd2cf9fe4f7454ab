use Rattle.std.proofs.Common.{refl, false}
use Rattle.tag_trees.proofs.LeastLemmas.{fresh_stands, same_everywhere}
use Rattle.tag_trees.specs.declared.node.Node.{Node}
use Rattle.tag_trees.proofs.tree.Tree.unread.Goals as goal

pub returns-clause-stands : goal.returns-clause-stands
returns-clause-stands c = fresh_stands _ _ _
    (λ n. same_everywhere (λ (k : Node). k.bound) 0 21 c.unread.result _ n c.unread.ensures.bound
    refl)
    (λ n. same_everywhere (λ (k : Node). k.known) false 21 c.unread.result _ n
    c.unread.ensures.known refl)
