use Rattle.std.proofs.Common.{take}
use Rattle.tag_trees.proofs.LeastLemmas.{Starts}
use Rattle.tag_trees.proofs.tree.Tree.of.Given as goal

abbrev pub invariant-loop-place : goal.invariant-loop-place
invariant-loop-place l = Starts l.tree l.width l.height (take l.place l.values)
