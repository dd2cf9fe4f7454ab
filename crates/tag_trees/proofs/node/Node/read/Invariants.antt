use Rattle.std.proofs.Common.{◌-◌}
use Rattle.tag_trees.proofs.NodeLoops.{Reads}
use Rattle.tag_trees.proofs.node.Node.read.Given as goal

abbrev pub invariant-loop-bound : goal.invariant-loop-bound
invariant-loop-bound l = Reads l.initial.bits l.bits l.initial.bound l.threshold l.bound

abbrev pub decreases-loop-bound : goal.decreases-loop-bound
decreases-loop-bound l = l.threshold - l.bound
