-- The least term of the points looked at.
use Rattle.partial_hulls.proofs.Terms.{IsLeastSoFar}
use Rattle.partial_hulls.proofs.least.least_term.Given as goal

abbrev pub invariant-loop-point : goal.invariant-loop-point
invariant-loop-point l = IsLeastSoFar l.points l.multiplier l.point-index l.least
