use Rattle.lift97_fixed.proofs.ApartLemmas.{Filled, between}
use Rattle.lift97_fixed.proofs.vertical.lift_between.Given as goal

abbrev pub invariant-loop-x : goal.invariant-loop-x
invariant-loop-x l = Filled (between l.fn.c l.fn.line l.fn.above l.fn.below) l.x l.fn.line l.line
