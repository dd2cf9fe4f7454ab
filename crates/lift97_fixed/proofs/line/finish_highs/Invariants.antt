use Rattle.lift97_fixed.specs.Line.{at, scaled, scaling}
use Rattle.lift97_fixed.proofs.ApartLemmas.{Filled}
use Rattle.lift97_fixed.proofs.line.finish_highs.Given as goal

abbrev pub invariant-loop-k : goal.invariant-loop-k
invariant-loop-k l = Filled (λ j. scaled scaling (at l.fn.highs j)) l.k l.fn.line l.line
