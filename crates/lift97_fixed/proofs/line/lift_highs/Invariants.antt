use Rattle.lift97_fixed.proofs.ApartLemmas.{Filled, new_high}
use Rattle.lift97_fixed.proofs.line.lift_highs.Given as goal

abbrev pub invariant-loop-k : goal.invariant-loop-k
invariant-loop-k l = Filled (new_high l.fn.c l.fn.lows l.fn.highs) l.k l.fn.highs l.highs
