use Rattle.lift97_fixed.proofs.ApartLemmas.{Filled, new_low}
use Rattle.lift97_fixed.proofs.line.lift_lows.Given as goal

abbrev pub invariant-loop-k : goal.invariant-loop-k
invariant-loop-k l = Filled (new_low l.fn.c l.fn.lows l.fn.highs) l.k l.fn.lows l.lows
