use Rattle.lift97_fixed.proofs.ApartLemmas.{Filled, final_low}
use Rattle.lift97_fixed.proofs.line.finish_lows.Given as goal

abbrev pub invariant-loop-k : goal.invariant-loop-k
invariant-loop-k l = Filled (final_low l.fn.lows l.fn.highs) l.k l.fn.line l.line
