use Rattle.std.proofs.Common.{◌≡◌, ℕ, ◌+◌, ◌-◌, ◌*◌, ◌/◌, ◌<◌, length}
use Rattle.lift97_fixed.specs.Line.{at}
use Rattle.lift97_fixed.proofs.line.take_apart.Given as goal

abbrev pub invariant-loop-k : goal.invariant-loop-k
invariant-loop-k l = record {
  low_count : length l.lows ≡ length l.fn.line - length l.fn.line / 2;
  high_count : length l.highs ≡ length l.fn.line / 2;
  low : (j : ℕ) → j < l.k → at l.lows j ≡ at l.fn.line (2 * j);
  high : (j : ℕ) → j < l.k → at l.highs j ≡ at l.fn.line (2 * j + 1);
}
