use Rattle.std.proofs.Common.{◌≡◌, List, Bool}
use Rattle.bit_stuffing.specs.Inside.{Counts}
use Rattle.bit_stuffing.proofs.bit_count.BitCount.emptied.Given as goal

abbrev pub invariant-loop-count : goal.invariant-loop-count
invariant-loop-count l = record {
  counts : (bits : List Bool) → Counts l.fn.self.whole l.fn.self.held l.fn.self.filled
      l.fn.self.bits bits → Counts l.count.whole l.count.held l.count.filled l.count.bits bits;
  same : l.count.bits ≡ l.fn.self.bits;
}

abbrev pub decreases-loop-count : goal.decreases-loop-count
decreases-loop-count l = l.count.filled
