use Rattle.std.proofs.Common.{◌≤◌, ◌++◌}
use Rattle.bit_stuffing.specs.Bits.{number}
use Rattle.bit_stuffing.specs.Inside.{HoldsBits}
use Rattle.bit_stuffing.proofs.bit_out.BitOutBitSink.put_number.Given as goal

abbrev pub invariant-loop-full : goal.invariant-loop-full
invariant-loop-full l = record {
  holds : HoldsBits l.self-inside.bytes.items l.held l.filled l.full (l.fn.self
      ++ number l.width l.value);
  few : l.filled ≤ 57;
}

abbrev pub decreases-loop-full : goal.decreases-loop-full
decreases-loop-full l = l.filled
