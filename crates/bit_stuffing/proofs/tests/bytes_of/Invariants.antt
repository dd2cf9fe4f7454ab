use Rattle.std.proofs.Common.{◌≡◌, take}
use Rattle.bit_stuffing.proofs.tests.bytes_of.Given as goal

abbrev pub invariant-loop-bit : goal.invariant-loop-bit
invariant-loop-bit l = l.out ≡ take l.bit-index l.bits
