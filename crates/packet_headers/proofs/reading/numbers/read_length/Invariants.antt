use Rattle.std.proofs.Common.{◌≡◌, ℕ, ◌+◌, true, length}
use Rattle.std.specs.Prelude.{replicate}
use Rattle.bit_stuffing.specs.Source.{Took}
use Rattle.packet_headers.proofs.reading.numbers.read_length.Given as goal

abbrev pub invariant-loop-width : goal.invariant-loop-width
invariant-loop-width l = (raise : ℕ) × Took l.initial.bits (replicate raise true) l.bits
    × (l.width ≡ l.initial.width + raise)

abbrev pub decreases-loop-width : goal.decreases-loop-width
decreases-loop-width l = length l.bits.ahead
