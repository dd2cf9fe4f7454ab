use Rattle.std.proofs.Common.{◌≡◌, min, List, Bool, length}
use Rattle.bit_stuffing.specs.Bits.{value}
use Rattle.bit_stuffing.specs.Source.{Took}
use Rattle.packet_headers.proofs.reading.numbers.read_number.Given as goal

abbrev pub invariant-loop : goal.invariant-loop
invariant-loop l = (word : List Bool) × (length word ≡ l.counter) × Took l.initial.bits word l.bits
    × (l.number ≡ min (value word) 4294967295)
