use Rattle.codestream_reader.proofs.Placing.{Placed}
use Rattle.codestream_reader.proofs.place.place_blocks.Given as goal

abbrev pub invariant-loop-i : goal.invariant-loop-i
invariant-loop-i l = Placed l.numbers l.entries l.from l.initial.spans l.i l.at l.spans
