use Rattle.codestream_reader.proofs.Going.{Gone}
use Rattle.codestream_reader.proofs.packets.read_packets.Given as goal

abbrev pub invariant-loop-id : goal.invariant-loop-id
invariant-loop-id l =
    Gone l.geometry l.steps l.bytes l.from l.stop l.ids l.initial.spans l.id-index l.at l.spans
