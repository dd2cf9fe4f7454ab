use Rattle.codestream_reader.proofs.PartsGoing.{Gone}
use Rattle.codestream_reader.proofs.parts.read_tile_parts.Given as goal

abbrev pub invariant-loop-index : goal.invariant-loop-index
invariant-loop-index l =
    Gone l.geometry l.read.main.steps l.bytes l.read.bytes l.read.main.parts.items
    l.read.parts_at.items l.initial.spans l.index l.at l.spans
