use Rattle.packet_headers.proofs.BandLemmas.{marks_first, order_first}
use Rattle.packet_headers.proofs.writing.band.fresh_marks.Goals as goal

pub returns-clause-stand : goal.returns-clause-stand
returns-clause-stand c = marks_first c.args.band.now c.max-side.result c.max-side.ensures

pub returns-clause-inclusion : goal.returns-clause-inclusion
returns-clause-inclusion c = order_first c.max-side.result

pub returns-clause-zero_planes : goal.returns-clause-zero_planes
returns-clause-zero_planes c = order_first c.max-side.result

pub returns-clause-seen : goal.returns-clause-seen
returns-clause-seen c = λ q h m. m
