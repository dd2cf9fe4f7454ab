use Rattle.packet_headers.proofs.QuarterLemmas.{quarters_are}
use Rattle.packet_headers.proofs.writing.quarters.quarters_of.Goals as goal

pub returns : goal.returns
returns c = quarters_are c.args.width _ c.requires
