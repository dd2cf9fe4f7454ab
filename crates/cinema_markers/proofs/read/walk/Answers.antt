use Rattle.cinema_markers.proofs.EndLemmas.{readable_read}
use Rattle.cinema_markers.proofs.read.walk.Goals as goal

pub returns-clause-readable : goal.returns-clause-readable
returns-clause-readable c = readable_read c.args.bytes.now c.go_over.result c.go_over.ensures.cases
