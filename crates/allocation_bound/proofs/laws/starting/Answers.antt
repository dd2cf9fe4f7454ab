use Rattle.allocation_bound.proofs.Start.{walk_start, steepest}
use Rattle.allocation_bound.proofs.laws.starting.Goals as goal

pub returns : goal.returns
returns c = λ w steps o start. (steepest, walk_start w steps o start)
