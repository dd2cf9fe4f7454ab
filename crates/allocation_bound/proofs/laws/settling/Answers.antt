use Rattle.allocation_bound.proofs.Start.{walk_end}
use Rattle.allocation_bound.proofs.laws.settling.Goals as goal

pub returns : goal.returns
returns c = walk_end
