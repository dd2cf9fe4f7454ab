use Rattle.mq_coder.proofs.Marks.{between}
use Rattle.mq_coder.proofs.laws.register_bounds.Goals as goal

pub returns : goal.returns
returns c = between
