use Rattle.mq_coder.proofs.Grown.{later_long}
use Rattle.mq_coder.proofs.laws.later_codes.Goals as goal

pub returns : goal.returns
returns c = later_long
