use Rattle.mq_coder.proofs.Inverts.{inverts}
use Rattle.mq_coder.proofs.laws.inversion.Goals as goal

pub returns : goal.returns
returns c = inverts
