use Rattle.mq_coder.proofs.Sums.{value_is_digits}
use Rattle.mq_coder.proofs.laws.weights.Goals as goal

pub returns : goal.returns
returns c = value_is_digits
