use Rattle.mq_coder.proofs.Grown.{few_bytes}
use Rattle.mq_coder.proofs.laws.few_bytes.Goals as goal

pub returns : goal.returns
returns c = few_bytes
