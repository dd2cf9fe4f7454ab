use Rattle.std.proofs.Common.{rules}
use Rattle.mq_coder.specs.Code.{coded, start_coding}
use Rattle.mq_coder.proofs.encoder.Encoder.new.Goals as goal

pub returns-clause-stands : goal.returns-clause-stands
unfolding coded start_coding
returns-clause-stands c = search rules
