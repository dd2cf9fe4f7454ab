use Rattle.mq_coder.proofs.Widths.{leading_due}
use Rattle.mq_decoder.proofs.renormalise.shifts_due.Goals as goal

pub overflow_sub-result : goal.overflow_sub-result
overflow_sub-result c = (leading_due c.args.a c.requires.some c.requires.sixteen_bits).enough

pub returns-clause-wide : goal.returns-clause-wide
returns-clause-wide c = (leading_due c.args.a c.requires.some c.requires.sixteen_bits).wide

pub returns-clause-narrow : goal.returns-clause-narrow
returns-clause-narrow c = (leading_due c.args.a c.requires.some c.requires.sixteen_bits).narrow
