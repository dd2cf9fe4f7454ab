use Rattle.mq_coder.proofs.Marks.{code_form}
use Rattle.mq_coder.proofs.laws.code_form.Goals as goal

pub returns : goal.returns
returns c = code_form
