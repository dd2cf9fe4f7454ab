use Rattle.std.proofs.Common.{refl}
use Rattle.mq_coder.specs.States.{start_contexts}
use Rattle.mq_coder.proofs.contexts.Contexts.new.Goals as goal

pub returns : goal.returns
unfolding start_contexts
returns c = rw (c.numbered-contexts.ensures, c.numbered.ensures, c.numbered-2.ensures, c.numbered-3.ensures) refl
