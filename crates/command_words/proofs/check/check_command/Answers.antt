use Rattle.std.proofs.lemmas.Result.{IfOk-weaker}
use Rattle.command_words.proofs.Command.{one_argument}
use Rattle.command_words.proofs.check.check_command.Goals as goal

pub returns : goal.returns
returns c =
    IfOk-weaker c.with_positional.result _ _ (λ command is. one_argument _ _
    c.new-mode.ensures.app is) c.with_positional.ensures
