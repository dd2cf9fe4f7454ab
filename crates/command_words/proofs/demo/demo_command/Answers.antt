use Rattle.std.proofs.lemmas.Result.{IfOk-weaker}
use Rattle.command_words.proofs.DemoCommand.{five_arguments}
use Rattle.command_words.proofs.demo.demo_command.Goals as goal

pub returns : goal.returns
returns c =
    IfOk-weaker c.with_option-3.result _ _ (λ command is. five_arguments _ _ _ _ _ _
    c.new-mode.ensures.app c.in_ok-numbered.ensures c.in_ok-profiled.ensures
    c.in_ok-limited.ensures c.in_ok-portioned.ensures is) c.with_option-3.ensures
