use Rattle.std.proofs.Common.{arith}
use Rattle.command_words.proofs.Modes.{first_is}
use Rattle.command_words.proofs.taken.is_mode.Goals as goal

pub returns-in-len1-up : goal.returns-in-len1-up
returns-in-len1-up c =
    first_is c.args.words.now c.first-item.result c.as_str.result.now c.args.mode.now c.eq.result
    (omega (arith, c.in-len1-up.len_at_least)) c.first-item.is c.as_str.ensures.value c.eq.ensures
