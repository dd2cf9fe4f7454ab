use Rattle.std.proofs.Common.{arith}
use Rattle.std.proofs.lemmas.Str.Pattern.{starts_char}
use Rattle.command_words.proofs.limits.has_plus.Goals as goal

pub returns : goal.returns
returns c = starts_char 43 _ _ c.starts_with.ensures.cases (omega arith) (omega arith)
