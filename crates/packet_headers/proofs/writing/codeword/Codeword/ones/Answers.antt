use Rattle.std.proofs.Common.{arith}
use Rattle.std.proofs.Math.Nat.{one-le-pow}
use Rattle.packet_headers.proofs.CodewordLemmas.{number-ones, ones_whole}
use Rattle.packet_headers.proofs.writing.codeword.Codeword.ones.Goals as goal

pub overflow_sub-result : goal.overflow_sub-result
overflow_sub-result c = rw (ones_whole c.args.width c.requires)
    (one-le-pow c.args.width 2 (omega arith))

pub returns-clause-bits : goal.returns-clause-bits
returns-clause-bits c = rw (ones_whole c.args.width c.requires) (number-ones c.args.width)

pub returns-clause-fits : goal.returns-clause-fits
returns-clause-fits c = rw (ones_whole c.args.width c.requires) (let p =
    one-le-pow c.args.width 2 (omega arith) in omega arith)
