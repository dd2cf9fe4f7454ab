use Rattle.std.proofs.Common.{arith}
use Rattle.packet_headers.proofs.CodewordLemmas.{one_whole, one_small, one_fits_in, one_bits}
use Rattle.packet_headers.proofs.writing.codeword.Codeword.one_and_zeros.Goals as goal

pub overflow_add-result-2 : goal.overflow_add-result-2
overflow_add-result-2 c = rw (c.from-zeros.ensures, one_whole c.args.zeros c.requires) (let s =
    one_small c.args.zeros c.requires in omega arith)

pub returns-clause-bits : goal.returns-clause-bits
returns-clause-bits c = rw (c.from-zeros.ensures, one_whole c.args.zeros c.requires)
    (one_bits c.args.zeros)

pub returns-clause-fits : goal.returns-clause-fits
returns-clause-fits c = rw (c.from-zeros.ensures, one_whole c.args.zeros c.requires)
    (one_fits_in c.args.zeros)
