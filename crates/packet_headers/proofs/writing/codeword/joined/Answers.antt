use Rattle.std.proofs.Common.{arith}
use Rattle.bit_stuffing.proofs.RegisterLemmas.{number-join, join_below}
use Rattle.packet_headers.proofs.CodewordLemmas.{joined_whole, joined_small}
use Rattle.packet_headers.proofs.writing.codeword.joined.Goals as goal

pub overflow_add-result-2 : goal.overflow_add-result-2
overflow_add-result-2 c =
    rw (joined_whole _ _ _ _ c.requires.room c.requires.first c.requires.last) (let s =
    joined_small _ _ _ _ c.requires.room c.requires.first c.requires.last in omega arith)

pub returns-clause-bits : goal.returns-clause-bits
returns-clause-bits c = rw (joined_whole _ _ _ _ c.requires.room c.requires.first c.requires.last)
    (number-join _ _ _ _ c.requires.last)

pub returns-clause-fits : goal.returns-clause-fits
returns-clause-fits c = rw (joined_whole _ _ _ _ c.requires.room c.requires.first c.requires.last)
    (join_below _ _ _ _ c.requires.first c.requires.last)
