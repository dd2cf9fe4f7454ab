use Rattle.std.proofs.Common.{refl}
use Rattle.bit_stuffing.specs.Bits.{number}
use Rattle.packet_headers.proofs.writing.codeword.Codeword.none.Goals as goal

pub returns-clause-bits : goal.returns-clause-bits
unfolding number
returns-clause-bits c = refl
