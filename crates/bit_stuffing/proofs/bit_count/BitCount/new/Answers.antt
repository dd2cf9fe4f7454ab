use Rattle.bit_stuffing.proofs.RegisterLemmas.{counts_none}
use Rattle.bit_stuffing.proofs.bit_count.BitCount.new.Goals as goal

pub returns-clause-stands : goal.returns-clause-stands
returns-clause-stands c = counts_none
