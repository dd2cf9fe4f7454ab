use Rattle.std.proofs.Common.{refl}
use Rattle.bit_stuffing.specs.Bits.{number, useful}
use Rattle.bit_stuffing.proofs.PackLemmas.{keeps_none}
use Rattle.bit_stuffing.proofs.bit_out.BitOut.new.Goals as goal

pub invariant_of-result : goal.invariant_of-result
invariant_of-result c = rw c.new.ensures keeps_none

pub returns : goal.returns
unfolding number useful
returns c = rw c.new.ensures refl
