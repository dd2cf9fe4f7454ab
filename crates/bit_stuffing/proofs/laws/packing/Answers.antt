use Rattle.bit_stuffing.proofs.StuffsLemmas.{stuffs_packed}
use Rattle.bit_stuffing.proofs.laws.packing.Goals as goal

pub returns : goal.returns
returns c = stuffs_packed
