use Rattle.bit_stuffing.proofs.RegisterLemmas.{mask_is}
use Rattle.bit_stuffing.proofs.bit_register.low_bits.Goals as goal

pub returns : goal.returns
returns c = mask_is c.args.held c.args.left c.requires.left
