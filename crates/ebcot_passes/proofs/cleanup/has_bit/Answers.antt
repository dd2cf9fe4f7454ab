use Rattle.ebcot_passes.proofs.Places.{word_bit}
use Rattle.ebcot_passes.proofs.cleanup.has_bit.Goals as goal

pub returns : goal.returns
returns c = λ m negative is few. word_bit c.args.coef c.args.p (m, negative) is c.requires
