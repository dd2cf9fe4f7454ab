use Rattle.std.proofs.Common.{◌-◌, arith}
use Rattle.dz_quantiser.proofs.Quotient.{by_shift, by_division}
use Rattle.dz_quantiser.proofs.quantiser.quotient.Goals as goal

pub returns-then-band-eq0 : goal.returns-then-band-eq0
returns-then-band-eq0 c =
    rw (c.from-gain.ensures, c.if-band-eq0.true)
    (by_shift c.args.size (c.args.band.step.exponent - c.args.band.range) (omega arith))

pub returns-else-band-eq0 : goal.returns-else-band-eq0
returns-else-band-eq0 c =
    rw (c.from-gain.ensures, c.from.ensures, c.from-else-band-eq0.ensures)
    (by_division c.args.size
    (c.args.band.step.exponent - c.args.band.range) c.args.band.step.mantissa (omega arith)
    (omega arith))
