use Rattle.std.proofs.Common.{◌+◌, arith}
use Rattle.bit_stuffing.proofs.RegisterLemmas.{number-join, join_below, one_fits}
use Rattle.packet_headers.proofs.CodewordLemmas.{zeros_whole, zeros_small}
use Rattle.packet_headers.proofs.writing.codeword.Codeword.with_zeros_if.Goals as goal

pub overflow_add-result-2 : goal.overflow_add-result-2
overflow_add-result-2 c =
    let s = zeros_small _ _ _ c.requires.fits c.requires.room in
    rw (zeros_whole _ _ _ _ c.requires.fits c.requires.room c.from-more.ensures) (omega arith)

pub returns-clause-bits : goal.returns-clause-bits
returns-clause-bits c =
    rw (
      zeros_whole _ _ _ _ c.requires.fits c.requires.room c.from-more.ensures,
      c.if-not-put.false,
      c.from-more.ensures,
    )
    (number-join c.args.self.width (c.args.zeros + 1) c.args.self.value 1 (one_fits c.args.zeros))

pub returns-clause-fits : goal.returns-clause-fits
returns-clause-fits c =
    rw (
      zeros_whole _ _ _ _ c.requires.fits c.requires.room c.from-more.ensures,
      c.from-more.ensures,
    )
    (join_below c.args.self.value c.args.self.width 1 (c.args.zeros + 1) c.requires.fits
    (one_fits c.args.zeros))
