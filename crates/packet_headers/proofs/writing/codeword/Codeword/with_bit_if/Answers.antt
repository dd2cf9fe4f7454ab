use Rattle.std.proofs.Common.{◌+◌, ◌*◌, ap, ◌∙◌}
use Rattle.bit_stuffing.specs.Bits.{number}
use Rattle.bit_stuffing.proofs.BitLemmas.{bit_of, number-push}
use Rattle.packet_headers.proofs.writing.codeword.Codeword.with_bit_if.Goals as goal

pub returns-clause-bits : goal.returns-clause-bits
returns-clause-bits c = rw c.if-not-put.false (
    ap (λ k. number (c.args.self.width + 1) (c.args.self.value * 2 + k)) (bit_of _ _ c.from.ensures)
    ∙ number-push c.args.self.width c.args.self.value c.args.bit)
