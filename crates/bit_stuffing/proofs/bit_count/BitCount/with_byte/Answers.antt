use Rattle.std.proofs.Common.{sym, ◌∙◌, arith}
use Rattle.bit_stuffing.proofs.RegisterLemmas.{counts_byte, counts_byte_ff}
use Rattle.bit_stuffing.proofs.bit_count.BitCount.with_byte.Goals as goal

pub returns-then-byte_at-clause-counts : goal.returns-then-byte_at-clause-counts
returns-then-byte_at-clause-counts c = λ bits h. counts_byte_ff _ _ _ _ _ _ _ h (omega arith)
    (sym c.byte_at.ensures ∙ c.if-byte_at.true) c.low_bits.ensures

pub returns-clause-counts : goal.returns-clause-counts
returns-clause-counts c = λ bits h. counts_byte _ _ _ _ _ _ h (omega arith)
    (λ e. c.if-byte_at.false (c.byte_at.ensures ∙ e))
