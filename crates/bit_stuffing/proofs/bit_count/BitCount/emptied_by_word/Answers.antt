use Rattle.std.proofs.Common.{arith, subst}
use Rattle.bit_stuffing.specs.Inside.{HasNoFf}
use Rattle.bit_stuffing.proofs.WordLemmas.{counts_word}
use Rattle.bit_stuffing.proofs.bit_count.BitCount.emptied_by_word.Goals as goal

pub returns-clause-counts : goal.returns-clause-counts
returns-clause-counts c = λ bits h. counts_word _ _ _ _ _ _ h (omega arith)
    (subst HasNoFf c.word_at.ensures (c.has_no_ff.ensures.0 c.if-not-has_no_ff.false))
