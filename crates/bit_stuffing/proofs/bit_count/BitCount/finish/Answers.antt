use Rattle.bit_stuffing.proofs.RegisterLemmas.{counts_begun, counts_whole}
use Rattle.bit_stuffing.proofs.bit_count.BitCount.finish.Goals as goal

pub returns-then-count-gt0 : goal.returns-then-count-gt0
returns-then-count-gt0 c = λ bits h. counts_begun _ _ _ _ _ (c.emptied-count.ensures.counts bits h)
    c.emptied-count.ensures.begun c.if-count-gt0.true

pub returns : goal.returns
returns c = λ bits h. counts_whole _ _ _ _ _ (c.emptied-count.ensures.counts bits h)
    c.if-count-gt0.false
