use Rattle.mq_coder.proofs.MarkLemmas.{marked_code, tail_form}
use Rattle.mq_coder.proofs.flush.ending.Goals as goal

pub returns-clause-some : goal.returns-clause-some
returns-clause-some c =
    rw (c.truncate.ensures.items, c.from_array_in-tail.ensures.items, c.tail-end.ensures.exact)
    (tail_form c.args.m.now).some

pub returns-clause-one_more : goal.returns-clause-one_more
returns-clause-one_more c =
    rw (c.saturating_sub.ensures, c.truncate.ensures.items, c.from_array_in-tail.ensures.items, c.tail-end.ensures.exact) (tail_form c.args.m.now).one_more

pub returns-clause-two_more : goal.returns-clause-two_more
returns-clause-two_more c =
    rw (c.saturating_sub.ensures, c.truncate.ensures.items, c.from_array_in-tail.ensures.items, c.tail-end.ensures.exact) (tail_form c.args.m.now).two_more

pub returns-clause-no_ff : goal.returns-clause-no_ff
returns-clause-no_ff c =
    rw (c.truncate.ensures.items, c.from_array_in-tail.ensures.items, c.tail-end.ensures.exact)
    (tail_form c.args.m.now).no_ff

pub returns-clause-code : goal.returns-clause-code
returns-clause-code c = λ buffer symbols h.
    rw (c.saturating_sub.ensures, c.truncate.ensures.items, c.from_array_in-tail.ensures.items, c.tail-end.ensures.exact)
    (marked_code c.args.m.now buffer symbols h)
