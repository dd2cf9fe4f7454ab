use Rattle.std.proofs.Common.{◌≡◌, arith, length, ap, sym, ◌∙◌}
use Rattle.std.proofs.lemmas.List.{length-take-le}
use Rattle.mq_coder.specs.Mark.{tail_at}
use Rattle.mq_coder.proofs.MarkLemmas.{marked_length, tail_form}
use Rattle.mq_coder.proofs.flush.ended_len.Goals as goal

pub returns-clause-some : goal.returns-clause-some
returns-clause-some c =
    let f = tail_form c.args.m.now in
    let some = f.some in
    let long : c.tail.result ≡ length (tail_at c.args.m.now) =
    sym (length-take-le c.tail.result c.tail.new.bytes (omega arith))
    ∙ ap length c.tail.ensures.exact in
    omega arith

pub returns-clause-one_more : goal.returns-clause-one_more
returns-clause-one_more c =
    let f = tail_form c.args.m.now in
    let one = f.one_more in
    let long : c.tail.result ≡ length (tail_at c.args.m.now) =
    sym (length-take-le c.tail.result c.tail.new.bytes (omega arith))
    ∙ ap length c.tail.ensures.exact in
    omega arith

pub returns-clause-two_more : goal.returns-clause-two_more
returns-clause-two_more c =
    let f = tail_form c.args.m.now in
    let two = f.two_more in
    let long : c.tail.result ≡ length (tail_at c.args.m.now) =
    sym (length-take-le c.tail.result c.tail.new.bytes (omega arith))
    ∙ ap length c.tail.ensures.exact in
    omega arith

pub returns-clause-code : goal.returns-clause-code
returns-clause-code c = λ buffer symbols h.
    let whole = marked_length c.args.m.now buffer symbols h in
    let long : c.tail.result ≡ length (tail_at c.args.m.now) =
    sym (length-take-le c.tail.result c.tail.new.bytes (omega arith))
    ∙ ap length c.tail.ensures.exact in
    omega arith
