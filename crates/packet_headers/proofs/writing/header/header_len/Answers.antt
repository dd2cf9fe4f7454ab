use Rattle.std.proofs.Common.{[]}
use Rattle.packet_headers.specs.Written.{written}
use Rattle.packet_headers.proofs.LengthLemmas.{header_some, counted_few}
use Rattle.packet_headers.proofs.writing.header.header_len.Goals as goal

pub returns-clause-value : goal.returns-clause-value
returns-clause-value c = c.finish.ensures _ (c.put_header.ensures.bits []
    c.new-count.ensures.stands)

pub returns-clause-some : goal.returns-clause-some
returns-clause-some c =
    rw (c.finish.ensures _ (c.put_header.ensures.bits [] c.new-count.ensures.stands))
    (header_some (written c.args.p.now))

pub returns-clause-few : goal.returns-clause-few
returns-clause-few c =
    let s = c.put_header.ensures.bits [] c.new-count.ensures.stands in
    rw (c.finish.ensures _ s) (counted_few _ _ _ _ _ s c.put_header.ensures.few)
