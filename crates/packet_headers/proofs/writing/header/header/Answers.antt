use Rattle.std.proofs.Common.{[], ap, ◌∙◌, subst, arith}
use Rattle.bit_stuffing.specs.Stuffing.{packed, Stuffs}
use Rattle.packet_headers.proofs.FitsLemmas.{header_found, packet_same}
use Rattle.packet_headers.proofs.LengthLemmas.{packed_short}
use Rattle.packet_headers.proofs.writing.header.header.Goals as goal

pub returns-clause-bytes : goal.returns-clause-bytes
returns-clause-bytes c = c.finish.ensures.bytes
    ∙ ap packed (c.put_header.ensures.bits [] c.new-out.ensures)

pub returns-clause-stuffed : goal.returns-clause-stuffed
returns-clause-stuffed c = subst (λ r. Stuffs r c.finish.result.items)
    (c.put_header.ensures.bits [] c.new-out.ensures) c.finish.ensures.stuffed

pub returns-clause-found : goal.returns-clause-found
returns-clause-found c = λ plain rest. header_found c.args.p.now c.finish.result.items rest
    c.requires plain
    (subst (λ r. Stuffs r c.finish.result.items) (c.put_header.ensures.bits [] c.new-out.ensures)
    c.finish.ensures.stuffed)

pub returns-clause-packet : goal.returns-clause-packet
returns-clause-packet c = packet_same c.args.p.now

pub returns-clause-few : goal.returns-clause-few
returns-clause-few c = rw c.finish.ensures.bytes (let s =
    packed_short c.put_header.new.out 3361 c.put_header.ensures.few in omega arith)
