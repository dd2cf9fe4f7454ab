use Rattle.std.proofs.Common.{◌≡◌, ◌++◌, ◌∙◌, List, take, ap, arith}
use Rattle.std.specs.List.{flat_map}
use Rattle.std.proofs.lemmas.List.{take_all}
use Rattle.packet_order.specs.declared.packet.PacketId.{PacketId}
use Rattle.profile_reader.specs.Packets.{written_body}
use Rattle.frame_encoder.specs.Writing.{packet_of}
use Rattle.frame_encoder.proofs.writing.ChosenPasses.push_body.Goals as goal

pub returns : goal.returns
unfolding written_body
returns c = λ planes is.
    let old = c.args.out.now.items in
    let f = packet_of planes c.args.self.now in
    let packets = c.deref-packet-items.result.now in
    let whole : take c.loop-packet.packet-index packets ≡ packets =
    take_all c.loop-packet.packet-index packets (omega (arith, c.loop-packet-test.false)) in
    c.loop-packet.invariant planes is
    ∙ ap (λ (ids : List PacketId). old ++ flat_map f ids)
    (whole ∙ c.deref-packet-items.ensures.value ∙ c.in_ok-packets.ensures.value)
