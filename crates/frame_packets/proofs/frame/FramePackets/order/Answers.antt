use Rattle.std.proofs.Common.{◌≡◌, List, ap, subst, sym, ◌∙◌}
use Rattle.std.specs.List.{All}
use Rattle.packet_order.specs.Order.{IsPacketOf, ordered_packets}
use Rattle.packet_order.specs.declared.packet.PacketId.{PacketId}
use Rattle.packet_order.proofs.MemberLemmas.{ordered_are_packets}
use Rattle.frame_packets.specs.Inside.{IsKept}
use Rattle.frame_packets.specs.Keeps.{FrameKept}
use Rattle.frame_packets.proofs.Frames.{part_kept}
use Rattle.frame_packets.proofs.frame.FramePackets.order.Goals as goal
use Rattle.frame_packets.proofs.frame.FramePackets.order.Goals.{After-ids}

value : (c : After-ids) → c.ids.result.now ≡ ordered_packets c.args.self.now.geometry c.args.index
value c =
    let s = c.args.self.now in
    let kept : IsKept s = subst (λ t. IsKept t) c.self.view_is c.self.invariant in
    let part = part_kept s kept c.args.index c.index-part.result.now c.self.inside.parts.items
    c.requires (ap (λ (t : FrameKept). t.parts) c.self.view_is) c.index-part.ensures in
    c.ids.ensures ∙ part.ids

pub returns-clause-value : goal.returns-clause-value
returns-clause-value c = value c

pub returns-clause-each : goal.returns-clause-each
returns-clause-each c =
    subst (λ (xs : List PacketId). All (IsPacketOf c.args.self.now.geometry c.args.index) xs)
    (sym (value c)) (ordered_are_packets c.args.self.now.geometry c.args.index)
