use Rattle.std.proofs.Common.{◌≡◌, List, ◌<◌, ap, subst, sym, ◌∙◌}
use Rattle.std.specs.List.{Contains}
use Rattle.cine_nums.specs.Profile.{parts_of}
use Rattle.band_geometry.specs.TileParts.{part_of_res}
use Rattle.packet_order.specs.Blocks.{packet_of_block}
use Rattle.packet_order.specs.Order.{ordered_packets}
use Rattle.packet_order.specs.declared.packet.PacketId.{PacketId}
use Rattle.packet_order.proofs.BlockLemmas.{has_packet}
use Rattle.packet_order.proofs.MemberLemmas.{packets_are_ordered}
use Rattle.frame_packets.specs.Inside.{IsKept}
use Rattle.frame_packets.specs.Keeps.{FrameKept}
use Rattle.frame_packets.proofs.Frames.{part_is}
use Rattle.frame_packets.proofs.frame.FramePackets.spot.Goals as goal

kept : (c : goal.After-packet_of) → IsKept c.args.self.now
kept c = subst (λ s. IsKept s) c.self.view_is c.self.invariant

of_part : (c : goal.After-packet_of) → c.part_of-part.result
    ≡ part_of_res c.args.self.now.geometry.profile c.args.self.now.geometry.levels
    c.args.id.component
    c.args.id.res
of_part c = c.part_of-part.ensures.value
    ∙ ap (λ (s : FrameKept). part_of_res s.geometry.profile s.geometry.levels c.args.id.component
    c.args.id.res) c.self.view_is

ids : (c : goal.After-packet_of) → c.index.result.now.ids
    ≡ ordered_packets c.args.self.now.geometry c.part_of-part.result
ids c =
    let s = c.args.self.now in
    let below = subst (λ (t : FrameKept). c.part_of-part.result < parts_of t.geometry.profile)
    c.self.view_is c.part_of-part.ensures.exists in
    let same = part_is s c.part_of-part.result c.index.result.now c.self.inside.parts.items (kept c)
    below (ap (λ (t : FrameKept). t.parts) c.self.view_is) c.index.ensures in
    ap (λ part. part.ids) same ∙ ((kept c).keeps.part c.part_of-part.result below).ids

pub place_of-requires : goal.place_of-requires
place_of-requires c =
    let g = c.args.self.now.geometry in
    let p = packet_of_block c.args.id in
    let there : Contains (ordered_packets g c.part_of-part.result) p =
    subst (λ n. Contains (ordered_packets g n) p) (sym (of_part c))
    (packets_are_ordered g (part_of_res g.profile g.levels c.args.id.component c.args.id.res) p
    (has_packet g c.args.id c.requires)) in
    subst (λ (xs : List PacketId). Contains xs c.packet_of.result) (sym (ids c))
    (subst (λ q. Contains (ordered_packets g c.part_of-part.result) q) (sym c.packet_of.ensures)
    there)
