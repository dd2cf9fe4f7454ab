use Rattle.std.proofs.Common.{◌≡◌, ◌<◌, List, length, ap, arith, subst, sym, ◌∙◌}
use Rattle.std.specs.List.{Contains}
use Rattle.std.proofs.lemmas.List.{length-map}
use Rattle.cine_nums.specs.Profile.{parts_of}
use Rattle.band_geometry.specs.TileParts.{part_of_res}
use Rattle.packet_order.specs.Order.{ordered_packets}
use Rattle.packet_order.specs.declared.packet.PacketId.{PacketId}
use Rattle.packet_order.proofs.MemberLemmas.{packets_are_ordered}
use Rattle.packet_headers.specs.declared.packet.Packet.{Packet}
use Rattle.profile_reader.specs.Packets.{packet_with}
use Rattle.frame_packets.specs.Inside.{IsKept}
use Rattle.frame_packets.specs.Keeps.{FrameKept, KeepsPart, PartKept}
use Rattle.frame_packets.proofs.Frames.{packet_read, part_is, part_kept}
use Rattle.frame_packets.proofs.frame.FramePackets.packet.Goals as goal

pub place_of-requires : goal.place_of-requires
place_of-requires c =
    let s = c.args.self.now in
    let kept : IsKept s = subst (λ t. IsKept t) c.self.view_is c.self.invariant in
    let n = c.part_at.result in
    let of_part : n ≡ part_of_res s.geometry.profile s.geometry.levels c.args.id.component
    c.args.id.res = c.part_at.ensures.value
    ∙ ap (λ (t : FrameKept). part_of_res t.geometry.profile t.geometry.levels c.args.id.component
    c.args.id.res) c.self.view_is in
    let below = subst (λ (t : FrameKept). n < parts_of t.geometry.profile) c.self.view_is
    c.part_at.ensures.exists in
    let part = part_kept s kept n c.index-part.result.now c.self.inside.parts.items below
    (ap (λ (t : FrameKept). t.parts) c.self.view_is) c.index-part.ensures in
    subst (λ (xs : List PacketId). Contains xs c.args.id) (sym part.ids)
    (subst (λ m. Contains (ordered_packets s.geometry m) c.args.id) (sym of_part)
    (packets_are_ordered s.geometry (part_of_res s.geometry.profile s.geometry.levels
    c.args.id.component c.args.id.res) c.args.id c.requires))

pub packet-requires : goal.packet-requires
packet-requires c =
    let s = c.args.self.now in
    let kept : IsKept s = subst (λ t. IsKept t) c.self.view_is c.self.invariant in
    let n = c.part_at.result in
    let below = subst (λ (t : FrameKept). n < parts_of t.geometry.profile) c.self.view_is
    c.part_at.ensures.exists in
    let part = part_kept s kept n c.index-part.result.now c.self.inside.parts.items below
    (ap (λ (t : FrameKept). t.parts) c.self.view_is) c.index-part.ensures in
    let ids = ap (λ (xs : List PacketId). length xs) part.ids in
    let packets = ap (λ (xs : List Packet). length xs) part.packets in
    let count = length-map (ordered_packets s.geometry n)
    (packet_with s.geometry s.steps kept.given) in
    let within = c.place_of.ensures.within in
    omega (arith, ids, packets, count, within)

pub returns-clause-packet : goal.returns-clause-packet
returns-clause-packet c g steps given keeps =
    let s = c.args.self.now in
    let kept : IsKept s = subst (λ t. IsKept t) c.self.view_is c.self.invariant in
    let n = c.part_at.result in
    let below = subst (λ (t : FrameKept). n < parts_of t.geometry.profile) c.self.view_is
    c.part_at.ensures.exists in
    let same = part_is s n c.index-part.result.now c.self.inside.parts.items kept below
    (ap (λ (t : FrameKept). t.parts) c.self.view_is) c.index-part.ensures in
    let there = subst (λ h. n < parts_of h.profile) keeps.geometry below in
    c.packet.ensures.packet
    ∙ packet_read g steps given n c.index-part.result.now c.place_of.result c.args.id
    (subst (λ (q : PartKept). KeepsPart g steps given n q) (sym same) (keeps.part n there))
    c.place_of.ensures.within c.place_of.ensures.at
