use Rattle.std.proofs.Common.{◌≡◌, ◌+◌, ◌<◌, List, length, map, ap, arith, subst, sym, ◌∙◌}
use Rattle.packet_order.specs.Order.{ordered_packets}
use Rattle.packet_order.specs.declared.packet.PacketId.{PacketId}
use Rattle.profile_reader.specs.Packets.{packet_with}
use Rattle.frame_packets.specs.Keeps.{KeepsPart, PartKept, nothing}
use Rattle.frame_packets.proofs.Bounds.{one_few}
use Rattle.frame_packets.proofs.Nothing.{nothing_short, nothing_written, part_is_few}
use Rattle.frame_packets.proofs.empty.empty_part.Goals as goal

ids_few : (c : goal.After-len) → 14 + c.len.result < 2147483648
ids_few c =
    let g = c.args.geometry.now in
    let steps = c.args.steps.now in
    let all = one_few g steps nothing c.args.index c.requires.levels (nothing_written g steps)
    (nothing_short g steps) c.requires.index in
    let few = part_is_few g steps c.args.index in
    let count : length c.in_ok-ids.ids.items ≡ length (ordered_packets g c.args.index) =
    ap (λ (xs : List PacketId). length xs) c.in_ok-ids.ensures.value in
    let len : c.len.result ≡ c.in_ok-ids.ids.len = c.len.ensures in
    let is = c.in_ok-ids.ids.ok.0 in
    omega (arith, all, few, count, len, is)

pub overflow_cast-bytes : goal.overflow_cast-bytes
overflow_cast-bytes c = let few = ids_few c in omega (arith, few)

pub overflow_add-bytes : goal.overflow_add-bytes
overflow_add-bytes c = let few = ids_few c in omega (arith, few)

pub returns : goal.returns
returns c =
    let g = c.args.geometry.now in
    let steps = c.args.steps.now in
    let value : c.in_ok-ids.ids.items ≡ ordered_packets g c.args.index =
    c.in_ok-ids.ensures.value in
    subst (λ (part : PartKept). KeepsPart g steps nothing c.args.index part) (sym c.of.ensures)
    (record {
      ids = value;
      packets = c.in_ok-packets.ensures
          ∙ ap (map (packet_with g steps nothing)) (c.as_slice.ensures.value ∙ value);
      bytes =
          let len : c.len.result ≡ c.in_ok-ids.ids.len = c.len.ensures in
          ap (λ n. 14 + n) (len ∙ c.in_ok-ids.ids.ok.0
          ∙ ap (λ (xs : List PacketId). length xs) value)
          ∙ sym (part_is_few g steps c.args.index);
    })
