use Rattle.std.proofs.Common.{◌≡◌, ◌∙◌, ap, sym, subst, arith, true, []}
use Rattle.std.specs.List.{flat_map, range_with_len, All, AllPairs, Contains}
use Rattle.std.specs.List.Sorted.{IsPermutation}
use Rattle.packet_order.specs.Order.{comes_before, IsPacketOf, packets_of_component}
use Rattle.packet_order.specs.Order.{packets_of_part, ordered_packets}
use Rattle.packet_order.specs.Sorting.{insert_all}
use Rattle.packet_order.specs.declared.packet.PacketId.{PacketId}
use Rattle.packet_order.proofs.MemberLemmas.{ordered_are_packets, packets_are_ordered}
use Rattle.packet_order.proofs.SortedLemmas.{packets_permuted}
use Rattle.packet_order.proofs.SortingLemmas.{piece_step}
use Rattle.packet_order.proofs.StrictLemmas.{packets_strict}
use Rattle.packet_order.proofs.ordering.order.Goals as goal

pub loop-component-preserved : goal.loop-component-preserved
loop-component-preserved c =
    piece_step (comes_before c.args.geometry.now) []
    (packets_of_component c.args.geometry.now c.args.part)
    c.loop-component.component c.loop-component.packets.items c.add_component.new.packets.items
    c.loop-component.invariant c.in_ok-add_component.ensures

pub returns : goal.returns
unfolding ordered_packets packets_of_part
returns c =
    let g = c.args.geometry.now in
    let whole : c.loop-component.component ≡ 3 =
    omega (arith, c.loop-component-test.false, c.loop-component.auto.component-end) in
    let value : c.loop-component.packets.items ≡ ordered_packets g c.args.part =
    c.loop-component.invariant ∙
    ap (λ n. insert_all (comes_before g) []
    (flat_map (packets_of_component g c.args.part) (range_with_len 0 n))) whole in
    record {
      value = value;
      each = subst (λ xs. All (IsPacketOf g c.args.part) xs) (sym value)
          (ordered_are_packets g c.args.part);
      whole = subst (λ xs. (p : PacketId) → IsPacketOf g c.args.part p → Contains xs p) (sym value)
          (packets_are_ordered g c.args.part);
      members = subst (λ xs. IsPermutation (packets_of_part g c.args.part) xs) (sym value)
          (packets_permuted g c.args.part);
      sorted = subst (λ xs. AllPairs (λ a b. comes_before g a b ≡ true) xs) (sym value)
          (packets_strict g c.args.part);
    }
