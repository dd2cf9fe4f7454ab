use Rattle.std.proofs.Common.{◌≡◌}
use Rattle.std.specs.List.{flat_map, range_with_len}
use Rattle.packet_order.specs.Order.{comes_before, packets_of_res_in}
use Rattle.packet_order.specs.Sorting.{insert_all}
use Rattle.packet_order.proofs.ordering.add_component.Given as goal

abbrev pub invariant-loop-res : goal.invariant-loop-res
invariant-loop-res l =
    l.packets.items ≡
    insert_all (comes_before l.geometry) l.initial.packets.items
    (flat_map (packets_of_res_in l.geometry l.part l.component) (range_with_len 0 l.res))
