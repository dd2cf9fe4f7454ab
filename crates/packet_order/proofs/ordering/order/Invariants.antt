use Rattle.std.proofs.Common.{◌≡◌, []}
use Rattle.std.specs.List.{flat_map, range_with_len}
use Rattle.packet_order.specs.Order.{comes_before, packets_of_component}
use Rattle.packet_order.specs.Sorting.{insert_all}
use Rattle.packet_order.proofs.ordering.order.Given as goal

abbrev pub invariant-loop-component : goal.invariant-loop-component
invariant-loop-component l =
    l.packets.items ≡
    insert_all (comes_before l.geometry) []
    (flat_map (packets_of_component l.geometry l.part) (range_with_len 0 l.component))
