use Rattle.std.proofs.Common.{◌≡◌}
use Rattle.std.specs.List.{flat_map, range_with_len}
use Rattle.packet_order.specs.Order.{comes_before, packets_of_row}
use Rattle.packet_order.specs.Sorting.{insert_all}
use Rattle.packet_order.proofs.ordering.add_res.Given as goal

abbrev pub invariant-loop-py : goal.invariant-loop-py
invariant-loop-py l =
    l.packets.items ≡
    insert_all (comes_before l.geometry) l.initial.packets.items
    (flat_map (packets_of_row l.geometry l.component l.res) (range_with_len 0 l.py))
