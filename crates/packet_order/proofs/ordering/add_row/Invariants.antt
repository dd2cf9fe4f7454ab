use Rattle.std.proofs.Common.{◌≡◌, map}
use Rattle.std.specs.List.{range_with_len}
use Rattle.packet_order.specs.Order.{comes_before, packet_at}
use Rattle.packet_order.specs.Sorting.{insert_all}
use Rattle.packet_order.proofs.ordering.add_row.Given as goal

abbrev pub invariant-loop-px : goal.invariant-loop-px
invariant-loop-px l =
    l.packets.items ≡
    insert_all (comes_before l.geometry) l.initial.packets.items
    (map (packet_at l.first.component l.first.res l.first.py) (range_with_len 0 l.px))
