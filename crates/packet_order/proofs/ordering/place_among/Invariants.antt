use Rattle.packet_order.specs.Order.{comes_before}
use Rattle.packet_order.proofs.SortingLemmas.{IsPassed}
use Rattle.packet_order.proofs.ordering.place_among.Given as goal

abbrev pub invariant-loop-i : goal.invariant-loop-i
invariant-loop-i l = IsPassed (comes_before l.geometry) l.id l.packets l.i
