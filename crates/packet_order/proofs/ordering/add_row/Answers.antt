use Rattle.std.proofs.Common.{◌≡◌, ◌∙◌, ap, map, arith}
use Rattle.std.specs.List.{range_with_len}
use Rattle.packet_order.specs.Order.{comes_before, packet_at, packets_of_row}
use Rattle.packet_order.specs.Sorting.{insert_all}
use Rattle.packet_order.proofs.SortingLemmas.{row_step}
use Rattle.packet_order.proofs.ordering.add_row.Goals as goal

pub loop-px-preserved : goal.loop-px-preserved
loop-px-preserved c =
    row_step (comes_before c.args.geometry.now) c.args.packets.now.items
    (packet_at c.args.first.component c.args.first.res c.args.first.py) c.loop-px.px c.loop-px.packets.items
    c.deref.result.now c.insert.new.self.items c.place_among-at.result c.loop-px.invariant c.deref.ensures.value
    c.place_among-at.ensures.place c.in_ok-insert.ensures.items

pub returns : goal.returns
unfolding packets_of_row
returns c =
    let whole : c.loop-px.px ≡ c.args.across =
    omega (arith, c.loop-px-test.false, c.loop-px.auto.px-end) in
    c.loop-px.invariant ∙
    ap (λ n. insert_all (comes_before c.args.geometry.now) c.args.packets.now.items
    (map (packet_at c.args.first.component c.args.first.res c.args.first.py) (range_with_len 0 n)))
    (whole ∙ c.requires)
