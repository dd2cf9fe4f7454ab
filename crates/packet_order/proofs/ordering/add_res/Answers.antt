use Rattle.std.proofs.Common.{◌≡◌, ◌∙◌, ap, arith}
use Rattle.std.specs.List.{flat_map, range_with_len}
use Rattle.packet_order.specs.Order.{comes_before, packets_of_row, packets_of_res}
use Rattle.packet_order.specs.Sorting.{insert_all}
use Rattle.packet_order.proofs.SortingLemmas.{piece_step}
use Rattle.packet_order.proofs.ordering.add_res.Goals as goal

pub loop-py-preserved : goal.loop-py-preserved
loop-py-preserved c =
    piece_step (comes_before c.args.geometry.now) c.args.packets.now.items
    (packets_of_row c.args.geometry.now c.args.component c.args.res) c.loop-py.py c.loop-py.packets.items
    c.add_row.new.packets.items c.loop-py.invariant c.in_ok-add_row.ensures

pub returns : goal.returns
unfolding packets_of_res
returns c =
    let whole : c.loop-py.py ≡ c.precincts-across.result.1 =
    omega (arith, c.loop-py-test.false, c.loop-py.auto.py-end) in
    c.loop-py.invariant ∙
    ap (λ n. insert_all (comes_before c.args.geometry.now) c.args.packets.now.items
    (flat_map (packets_of_row c.args.geometry.now c.args.component c.args.res)
    (range_with_len 0 n)))
    (whole ∙ c.precincts-across.ensures.down)
