use Rattle.std.proofs.Common.{◌≡◌, ◌+◌, ◌∙◌, ap, arith}
use Rattle.std.specs.List.{flat_map, range_with_len}
use Rattle.packet_order.specs.Order.{comes_before, packets_of_res_in, packets_of_component}
use Rattle.packet_order.specs.Sorting.{insert_all}
use Rattle.packet_order.proofs.SortingLemmas.{piece_step}
use Rattle.packet_order.proofs.ordering.add_component.Goals as goal

pub loop-res-preserved : goal.loop-res-preserved
loop-res-preserved c =
    piece_step (comes_before c.args.geometry.now) c.args.packets.now.items
    (packets_of_res_in c.args.geometry.now c.args.part c.args.component) c.loop-res.res c.loop-res.packets.items
    c.add_res_of_part.new.packets.items c.loop-res.invariant c.in_ok-add_res_of_part.ensures

pub returns : goal.returns
unfolding packets_of_component
returns c =
    let whole : c.loop-res.res ≡ c.args.geometry.now.levels + 1 =
    omega (arith, c.loop-res-test.false, c.loop-res.auto.res-end) in
    c.loop-res.invariant ∙
    ap (λ n. insert_all (comes_before c.args.geometry.now) c.args.packets.now.items
    (flat_map (packets_of_res_in c.args.geometry.now c.args.part c.args.component)
    (range_with_len 0 n))) whole
