use Rattle.std.proofs.Common.{◌≡◌, ◌∙◌, length, ap, arith}
use Rattle.std.specs.List.{flat_map, range_with_len}
use Rattle.packet_order.specs.Order.{packets_of_component, packets_of_part}
use Rattle.frame_encoder.proofs.Lengths.{part_count}
use Rattle.frame_encoder.proofs.counts.packet_count.Goals as goal

pub returns-clause-count : goal.returns-clause-count
unfolding packets_of_part
returns-clause-count c =
    let end : c.loop-component.component ≡ 3 = omega (arith, c.loop-component-test.false) in
    c.loop-component.invariant.made ∙ ap (λ n. length (flat_map
    (packets_of_component c.args.geometry.now c.args.index) (range_with_len 0 n))) end
    ∙ part_count c.args.geometry.now c.args.index
