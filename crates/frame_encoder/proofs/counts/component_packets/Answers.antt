use Rattle.std.proofs.Common.{◌≡◌, ◌+◌, ◌∙◌, length, ap, arith}
use Rattle.std.specs.List.{flat_map, range_with_len}
use Rattle.packet_order.specs.Order.{packets_of_component, packets_of_res_in}
use Rattle.frame_encoder.proofs.Lengths.{length_more}
use Rattle.frame_encoder.proofs.counts.component_packets.Goals as goal

pub loop-res-preserved : goal.loop-res-preserved
loop-res-preserved c =
    let made = c.loop-res.invariant.made in
    let piece = c.res_packets-count.ensures.count in
    let few = c.res_packets-count.ensures.few in
    let more = length_more
    (packets_of_res_in c.args.geometry.now c.args.index c.args.component) c.loop-res.res in
    record {
      few = omega (arith, c.loop-res.invariant.few, few);
      made = omega (arith, made, piece, more);
    }

pub returns-clause-count : goal.returns-clause-count
unfolding packets_of_component
returns-clause-count c =
    let end : c.loop-res.res ≡ c.args.geometry.now.levels
    + 1 = omega (arith, c.loop-res-test.false) in
    c.loop-res.invariant.made ∙ ap (λ n. length (flat_map
    (packets_of_res_in c.args.geometry.now c.args.index c.args.component)
    (range_with_len 0 n))) end
