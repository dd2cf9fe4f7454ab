use Rattle.std.proofs.Common.{◌≡◌, ◌≤◌, ◌*◌, length}
use Rattle.std.specs.List.{flat_map, range_with_len}
use Rattle.packet_order.specs.Order.{packets_of_component}
use Rattle.frame_encoder.proofs.counts.packet_count.Given as goal

-- the packets of the components so far
abbrev pub invariant-loop-component : goal.invariant-loop-component
invariant-loop-component l = record {
  few : l.count ≤ 3927 * l.component;
  made : l.count ≡ length
      (flat_map (packets_of_component l.fn.geometry l.fn.index) (range_with_len 0 l.component));
}
