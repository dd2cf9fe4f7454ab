use Rattle.std.proofs.Common.{◌≡◌, ◌≤◌, ◌*◌, length}
use Rattle.std.specs.List.{flat_map, range_with_len}
use Rattle.packet_order.specs.Order.{packets_of_res_in}
use Rattle.frame_encoder.proofs.counts.component_packets.Given as goal

-- the packets of the resolutions so far
abbrev pub invariant-loop-res : goal.invariant-loop-res
invariant-loop-res l = record {
  few : l.count ≤ 561 * l.res;
  made : l.count ≡ length
      (flat_map (packets_of_res_in l.fn.geometry l.fn.index l.fn.component)
      (range_with_len 0 l.res));
}
