use Rattle.std.proofs.Common.{◌≡◌, map, take}
use Rattle.frame_packets.specs.Keeps.{PartKept}
use Rattle.frame_packets.proofs.frame.FramePackets.part_lengths.Given as goal

abbrev pub invariant-loop-part : goal.invariant-loop-part
invariant-loop-part l =
    l.lengths.items ≡ map (λ (part : PartKept). part.bytes) (take l.part-index l.self.parts)
