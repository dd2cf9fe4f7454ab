use Rattle.frame_packets.proofs.Begun.{HaveBegun}
use Rattle.frame_packets.proofs.frame.FramePackets.empty.Given as goal

abbrev pub invariant-loop-index : goal.invariant-loop-index
invariant-loop-index l = HaveBegun l.geometry l.steps l.index l.parts.items
