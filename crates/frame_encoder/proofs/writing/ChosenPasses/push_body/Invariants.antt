use Rattle.std.proofs.Common.{◌≡◌, ◌++◌, take}
use Rattle.std.specs.List.{flat_map}
use Rattle.profile_reader.specs.Chosen.{Planes}
use Rattle.frame_encoder.specs.Writing.{IsFrameOf, packet_of}
use Rattle.frame_encoder.proofs.writing.ChosenPasses.push_body.Given as goal

-- the packets so far
abbrev pub invariant-loop-packet : goal.invariant-loop-packet
invariant-loop-packet l = (planes : Planes) → IsFrameOf planes l.self → l.out.items
    ≡ l.fn.out.items ++ flat_map (packet_of planes l.self) (take l.packet-index l.packet-items)
