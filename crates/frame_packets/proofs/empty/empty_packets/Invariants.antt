use Rattle.std.proofs.Common.{◌≡◌, map, take}
use Rattle.profile_reader.specs.Packets.{packet_with}
use Rattle.frame_packets.specs.Keeps.{nothing}
use Rattle.frame_packets.proofs.empty.empty_packets.Given as goal

abbrev pub invariant-loop-id : goal.invariant-loop-id
invariant-loop-id l =
    l.packets.items ≡ map (packet_with l.geometry l.steps nothing) (take l.id-index l.ids)
