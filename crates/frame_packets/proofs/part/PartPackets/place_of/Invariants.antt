use Rattle.std.proofs.Common.{◌≡◌, ℕ, ◌<◌, get_or}
use Rattle.packet_order.specs.declared.packet.PacketId.{PacketId}
use Rattle.frame_packets.proofs.part.PartPackets.place_of.Given as goal

abbrev pub invariant-loop-at : goal.invariant-loop-at
invariant-loop-at l =
    (k : ℕ) (d : PacketId) → k < l.at → get_or l.self.ids k d ≡ l.id → ⊥
