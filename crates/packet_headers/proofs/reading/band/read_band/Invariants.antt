use Rattle.packet_headers.proofs.ReadBands.{Sofar}
use Rattle.packet_headers.proofs.reading.band.read_band.Given as goal

abbrev pub invariant-loop-place : goal.invariant-loop-place
invariant-loop-place l = Sofar l.shape l.inclusion l.zero_planes l.initial.bits l.bits
    l.entries.items l.place
