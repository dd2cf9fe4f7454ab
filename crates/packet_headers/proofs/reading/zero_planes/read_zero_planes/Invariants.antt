use Rattle.packet_headers.proofs.ReadZeroPlanes.{Asked}
use Rattle.packet_headers.proofs.reading.zero_planes.read_zero_planes.Given as goal

abbrev pub invariant-loop-zero_planes : goal.invariant-loop-zero_planes
invariant-loop-zero_planes l = Asked l.initial.tree l.tree l.initial.bits l.bits l.x l.y l.planes
    l.zero_planes
