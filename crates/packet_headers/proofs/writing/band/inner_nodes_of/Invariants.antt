use Rattle.std.proofs.Common.{◌≡◌, take, length}
use Rattle.packet_headers.proofs.BandLemmas.{LeastSoFar}
use Rattle.packet_headers.proofs.writing.band.inner_nodes_of.Given as goal

abbrev pub invariant-loop-place : goal.invariant-loop-place
invariant-loop-place l = record {
  kept : LeastSoFar l.band.width l.band.planes (take l.place l.band.entries.items) l.middle;
  four : length l.middle ≡ 4;
}
