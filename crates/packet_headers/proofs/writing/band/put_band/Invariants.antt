use Rattle.std.proofs.Common.{◌+◌, ◌*◌, ◌≤◌, List, Bool, [], ◌++◌, map, take}
use Rattle.packet_headers.specs.Words.{blocks_bits}
use Rattle.packet_headers.specs.Written.{written_block, written_trees}
use Rattle.packet_headers.specs.InsideWriting.{MarksStand, TopFirst, InclusionFirst}
use Rattle.packet_headers.proofs.writing.band.put_band.Given as goal

abbrev pub invariant-loop-place : goal.invariant-loop-place
invariant-loop-place g l = record {
  marks : MarksStand (written_trees l.band) (map written_block (take l.place l.band.entries.items))
      l.marks.inclusion l.marks.zero_planes;
  visited_order : TopFirst l.marks.inclusion;
  beyond_order : TopFirst l.marks.zero_planes;
  seen : InclusionFirst l.marks.inclusion l.marks.zero_planes;
  bits : (bits : List Bool) → g.S.BitSink.StandsFor l.initial.out bits
      → g.S.BitSink.StandsFor l.out (bits ++ blocks_bits (written_trees l.band) []
      (map written_block (take l.place l.band.entries.items)));
  few : g.S.BitSink.bit_count l.out ≤ g.S.BitSink.bit_count l.initial.out + 70 * l.place;
}
