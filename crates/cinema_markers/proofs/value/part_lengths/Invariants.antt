use Rattle.std.proofs.Common.{◌≡◌, map, length}
use Rattle.std.specs.List.{range_with_len}
use Rattle.cinema_markers.specs.Value.{part_length}
use Rattle.cinema_markers.proofs.value.part_lengths.Given as goal

-- what is there so far
abbrev pub invariant-loop-i : goal.invariant-loop-i
invariant-loop-i l = record {
  items : l.lengths.items ≡ map (part_length l.bytes l.tlm) (range_with_len 0 l.i);
  count : length l.lengths.items ≡ l.i;
}
