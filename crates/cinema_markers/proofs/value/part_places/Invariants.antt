use Rattle.std.proofs.Common.{◌≡◌, map, length}
use Rattle.std.specs.List.{range_with_len}
use Rattle.cinema_markers.specs.Value.{part_place}
use Rattle.cinema_markers.proofs.value.part_places.Given as goal

-- what is there so far
abbrev pub invariant-loop-i : goal.invariant-loop-i
invariant-loop-i l = record {
  items : l.places.items ≡ map (part_place l.bytes l.tlm) (range_with_len 0 l.i);
  count : length l.places.items ≡ l.i;
}
