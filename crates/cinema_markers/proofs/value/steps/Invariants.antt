use Rattle.std.proofs.Common.{◌≡◌, map, length}
use Rattle.std.specs.List.{range_with_len}
use Rattle.cinema_markers.specs.Value.{band_step}
use Rattle.cinema_markers.proofs.value.steps.Given as goal

-- what is there so far
abbrev pub invariant-loop-i : goal.invariant-loop-i
invariant-loop-i l = record {
  items : l.bands.items ≡ map (band_step l.bytes l.qcd) (range_with_len 0 l.i);
  count : length l.bands.items ≡ l.i;
}
