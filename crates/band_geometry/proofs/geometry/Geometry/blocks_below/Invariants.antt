use Rattle.std.proofs.Common.{◌≡◌, ◌≤◌, ◌*◌}
use Rattle.band_geometry.specs.Counts.{count_below}
use Rattle.band_geometry.proofs.geometry.Geometry.blocks_below.Given as goal

abbrev pub invariant-loop-below : goal.invariant-loop-below
invariant-loop-below l = record {
  count : l.count ≡ count_below l.self l.below;
  few : l.count ≤ 49152 * l.below;
}
