use Rattle.std.proofs.Common.{◌≡◌, ◌+◌}
use Rattle.band_geometry.specs.Counts.{count_below}
use Rattle.band_geometry.proofs.geometry.Geometry.block_in_component.Given as goal

abbrev pub invariant-loop-res : goal.invariant-loop-res
invariant-loop-res l = count_below l.self l.res + l.left ≡ l.n
