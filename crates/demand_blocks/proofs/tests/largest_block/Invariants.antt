-- The plane keeps its sides, and every index is small.
use Rattle.std.proofs.Common.{◌≡◌}
use Rattle.codeblock_views.specs.Magnitudes.{AreSmall}
use Rattle.demand_blocks.proofs.tests.largest_block.Given as goal

abbrev pub invariant-loop-place : goal.invariant-loop-place
invariant-loop-place l = record {
  width : l.plane.width ≡ 32;
  height : l.plane.height ≡ 32;
  small : AreSmall l.plane.cells.items;
}
