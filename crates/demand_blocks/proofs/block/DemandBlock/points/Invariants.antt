-- The points before, one for each number of passes.
use Rattle.std.proofs.Common.{◌≡◌, length, map}
use Rattle.std.specs.List.{range_with_len}
use Rattle.demand_blocks.specs.Points.{point_of}
use Rattle.demand_blocks.specs.Views.{coefs_in, shape_in}
use Rattle.demand_blocks.proofs.block.DemandBlock.points.Given as goal

abbrev pub invariant-loop-k : goal.invariant-loop-k
invariant-loop-k l = record {
  count : length l.points.items ≡ l.k;
  made : l.points.items ≡ map (point_of (coefs_in l.self.view)
      (shape_in l.self.view l.self.orient l.self.planes)) (range_with_len 0 l.k);
}
