-- The points before are in their places.
use Rattle.std.proofs.Common.{ℕ, ◌<◌}
use Rattle.rd_hulls.specs.Points.{IsPoint, point_at}
use Rattle.rd_hulls.proofs.point.are_points.Given as goal

abbrev pub invariant-loop-k : goal.invariant-loop-k
invariant-loop-k l = (j : ℕ) → j < l.k → IsPoint j (point_at l.points.items j)
