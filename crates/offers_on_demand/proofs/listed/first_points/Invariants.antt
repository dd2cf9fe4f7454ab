-- The points before are put.
use Rattle.std.proofs.Common.{◌≡◌, take}
use Rattle.offers_on_demand.proofs.listed.first_points.Given as goal

abbrev pub invariant-loop-place : goal.invariant-loop-place
invariant-loop-place l = l.first.items ≡ take l.place l.points
