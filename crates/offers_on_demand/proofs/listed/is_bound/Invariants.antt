-- The points before are long enough.
use Rattle.std.proofs.Common.{ℕ, ◌<◌, ◌≤◌}
use Rattle.rd_hulls.specs.Points.{point_at}
use Rattle.offers_on_demand.proofs.listed.is_bound.Given as goal

abbrev pub invariant-loop-later : goal.invariant-loop-later
invariant-loop-later l =
    (j : ℕ) → l.passes < j → j < l.later → l.least ≤ (point_at l.points j).len
