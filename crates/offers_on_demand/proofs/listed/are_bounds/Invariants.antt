-- The numbers before are bounds.
use Rattle.std.proofs.Common.{ℕ, ◌<◌}
use Rattle.offers_on_demand.specs.Listed.{IsBound, bound_at}
use Rattle.offers_on_demand.proofs.listed.are_bounds.Given as goal

abbrev pub invariant-loop-passes : goal.invariant-loop-passes
invariant-loop-passes l = (k : ℕ) → k < l.passes → IsBound l.points k (bound_at l.least k)
