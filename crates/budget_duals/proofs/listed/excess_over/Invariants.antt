-- The sum is the excess of the steps before.
use Rattle.std.proofs.Common.{◌≡◌, take}
use Rattle.allocation_bound.specs.Steps.{excess as excess_of}
use Rattle.budget_duals.proofs.listed.excess_over.Given as goal

abbrev pub invariant-loop-step : goal.invariant-loop-step
invariant-loop-step l = l.sum ≡ excess_of l.multiplier (take l.step-index l.steps)
