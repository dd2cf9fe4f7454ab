-- The sum is that of the steps before.
use Rattle.std.proofs.Common.{◌≡◌, take}
use Rattle.allocation_bound.specs.Steps.{gains}
use Rattle.budget_duals.proofs.listed.gains_of.Given as goal

abbrev pub invariant-loop-step : goal.invariant-loop-step
invariant-loop-step l = l.sum ≡ gains (take l.step-index l.steps)
