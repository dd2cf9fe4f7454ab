-- The sum is that of the blocks before.
use Rattle.std.proofs.Common.{◌≡◌}
use Rattle.allocation_bound.specs.Steps.{gains}
use Rattle.allocation_bound.specs.Sums.{upto}
use Rattle.budget_duals.proofs.refused.gained_sum.Given as goal

abbrev pub invariant-loop-block : goal.invariant-loop-block
invariant-loop-block g l = l.sum ≡ upto l.block (λ b. gains (g.O.Offers.done l.offers b))
