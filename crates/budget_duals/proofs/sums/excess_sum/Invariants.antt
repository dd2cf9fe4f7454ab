-- The sum is that of the blocks before; what they have done and left stays.
use Rattle.std.proofs.Common.{◌≡◌}
use Rattle.allocation_bound.specs.Steps.{excess}
use Rattle.allocation_bound.specs.Sums.{upto}
use Rattle.budget_duals.specs.Sums.{rate_by}
use Rattle.budget_duals.proofs.sums.excess_sum.Given as goal

abbrev pub invariant-loop-block : goal.invariant-loop-block
invariant-loop-block g l = record {
  blocks : g.O.Offers.blocks l.offers ≡ g.O.Offers.blocks l.fn.offers;
  done : g.O.Offers.done l.offers ≡ g.O.Offers.done l.fn.offers;
  left : g.O.Offers.left l.offers ≡ g.O.Offers.left l.fn.offers;
  keeps : g.O.Offers.stays l.fn.offers l.offers;
  sum : l.sum ≡ upto l.block
      (λ b. excess (rate_by l.tree l.closed (g.H.Holdings.node_of l.held) b)
      (g.O.Offers.left l.fn.offers b));
}
