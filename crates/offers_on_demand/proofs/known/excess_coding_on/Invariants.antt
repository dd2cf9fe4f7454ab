-- More passes of the block are coded, and nothing else changes.
use Rattle.std.proofs.Common.{ℕ, ◌≡◌, ◌≢◌, ◌-◌, ◌≤◌, length}
use Rattle.offers_on_demand.proofs.known.excess_coding_on.Given as goal

abbrev pub invariant-loop-sum : goal.invariant-loop-sum
invariant-loop-sum g l = record {
  blocks : g.P.Passes.blocks l.passes ≡ g.P.Passes.blocks l.fn.passes;
  all : g.P.Passes.all l.passes ≡ g.P.Passes.all l.fn.passes;
  grows : length (g.P.Passes.known l.fn.passes l.block)
      ≤ length (g.P.Passes.known l.passes l.block);
  others : (k : ℕ) → k ≢ l.block → g.P.Passes.known l.passes k
      ≡ g.P.Passes.known l.fn.passes k;
  whole_others : (k : ℕ) → k ≢ l.block → g.P.Passes.whole l.passes k
      ≡ g.P.Passes.whole l.fn.passes k;
  stays : g.P.Passes.stays l.fn.passes l.passes;
}

abbrev pub decreases-loop-sum : goal.decreases-loop-sum
decreases-loop-sum g l =
    length (g.P.Passes.all l.passes l.block) - length (g.P.Passes.known l.passes l.block)
