-- What stands between two looks at the heap.
use Rattle.std.proofs.Common.{◌≡◌, ◌+◌, ◌≤◌, length}
use Rattle.std.specs.BinaryHeap.{heap_items, heap_len, heap_capacity}
use Rattle.rd_hulls.specs.declared.step.Step.{Step}
use Rattle.budget_duals.specs.Tree.{budgets_of}
use Rattle.budget_duals.specs.Walking.{so_far, ahead}
use Rattle.budget_duals.specs.Going.{IsGoing}
use Rattle.budget_duals.proofs.walking.walk.Given as goal

abbrev pub invariant-loop-entry : goal.invariant-loop-entry
invariant-loop-entry g l = record {
  blocks : g.O.Offers.blocks l.offers ≡ g.O.Offers.blocks l.fn.offers;
  closed : length l.closed ≡ length l.fn.closed;
  most : g.H.Holdings.most l.held ≡ g.H.Holdings.most l.fn.held;
  node : g.H.Holdings.node_of l.held ≡ g.H.Holdings.node_of l.fn.held;
  held : g.H.Holdings.held_by l.held ≡ g.H.Holdings.held_by l.fn.held;
  knows : (s : Step) → g.H.Holdings.knows l.fn.held s → g.H.Holdings.knows l.held s;
  stays : g.H.Holdings.stays l.fn.held l.held;
  keeps : g.O.Offers.stays l.fn.offers l.offers;
  few : heap_len l.heap ≤ g.O.Offers.blocks l.fn.offers;
  room : g.O.Offers.blocks l.fn.offers ≤ heap_capacity l.heap;
  going : IsGoing (budgets_of l.tree (g.O.Offers.blocks l.fn.offers)
      (g.H.Holdings.node_of l.fn.held) (g.H.Holdings.held_by l.fn.held))
      (g.O.Offers.left l.fn.offers)
      (so_far (g.H.Holdings.chosen l.held) (g.O.Offers.done l.offers) (g.O.Offers.left l.offers)
      l.closed)
      (g.O.Offers.offered l.offers) (heap_items l.heap);
}

abbrev pub decreases-loop-entry : goal.decreases-loop-entry
decreases-loop-entry g l =
    ahead (g.O.Offers.blocks l.fn.offers) (g.O.Offers.left l.offers) l.closed
    (g.O.Offers.unknown l.offers) + heap_len l.heap
