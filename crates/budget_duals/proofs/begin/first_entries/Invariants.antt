-- The heap has what the blocks before offer.
use Rattle.std.proofs.Common.{◌≤◌}
use Rattle.std.specs.BinaryHeap.{heap_items, heap_len, heap_capacity, IsHeap}
use Rattle.budget_duals.specs.Entries.{entry_cmp}
use Rattle.budget_duals.specs.Beginning.{IsBegun}
use Rattle.budget_duals.proofs.begin.first_entries.Given as goal

abbrev pub invariant-loop-block : goal.invariant-loop-block
invariant-loop-block g l = record {
  begun : IsBegun (g.O.Offers.blocks l.offers) (g.O.Offers.left l.offers)
      (g.O.Offers.offered l.offers) l.block (heap_items l.heap);
  order : IsHeap entry_cmp (heap_items l.heap);
  few : heap_len l.heap ≤ l.block;
  room : g.O.Offers.blocks l.offers ≤ heap_capacity l.heap;
}
