-- What stands between two looks at the heap.
use Rattle.std.specs.Prelude.{ℕ, List}
use Rattle.std.specs.BinaryHeap.{IsHeap}
use Rattle.rd_hulls.specs.declared.step.Step.{Step}
use Rattle.allocation_bound.specs.Settled.{Budgets, Outcome}
use Rattle.budget_duals.specs.declared.entry.Entry.{Entry}
use Rattle.budget_duals.specs.declared.offer.Offer.{Offer}
use Rattle.budget_duals.specs.Entries.{entry_cmp}
use Rattle.budget_duals.specs.Queue.{IsQueue, Covers}
use Rattle.budget_duals.specs.Walking.{Walks}

-- The walk stands, and the heap has what each open block offers that has a step left.
pub record IsGoing (w : Budgets) (steps : ℕ → List Step) (o : Outcome) (offered : ℕ → Offer)
    (items : List Entry) : Type 0 where
  pub walks : Walks w steps o
  pub queue : IsQueue w.blocks offered items
  pub covers : Covers w o items
  pub order : IsHeap entry_cmp items
