-- The heap when the blocks below k have been looked at.
use Rattle.std.specs.Prelude.{ℕ, ◌≡◌, ◌<◌, ◌≤◌, ◌⊎◌, List, []}
use Rattle.std.specs.List.{AllByRecursion}
use Rattle.rd_hulls.specs.declared.step.Step.{Step}
use Rattle.budget_duals.specs.declared.entry.Entry.{Entry}
use Rattle.budget_duals.specs.declared.offer.Offer.{Offer}
use Rattle.budget_duals.specs.Queue.{IsQueue, count_at}

pub record IsBegun (blocks : ℕ) (left : ℕ → List Step) (offered : ℕ → Offer) (k : ℕ)
    (items : List Entry) : Type 0 where
  pub queue : IsQueue blocks offered items
  pub covers : (b : ℕ) → b < k → (left b ≡ []) ⊎ (1 ≤ count_at b items)
  pub below : AllByRecursion (λ (e : Entry). e.block < k) items
