-- The entries of a heap over what blocks offer.
use Rattle.std.specs.Prelude.{ℕ, ◌≡◌, ◌<◌, ◌≤◌, ◌==◌, ◌⊎◌, if◌then◌else◌, List, [], ◌∷◌, None}
use Rattle.std.specs.List.{AllByRecursion, sum_by}
use Rattle.std.specs.List.Sorted.{IsPermutation}
use Rattle.allocation_bound.specs.Settled.{Budgets, Outcome, nearest}
use Rattle.budget_duals.specs.declared.entry.Entry.{Entry}
use Rattle.budget_duals.specs.declared.offer.Offer.{Offer}
use Rattle.budget_duals.specs.declared.offer.Offer.TheVariants.{Nothing, Step, AtMost}

-- 1 for an entry of block b, and 0 for others
abbrev pub is_at : ℕ → Entry → ℕ
is_at b e = if e.block == b then 1 else 0

-- how many entries are of block b
abbrev pub count_at : ℕ → List Entry → ℕ
count_at b items = sum_by (is_at b) items

-- a block offers something
abbrev pub IsSomething : Offer → Type 0
IsSomething Nothing = ⊥
IsSomething (Step s) = Unit {0}
IsSomething (AtMost bound) = Unit {0}

-- an entry is what its block offers
pub record IsEntry (blocks : ℕ) (offered : ℕ → Offer) (e : Entry) : Type 0 where
  pub inside : e.block < blocks
  pub offer : e.offer ≡ offered e.block
  pub something : IsSomething e.offer

-- Each entry is what its block offers, and no block has two.
pub record IsQueue (blocks : ℕ) (offered : ℕ → Offer) (items : List Entry) : Type 0 where
  pub each : AllByRecursion (IsEntry blocks offered) items
  pub once : (b : ℕ) → count_at b items ≤ 1

-- each open block that has a step left has an entry
abbrev pub Covers : Budgets → Outcome → List Entry → Type 0
Covers w o items = (b : ℕ) → b < w.blocks → nearest w o b ≡ None
    → (o.left b ≡ []) ⊎ (1 ≤ count_at b items)

-- an entry of a block is put to the others, where the block offers something
abbrev pub put_entry : ℕ → Offer → List Entry → List Entry
put_entry b Nothing old = old
put_entry b (Step s) old = record { block = b; offer = Step s } ∷ old
put_entry b (AtMost bound) old = record { block = b; offer = AtMost bound } ∷ old

abbrev pub Refilled : ℕ → Offer → List Entry → List Entry → Type 0
Refilled b offer old new = IsPermutation (put_entry b offer old) new
