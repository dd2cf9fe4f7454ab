-- The state in which a walk over the steps of many blocks ends, beside nested budgets. Nothing in
-- it speaks of order, time or search.
use Rattle.std.specs.Prelude.{ℕ, ◌≡◌, ◌+◌, ◌<◌, ◌≤◌, List, [], ◌++◌, length, Option, Some, None}
use Rattle.std.specs.Prelude.{get_or, set}
use Rattle.std.specs.List.{AllByRecursion}
use Rattle.rd_hulls.specs.declared.step.Step.{Step}
use Rattle.rd_hulls.specs.Hull.{end_of}
use Rattle.allocation_bound.specs.Steps.{IsAsSteep, IsHead}
use Rattle.allocation_bound.specs.Budgets.{IsNested, IsOn, Closed, chain, first, multiplier, rate}

-- Budgets around blocks: how many of both, the budgets around each, the innermost budget of each
-- block, the limits, and the bytes held, headers included, where the blocks have so many passes.
pub record Budgets : Type 0 where
  pub blocks : ℕ
  pub number : ℕ
  pub around : ℕ → List ℕ
  pub node : ℕ → ℕ
  pub limit : ℕ → ℕ
  pub held : List ℕ → ℕ → ℕ

-- The budgets are nested. A block's passes change what its own budgets hold and no other; by how
-- much depends only on the passes of the blocks with the same innermost budget.
pub record AreBudgets (w : Budgets) : Type 0 where
  pub nested : IsNested w.around
  pub inside : (b : ℕ) → b < w.blocks → w.node b < w.number
  pub elsewhere : (c : List ℕ) (b to j : ℕ) → length c ≡ w.blocks → b < w.blocks
      → ¬ IsOn j (chain w.around (w.node b)) → w.held (set c b to) j ≡ w.held c j
  pub depends : (c d : List ℕ) (b to j : ℕ) → length c ≡ w.blocks → length d ≡ w.blocks
      → b < w.blocks
      → ((x : ℕ) → x < w.blocks → w.node x ≡ w.node b → get_or d x 0 ≡ get_or c x 0)
      → w.held (set d b to) j + w.held c j ≡ w.held (set c b to) j + w.held d j

-- What a walk leaves: the passes of each block, its steps taken and left, and of each budget the
-- step that closed it, if one did.
pub record Outcome : Type 0 where
  pub counts : List ℕ
  pub done : ℕ → List Step
  pub left : ℕ → List Step
  pub closed : ℕ → Option Step

-- the nearest closed budget of a block
abbrev pub nearest : Budgets → Outcome → ℕ → Option Closed
nearest w o b = first o.closed (chain w.around (w.node b))

-- the counts with one block at the end of a step
abbrev pub with_step : Outcome → Step → List ℕ
with_step o s = set o.counts s.block s.to

-- What each move of a walk keeps.
pub record IsKept (w : Budgets) (steps : ℕ → List Step) (o : Outcome) : Type 0 where
  pub long : length o.counts ≡ w.blocks
  -- each budget is within its limit
  pub within : (j : ℕ) → j < w.number → w.held o.counts j ≤ w.limit j
  -- a block has taken the first of its steps, and has the passes where they end
  pub splits : (b : ℕ) → b < w.blocks → o.done b ++ o.left b ≡ steps b
  pub places : (b : ℕ) → b < w.blocks → get_or o.counts b 0 ≡ end_of 0 (o.done b)
  -- a step that closed a budget is the next one of its block, whose nearest closed budget that is
  pub inside : (j : ℕ) (s : Step) → o.closed j ≡ Some s → s.block < w.blocks
  pub heads : (j : ℕ) (s : Step) → o.closed j ≡ Some s → IsHead s (o.left s.block)
  pub closing : (j : ℕ) (s : Step) → o.closed j ≡ Some s
      → nearest w o s.block ≡ Some (record { budget = j; step = s })
  -- and it would break the limit
  pub refused : (j : ℕ) (s : Step) → o.closed j ≡ Some s → w.limit j < w.held (with_step o s) j
  -- it is at least as steep as the one that closed the nearest closed budget around
  pub outer : (j : ℕ) (s : Step) (x : Closed) → o.closed j ≡ Some s
      → first o.closed (w.around j) ≡ Some x → IsAsSteep s x.step
  -- a block of a closed budget has taken what is at least as steep, and left what is not steeper
  pub taken : (b : ℕ) (x : Closed) → b < w.blocks → nearest w o b ≡ Some x
      → AllByRecursion (λ (t : Step). IsAsSteep t x.step) (o.done b)
  pub untaken : (b : ℕ) (x : Closed) → b < w.blocks → nearest w o b ≡ Some x
      → AllByRecursion (IsAsSteep x.step) (o.left b)

-- All that bound, gap and refused steps rest on.
pub record IsSettled (w : Budgets) (steps : ℕ → List Step) (o : Outcome) : Type 0 where
  pub kept : IsKept w steps o
  -- a block with no closed budget has taken all
  pub open_done : (b : ℕ) → b < w.blocks → nearest w o b ≡ None → o.left b ≡ []

-- the multiplier of a budget, and the sum of multipliers over the budgets of a block
abbrev pub multiplier_of : Budgets → Outcome → ℕ → ℕ
multiplier_of w o j = multiplier w.around o.closed j

abbrev pub block_rate : Budgets → Outcome → ℕ → ℕ
block_rate w o b = rate w.around (multiplier_of w o) (w.node b)
