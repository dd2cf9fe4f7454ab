-- The moves of a walk, which take a step or close a budget, and what stands between two of them.
use Rattle.std.specs.Prelude.{ℕ, ◌≡◌, ◌<◌, ◌≤◌, ◌⊎◌, List, [], ◌∷◌, ◌++◌, Some, None, length, get_or}
use Rattle.std.specs.List.{AllByRecursion}
use Rattle.rd_hulls.specs.declared.step.Step.{Step}
use Rattle.allocation_bound.specs.Steps.{IsAsSteep, IsHead}
use Rattle.allocation_bound.specs.Budgets.{chain, IsOn}
use Rattle.allocation_bound.specs.Settled.{Budgets, Outcome, IsKept, nearest, with_step}

-- Between two moves, where the front is the last step that was looked at: what open blocks have
-- taken is at least as steep, what they have left is not steeper, and each closing step is at least
-- as steep.
pub record Stands (w : Budgets) (steps : ℕ → List Step) (front : Step) (o : Outcome) : Type 0 where
  pub kept : IsKept w steps o
  pub done : (b : ℕ) → b < w.blocks → nearest w o b ≡ None
      → AllByRecursion (λ (t : Step). IsAsSteep t front) (o.done b)
  pub left : (b : ℕ) → b < w.blocks → nearest w o b ≡ None
      → AllByRecursion (IsAsSteep front) (o.left b)
  pub rest : (j : ℕ) (s : Step) → o.closed j ≡ Some s → IsAsSteep s front

-- The step that a move is made by: the next one of an open block, at least as steep as all that
-- open blocks have left, and of equally steep ones that of the block with the lowest number.
pub record IsNext (w : Budgets) (o : Outcome) (s : Step) (rest : List Step) : Type 0 where
  pub inside : s.block < w.blocks
  pub open_block : nearest w o s.block ≡ None
  pub head : o.left s.block ≡ s ∷ rest
  pub steepest : (b : ℕ) → b < w.blocks → nearest w o b ≡ None
      → AllByRecursion (IsAsSteep s) (o.left b)
  pub lowest : (b : ℕ) → b < w.blocks → nearest w o b ≡ None → (t : Step) → IsHead t (o.left b)
      → IsAsSteep t s → s.block ≤ b

-- the step is taken, as it breaks no limit of its block's budgets
pub record Takes (w : Budgets) (o : Outcome) (s : Step) (rest : List Step) (n : Outcome) : Type 0
  where
    pub next : IsNext w o s rest
    pub fits : (j : ℕ) → IsOn j (chain w.around (w.node s.block)) → w.held (with_step o s) j
        ≤ w.limit j
    pub counts : n.counts ≡ with_step o s
    pub done : n.done s.block ≡ o.done s.block ++ s ∷ []
    pub left : n.left s.block ≡ rest
    pub other_done : (b : ℕ) → ¬ (b ≡ s.block) → n.done b ≡ o.done b
    pub other_left : (b : ℕ) → ¬ (b ≡ s.block) → n.left b ≡ o.left b
    pub closed : (j : ℕ) → n.closed j ≡ o.closed j

-- the step closes a budget of its block, the outermost one whose limit it would break
pub record Closes (w : Budgets) (o : Outcome) (s : Step) (rest : List Step) (j : ℕ) (n : Outcome) :
    Type 0 where
  pub next : IsNext w o s rest
  pub on : IsOn j (chain w.around (w.node s.block))
  pub breaks : w.limit j < w.held (with_step o s) j
  pub outermost : (i : ℕ) → IsOn i (w.around j) → w.held (with_step o s) i ≤ w.limit i
  pub counts : n.counts ≡ o.counts
  pub done : (b : ℕ) → n.done b ≡ o.done b
  pub left : (b : ℕ) → n.left b ≡ o.left b
  pub closed : n.closed j ≡ Some s
  pub other_closed : (i : ℕ) → ¬ (i ≡ j) → n.closed i ≡ o.closed i

-- before any move
pub record IsStart (w : Budgets) (steps : ℕ → List Step) (o : Outcome) : Type 0 where
  pub long : length o.counts ≡ w.blocks
  pub within : (j : ℕ) → j < w.number → w.held o.counts j ≤ w.limit j
  pub counts : (b : ℕ) → b < w.blocks → get_or o.counts b 0 ≡ 0
  pub done : (b : ℕ) → b < w.blocks → o.done b ≡ []
  pub left : (b : ℕ) → b < w.blocks → o.left b ≡ steps b
  pub open_all : (j : ℕ) → o.closed j ≡ None

-- one move
abbrev pub IsMove : Budgets → Outcome → Outcome → Type 0
IsMove w o n = (s : Step) × ((rest : List Step) ×
    (Takes w o s rest n ⊎ ((j : ℕ) × Closes w o s rest j n)))

-- The moves of a walk from its start, by what stood before each, the last move first.
abbrev pub AreMoves : Budgets → (ℕ → List Step) → List Outcome → Outcome → Type 0
AreMoves w steps [] o = IsStart w steps o
AreMoves w steps (before ∷ earlier) o = AreMoves w steps earlier before × IsMove w before o

-- some moves lead from the start of a walk to here
abbrev pub IsReached : Budgets → (ℕ → List Step) → Outcome → Type 0
IsReached w steps o = (before : List Outcome) × AreMoves w steps before o
