-- Nested budgets as lists: the budgets around each, and the limits.
use Rattle.std.specs.Prelude.{ℕ, ◌≡◌, List, [], ◌∷◌, length, map, get_or, nat_lt, if◌then◌else◌}
use Rattle.std.specs.Prelude.{Option, Some, None}
use Rattle.rd_hulls.specs.declared.step.Step.{Step}
use Rattle.allocation_bound.specs.Budgets.{IsNested}
use Rattle.allocation_bound.specs.Settled.{Budgets}
use Rattle.budget_duals.specs.declared.tree.Tree.{Tree}

-- the budgets around budget j, the nearest first, and the limit of budget j
abbrev pub around_in : Tree → ℕ → List ℕ
around_in tree j = get_or (map (λ row. row.now) tree.around.now) j []

abbrev pub number_at : List ℕ → ℕ → ℕ
number_at numbers j = get_or numbers j 0

abbrev pub limit_at : Tree → ℕ → ℕ
limit_at tree = number_at tree.limits.now

-- The budgets are nested, and each has a limit.
pub record IsTree (tree : Tree) : Type 0 where
  pub nested : IsNested (around_in tree)
  pub long : length tree.around.now ≡ length tree.limits.now

-- the budgets of so many blocks, where each block has its innermost one, and what they hold at any
-- counts
abbrev pub budgets_of : Tree → ℕ → (ℕ → ℕ) → (List ℕ → ℕ → ℕ) → Budgets
budgets_of tree blocks node held = record {
  blocks = blocks;
  number = length tree.limits.now;
  around = around_in tree;
  node = node;
  limit = limit_at tree;
  held = held;
}

-- the steps that closed budgets, by the numbers of these
abbrev pub closed_by : List (Option Step) → ℕ → Option Step
closed_by closed j = get_or closed j None

-- The last budget of a list that holds more than its limit. A block's budgets stand from the
-- innermost to the outermost, so that it is the outermost one.
abbrev pub last_of : Option ℕ → Option ℕ → Option ℕ
last_of (Some i) here = Some i
last_of None here = here

abbrev pub outermost : (ℕ → ℕ) → (ℕ → ℕ) → List ℕ → Option ℕ
outermost limit held [] = None
outermost limit held (j ∷ rest) =
    last_of (outermost limit held rest) (if nat_lt (limit j) (held j) then Some j else None)
