-- Nested byte budgets, numbered from the outermost, and the multipliers of those that a step
-- closed.
use Rattle.std.specs.Prelude.{ℕ, ◌≡◌, ◌-◌, ◌<◌, ◌⊎◌, List, [], ◌∷◌, Option, Some, None}
use Rattle.rd_hulls.specs.declared.step.Step.{Step}
use Rattle.allocation_bound.specs.Steps.{level}
use Rattle.allocation_bound.specs.Sums.{upto, total, only}

-- `around j` has the budgets around budget j, the nearest first. Around the nearest are the others,
-- and a budget has a higher number than those around it.
abbrev pub AreAround : (ℕ → List ℕ) → ℕ → List ℕ → Type 0
AreAround around j [] = Unit {0}
AreAround around j (i ∷ rest) = (i < j) × (rest ≡ around i)

abbrev pub IsNested : (ℕ → List ℕ) → Type 0
IsNested around = (j : ℕ) → AreAround around j (around j)

-- a budget, and then those around it
abbrev pub chain : (ℕ → List ℕ) → ℕ → List ℕ
chain around j = j ∷ around j

-- a list of budgets on which each is followed by those around it
abbrev pub IsChain : (ℕ → List ℕ) → List ℕ → Type 0
IsChain around [] = Unit {0}
IsChain around (j ∷ rest) = (rest ≡ around j) × IsChain around rest

-- j stands on a list
abbrev pub IsOn : ℕ → List ℕ → Type 0
IsOn j [] = ⊥
IsOn j (i ∷ rest) = (i ≡ j) ⊎ IsOn j rest

-- The body bytes of budget j: what x has of each of the blocks 0 to n - 1, over the blocks of the
-- budget. `node` has the innermost budget of each block, whose bytes stand in it and in those
-- around it.
abbrev pub body : (ℕ → List ℕ) → (ℕ → ℕ) → (ℕ → ℕ) → ℕ → ℕ → ℕ
body around node x n j = upto n (λ b. total (λ i. only i (x b) j) (chain around (node b)))

-- the sum of multipliers over the budgets of a block whose innermost budget is j
abbrev pub rate : (ℕ → List ℕ) → (ℕ → ℕ) → ℕ → ℕ
rate around multipliers j = total multipliers (chain around j)

-- a closed budget, and the step that closed it
pub record Closed : Type 0 where
  pub budget : ℕ
  pub step : Step

-- the first closed budget of a list, where `closed` has of each the step that closed it, if one did
abbrev pub nearer : ℕ → Option Step → Option Closed → Option Closed
nearer j None later = later
nearer j (Some s) later = Some (record { budget = j; step = s })

abbrev pub first : (ℕ → Option Step) → List ℕ → Option Closed
first closed [] = None
first closed (j ∷ rest) = nearer j (closed j) (first closed rest)

-- the level of a step that closed a budget, and 0 where none did
abbrev pub level_of : Option Closed → ℕ
level_of None = 0
level_of (Some c) = level c.step

abbrev pub base : (ℕ → Option Step) → List ℕ → ℕ
base closed budgets = level_of (first closed budgets)

-- A closed budget's multiplier is its level less the level of the nearest closed budget around it,
-- which is not larger; that of an open budget is 0.
abbrev pub above_base : Option Step → ℕ → ℕ
above_base None outer = 0
above_base (Some s) outer = level s - outer

abbrev pub multiplier : (ℕ → List ℕ) → (ℕ → Option Step) → ℕ → ℕ
multiplier around closed j = above_base (closed j) (base closed (around j))
