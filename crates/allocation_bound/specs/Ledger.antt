-- The lower bound on distortions, and the gap above it, for any multipliers of nested budgets.
use Rattle.std.specs.Prelude.{ℕ, ◌+◌, ◌*◌, ◌/◌, ◌<◌, ◌≤◌, List}
use Rattle.allocation_bound.specs.Steps.{scale}
use Rattle.allocation_bound.specs.Sums.{upto}
use Rattle.allocation_bound.specs.Budgets.{body, rate}

-- A choice beside nested budgets, and a multiplier of each: the limit of each budget and what it
-- holds, headers included; the bytes and the distortion of each block as chosen; and the least term
-- of each block over all that could be chosen of it.
pub record Ledger : Type 0 where
  pub number : ℕ
  pub around : ℕ → List ℕ
  pub blocks : ℕ
  pub node : ℕ → ℕ
  pub multipliers : ℕ → ℕ
  pub limit : ℕ → ℕ
  pub held : ℕ → ℕ
  pub bytes : ℕ → ℕ
  pub dist : ℕ → ℕ
  pub least : ℕ → ℕ

-- the sum of multipliers over the budgets of block b
abbrev pub rate_of : Ledger → ℕ → ℕ
rate_of l b = rate l.around l.multipliers (l.node b)

-- the distortion of a choice
abbrev pub distortion : Ledger → ℕ
distortion l = upto l.blocks l.dist

-- the body bytes of a budget
abbrev pub body_of : Ledger → (ℕ → ℕ) → ℕ → ℕ
body_of l x j = body l.around l.node x l.blocks j

-- Other bytes of the blocks fit beside the headers that were written: in each budget they are at
-- most the limit less what is held beside the bytes as chosen. What is subtracted there is added
-- here.
abbrev pub FitsBeside : Ledger → (ℕ → ℕ) → Type 0
FitsBeside l x = (j : ℕ) → j < l.number → body_of l x j + l.held j ≤ l.limit j + body_of l l.bytes j

-- The bound is the least terms together, less the multipliers' worth of what the limits leave for
-- body bytes. It may be below 0, so that its parts stand apart, those that are subtracted on the
-- other side.
abbrev pub least_terms : Ledger → ℕ
least_terms l = upto l.blocks l.least

abbrev pub held_worth : Ledger → ℕ
held_worth l = upto l.number (λ j. l.multipliers j * l.held j)

abbrev pub limit_worth : Ledger → ℕ
limit_worth l = upto l.number (λ j. l.multipliers j * (l.limit j + body_of l l.bytes j))

-- the distortion less g is at most the bound
abbrev pub IsBelow : Ledger → ℕ → Type 0
IsBelow l g = scale * distortion l + limit_worth l ≤ least_terms l + held_worth l + scale * g

-- The gap is the least whole number by which the distortion may be lowered so that it is at most
-- the bound.
pub record IsGap (l : Ledger) (gap : ℕ) : Type 0 where
  pub enough : IsBelow l gap
  pub least : (g : ℕ) → IsBelow l g → gap ≤ g

-- the least whole number over the scale that is at least x
abbrev pub rounded_up : ℕ → ℕ
rounded_up x = (x + 4294967295) / scale
