-- The steps that closed budgets refused, and their prices.
use Rattle.std.specs.Prelude.{ℕ, ◌≡◌, ◌+◌, ◌-◌, ◌*◌, ◌<◌, ◌==◌, if◌then◌else◌, List, Option, Some}
use Rattle.std.specs.Prelude.{None, get_or}
use Rattle.cine_nums.specs.Division.{div_up}
use Rattle.rd_hulls.specs.declared.step.Step.{Step}
use Rattle.allocation_bound.specs.Steps.{lens, gains, cost, best, level}
use Rattle.allocation_bound.specs.Budgets.{IsOn, chain}
use Rattle.allocation_bound.specs.Settled.{Budgets, Outcome, with_step, multiplier_of, block_rate}
use Rattle.allocation_bound.specs.Ledger.{Ledger}

-- By how many bytes budget j would grow beyond those of the step itself, and 0 where it would grow
-- by fewer: what the block's packet header would grow by.
abbrev pub grow : Budgets → Outcome → Step → ℕ → ℕ
grow w o s j = w.held (with_step o s) j - (w.held o.counts j + s.len)

-- a step's gain for a byte, for its own bytes and those by which a header grows, rounded up
abbrev pub price : Step → ℕ → ℕ
price s more = div_up (s.gain * (s.len + more)) s.len

-- the price of the step that budget j refused, and 0 where its multiplier is 0
abbrev pub refused_price : Budgets → Outcome → Option Step → ℕ → ℕ
refused_price w o None j = 0
refused_price w o (Some s) j = price s (grow w o s j)

abbrev pub price_at : Budgets → Outcome → ℕ → ℕ
price_at w o j = if multiplier_of w o j == 0 then 0 else refused_price w o (o.closed j) j

-- What stands of the step that closed budget j.
pub record IsRefused (w : Budgets) (o : Outcome) (j : ℕ) (s : Step) : Type 0 where
  -- its block is in the budget, and has the passes where it begins
  pub inside : s.block < w.blocks
  pub on : IsOn j (chain w.around (w.node s.block))
  pub count : get_or o.counts s.block 0 ≡ s.from
  -- its slope is the sum of multipliers over the block's budgets
  pub slope : block_rate w o s.block ≡ level s
  -- it would break the limit, and more than its bytes and those of `grow` are not unused
  pub breaks : w.limit j < w.held (with_step o s) j
  pub unused : w.limit j < w.held o.counts j + (s.len + grow w o s j)

-- the ledger of what a walk leaves, with the bytes and the distortion of each block as chosen, and
-- its least term
abbrev pub ledger_of : Budgets → Outcome → (ℕ → ℕ) → (ℕ → ℕ) → (ℕ → ℕ) → Ledger
ledger_of w o bytes dist least = record {
  number = w.number;
  around = w.around;
  blocks = w.blocks;
  node = w.node;
  multipliers = multiplier_of w o;
  limit = w.limit;
  held = w.held o.counts;
  bytes = bytes;
  dist = dist;
  least = least;
}

-- over the ways to take the first steps of each block
abbrev pub ledger : Budgets → (ℕ → List Step) → Outcome → Ledger
ledger w steps o =
    ledger_of w o (λ b. lens (o.done b)) (λ b. gains (o.left b))
    (λ b. best (block_rate w o b) (steps b))

-- what each budget has unused of its limit
abbrev pub slack : Budgets → Outcome → ℕ → ℕ
slack w o j = w.limit j - w.held o.counts j

-- by how much what a block has taken costs more than the best
abbrev pub over : Budgets → (ℕ → List Step) → Outcome → ℕ → ℕ
over w steps o b = cost (block_rate w o b) (o.done b) (o.left b) - best (block_rate w o b) (steps b)
