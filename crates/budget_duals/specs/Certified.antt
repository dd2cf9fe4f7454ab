-- What an allocation beside a frame's budgets asks, and what it promises.
use Rattle.std.specs.Prelude.{ℕ, ◌≡◌, ◌+◌, ◌<◌, ◌≤◌, ◌^◌, List, ◌++◌, length, get_or, Option, Some}
use Rattle.std.specs.Prelude.{None}
use Rattle.rd_hulls.specs.declared.step.Step.{Step}
use Rattle.allocation_bound.specs.Ledger.{IsGap, FitsBeside}
use Rattle.allocation_bound.specs.Refused.{ledger, IsRefused}
use Rattle.allocation_bound.specs.Settled.{Budgets, AreBudgets, IsSettled, multiplier_of}
use Rattle.allocation_bound.specs.Settled.{block_rate}
use Rattle.allocation_bound.specs.Steps.{cost, gains, lens}
use Rattle.allocation_bound.specs.Sums.{upto, total}
use Rattle.allocation_bound.specs.Walk.{IsReached}
use Rattle.budget_duals.specs.Frame.{AreLow, AreMembers, refused_steps}
use Rattle.budget_duals.specs.Tree.{closed_by, number_at}
use Rattle.budget_duals.specs.Walking.{so_far, CanWalk}
use Rattle.budget_duals.specs.declared.certificate.Certificate.{Certificate}
use Rattle.budget_duals.specs.declared.certificate.RefusedStep.{RefusedStep}
use Rattle.budget_duals.specs.declared.held.Held.{Held}
use Rattle.budget_duals.specs.declared.limits.Limits.{Limits}
use Rattle.budget_duals.specs.declared.members.Members.{Members}

-- The limits, the choice of no passes, and the steps that each block has.
pub record IsReady (limits : Limits) (highest counts : List ℕ) (inside : ℕ → Members)
    (held : List ℕ → Held)
    (steps : ℕ → List Step) (start : ℕ) : Type 0 where
  pub unpassed : (b : ℕ) → b < length highest → get_or counts b 0 ≡ 0
  -- The steps of a block follow on from no passes, fall strictly in slope, and lead to no count
  -- above the block's highest.
  pub can_walk : CanWalk highest steps
  -- their gains together are at most the distortion with no passes, and their bytes are below 2^32
  pub gain : upto (length highest) (λ b. gains (steps b)) ≤ start
  pub wide : start < 2 ^ 90
  pub bytes : upto (length highest) (λ b. lens (steps b)) < 2 ^ 32
  pub low : AreLow limits
  -- In a 2K frame nothing is in the 2K portion; in a 4K frame a component stands in it.
  pub members : (b : ℕ) → b < length highest → AreMembers limits.inner (inside b)
  pub none : limits.inner ≡ None → (held counts).inner ≡ 0

-- The certificate of a choice beside the budgets w, where blocks have the counts and have taken and
-- left such of their steps.
pub record IsCertificate (w : Budgets) (steps : ℕ → List Step) (counts : List ℕ)
    (done left : ℕ → List Step) (start : ℕ) (c : Certificate) : Type 0 where
  -- the budgets are nested, and hold what the law of their price says
  pub budgets : AreBudgets w
  -- Of each budget the step that closed it, if one did. Each budget is within its limit, and each
  -- block has taken the first of its steps.
  pub closed : List (Option Step)
  pub settled : IsSettled w steps (so_far counts done left closed)
  -- It is the end of a walk from no passes: each move takes the steepest step that open blocks have
  -- left, or closes the outermost budget that it would break.
  pub reached : IsReached w steps (so_far counts done left closed)
  -- the multipliers, over 2^32
  pub multipliers : (j : ℕ) → j < w.number
      → number_at c.multipliers j ≡ multiplier_of w (so_far counts done left closed) j
  -- the gap of the bound that they give
  pub gap : IsGap (ledger w steps (so_far counts done left closed)) c.gap
  -- No other way to take the first steps of blocks that fits beside the headers has a distortion
  -- below the chosen one's, less the gap.
  pub rivals : (taken rest : ℕ → List Step) → ((b : ℕ) → b < w.blocks → taken b ++ rest b ≡ steps b)
      → FitsBeside (ledger w steps (so_far counts done left closed)) (λ b. lens (taken b))
      → upto w.blocks (λ b. gains (left b)) ≤ upto w.blocks (λ b. gains (rest b)) + c.gap
  -- A block's cost as chosen is at most that of any other way, and the bytes of its steps.
  pub chosen : (b : ℕ) → b < w.blocks → (taken rest : List Step) → taken ++ rest ≡ steps b
      → cost (block_rate w (so_far counts done left closed) b) (done b) (left b)
      ≤ cost (block_rate w (so_far counts done left closed) b) taken rest + lens (steps b)
  -- the distortion is that of no passes, less the gains of the steps that were taken
  pub distortion : c.distortion + upto w.blocks (λ b. gains (done b)) ≡ start
  -- the refused steps, and what stands of each closed budget's step
  pub refused : c.refused.items ≡ refused_steps w (so_far counts done left closed)
  pub each : (j : ℕ) (s : Step) → closed_by closed j ≡ Some s
      → IsRefused w (so_far counts done left closed) j s
  -- The gap is at most their prices together and 1, and 0 where no budget has a multiplier.
  pub below_prices : c.gap ≤ total (λ (r : RefusedStep). r.price) c.refused.items + 1
  pub none : ((j : ℕ) → j < w.number → number_at c.multipliers j ≡ 0) → c.gap ≡ 0
