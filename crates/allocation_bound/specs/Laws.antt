-- What the definitions promise together.
use Rattle.std.specs.Prelude.{ℕ, ◌≡◌, ◌+◌, ◌*◌, ◌<◌, ◌≤◌, List, [], ◌∷◌, ◌++◌, Some}
use Rattle.rd_hulls.specs.declared.step.Step.{Step}
use Rattle.rd_hulls.specs.Steps.{IsFalling}
use Rattle.allocation_bound.specs.Sums.{upto}
use Rattle.allocation_bound.specs.Steps.{scale, lens, gains, excess, Agrees}
use Rattle.allocation_bound.specs.Settled.{Budgets, Outcome, multiplier_of, block_rate}
use Rattle.allocation_bound.specs.Ledger.{IsGap, FitsBeside, rounded_up, distortion}
use Rattle.allocation_bound.specs.Refused.{price_at, IsRefused, ledger, slack}

-- each step begins where the one before it ends, the first at c passes
abbrev pub FollowOn : ℕ → List Step → Type 0
FollowOn c [] = Unit {0}
FollowOn c (s ∷ rest) = (s.from ≡ c) × FollowOn s.to rest

-- steps of blocks that follow on from no passes and fall in slope
pub record AreSteps (blocks : ℕ) (steps : ℕ → List Step) : Type 0 where
  pub follow : (b : ℕ) → b < blocks → FollowOn 0 (steps b)
  pub fall : (b : ℕ) → b < blocks → IsFalling (steps b)

-- what the code adds up: the excess of what blocks have left, and the worth of what budgets have
-- unused
abbrev pub excess_and_unused : Budgets → Outcome → ℕ
excess_and_unused w o = upto w.blocks (λ b. excess (block_rate w o b) (o.left b))
    + upto w.number (λ j. multiplier_of w o j * slack w o j)

-- The promise of multipliers, gap and refused steps.
pub record HasCertificate (w : Budgets) (steps : ℕ → List Step) (o : Outcome) : Type 0 where
  -- each block's sum of multipliers lies between what it has taken and what it has left
  pub agree : (b : ℕ) → b < w.blocks → Agrees (block_rate w o b) (o.done b) (o.left b)
  -- the gap, which is one number
  pub gap : IsGap (ledger w steps o) (rounded_up (excess_and_unused w o))
  pub once : (g h : ℕ) → IsGap (ledger w steps o) g → IsGap (ledger w steps o) h → g ≡ h
  -- No other way to take the first steps of blocks that fits has a distortion below the chosen
  -- one's, less the gap.
  pub rivals : (g : ℕ) → IsGap (ledger w steps o) g → (done left : ℕ → List Step)
      → ((b : ℕ) → b < w.blocks → done b ++ left b ≡ steps b)
      → FitsBeside (ledger w steps o) (λ b. lens (done b))
      → distortion (ledger w steps o) ≤ upto w.blocks (λ b. gains (left b)) + g
  -- The gap is at most the prices together and one for each 2^32 bytes that blocks leave, or a
  -- part.
  pub below_prices : (k g : ℕ) → upto w.blocks (λ b. lens (o.left b)) ≤ scale * k
      → IsGap (ledger w steps o) g → g ≤ upto w.number (price_at w o) + k
  -- and 0 where no budget has a multiplier
  pub none : ((j : ℕ) → j < w.number → multiplier_of w o j ≡ 0) → (g : ℕ)
      → IsGap (ledger w steps o) g → g ≡ 0
  -- what stands of each closed budget's step
  pub refused : (j : ℕ) (s : Step) → o.closed j ≡ Some s → IsRefused w o j s
