-- The same by pass counts of the blocks, the hulls forgotten.
use Rattle.std.specs.Prelude.{ℕ, ◌≡◌, ◌+◌, ◌*◌, ◌<◌, ◌≤◌, List, length, Some, get_or}
use Rattle.rd_hulls.specs.declared.point.Point.{Point}
use Rattle.rd_hulls.specs.declared.step.Step.{Step}
use Rattle.rd_hulls.specs.Points.{point_at, ArePoints}
use Rattle.rd_hulls.specs.Hull.{IsHull, IsHullStep}
use Rattle.allocation_bound.specs.Sums.{upto}
use Rattle.allocation_bound.specs.Steps.{scale}
use Rattle.allocation_bound.specs.Settled.{Budgets, Outcome, block_rate}
use Rattle.allocation_bound.specs.Ledger.{Ledger, IsGap, FitsBeside, distortion}
use Rattle.allocation_bound.specs.Refused.{ledger, ledger_of}

-- what a point costs at the multiplier m
abbrev pub term : ℕ → Point → ℕ
term m p = scale * p.dist + m * p.len

-- the least of a block's terms over all its pass counts
pub record IsLeastTerm (points : List Point) (m least : ℕ) : Type 0 where
  pub below : (k : ℕ) → k < length points → least ≤ term m (point_at points k)
  pub count : ℕ
  pub inside : count < length points
  pub reached : term m (point_at points count) ≡ least

-- the point of each block where it has so many passes
abbrev pub chosen_point : (ℕ → List Point) → (ℕ → ℕ) → ℕ → Point
chosen_point points counts b = point_at (points b) (counts b)

-- the ledger of what a walk leaves, over all pass counts of each block
abbrev pub pass_ledger : Budgets → (ℕ → List Point) → (ℕ → ℕ) → Outcome → Ledger
pass_ledger w points least o =
    ledger_of w o (λ b. (chosen_point points (λ x. get_or o.counts x 0) b).len)
    (λ b. (chosen_point points (λ x. get_or o.counts x 0) b).dist) least

-- the points of each block, their hull, and each block's least term
pub record HaveTerms (w : Budgets) (steps : ℕ → List Step) (o : Outcome) (pts : ℕ → List Point)
    (least : ℕ → ℕ) : Type 0 where
  pub points : (b : ℕ) → b < w.blocks → ArePoints (pts b)
  pub hulls : (b : ℕ) → b < w.blocks → IsHull b (pts b) (steps b)
  pub terms : (b : ℕ) → b < w.blocks → IsLeastTerm (pts b) (block_rate w o b) (least b)

-- The promise over all pass counts of all blocks.
pub record HasPassCertificate (w : Budgets) (steps : ℕ → List Step) (o : Outcome)
    (points : ℕ → List Point) (least : ℕ → ℕ) : Type 0 where
  -- the gap is the same number
  pub gap : (g : ℕ) → IsGap (ledger w steps o) g → IsGap (pass_ledger w points least o) g
  -- No choice of passes that fits beside the written headers has a distortion below the chosen
  -- one's, less the gap.
  pub rivals : (g : ℕ) → IsGap (pass_ledger w points least o) g → (choice : ℕ → ℕ)
      → ((b : ℕ) → b < w.blocks → choice b < length (points b))
      → FitsBeside (pass_ledger w points least o) (λ b. (chosen_point points choice b).len)
      → distortion (pass_ledger w points least o)
      ≤ upto w.blocks (λ b. (chosen_point points choice b).dist) + g
  -- A block's chosen term is at most 2^17 above each other one.
  pub chosen : (b : ℕ) → b < w.blocks → (k : ℕ) → k < length (points b)
      → term (block_rate w o b) (point_at (points b) (get_or o.counts b 0))
      ≤ term (block_rate w o b) (point_at (points b) k) + 131072
  -- The step that closed a budget leads from its block's present count along the hull.
  pub refused : (j : ℕ) (s : Step) → o.closed j ≡ Some s
      → IsHullStep s.block (points s.block) (get_or o.counts s.block 0) s
