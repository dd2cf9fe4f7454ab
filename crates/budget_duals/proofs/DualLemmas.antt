-- What the end of a walk says.
use Rattle.std.proofs.Common.{ℕ, ◌≡◌, ◌+◌, ◌-◌, ◌*◌, ◌/◌, ◌<◌, ◌≤◌, ◌^◌, List, [], ◌∷◌, ◌++◌}
use Rattle.std.proofs.Common.{length, get_or, Option, Some, None, arith, refl, sym, ap, subst, ◌∙◌}
use Rattle.rd_hulls.specs.declared.step.Step.{Step}
use Rattle.allocation_bound.specs.Budgets.{base, chain, multiplier, above_base}
use Rattle.allocation_bound.specs.Ledger.{rounded_up}
use Rattle.allocation_bound.specs.Laws.{AreSteps}
use Rattle.allocation_bound.specs.Refused.{slack}
use Rattle.allocation_bound.specs.Settled.{Budgets, AreBudgets, Outcome, IsSettled, multiplier_of}
use Rattle.allocation_bound.specs.Settled.{block_rate}
use Rattle.allocation_bound.specs.Steps.{Agrees, excess, lens, level, scale}
use Rattle.allocation_bound.specs.Sums.{upto}
use Rattle.allocation_bound.specs.Walk.{IsStart, IsReached}
use Rattle.allocation_bound.proofs.Certified.{certified}
use Rattle.allocation_bound.proofs.Levels.{block_rate_is}
use Rattle.allocation_bound.proofs.Start.{walk_start, steepest}
use Rattle.allocation_bound.proofs.SumLemmas.{upto_same, upto_le}
use Rattle.std.proofs.Math.Nat.{div-le_self}
use Rattle.budget_duals.specs.Allocated.{IsAllocated}
use Rattle.budget_duals.specs.Tree.{closed_by, number_at}
use Rattle.budget_duals.specs.Walking.{so_far, Walks, CanWalk}

-- a walk begins with nothing taken and no budget closed
pub walk_begins : (w : Budgets) (counts : List ℕ) (done left : ℕ → List Step)
    (closed : List (Option Step))
    → ((j : ℕ) → closed_by closed j ≡ None) → length counts ≡ w.blocks
    → ((j : ℕ) → j < w.number → w.held counts j ≤ w.limit j)
    → ((b : ℕ) → b < w.blocks → get_or counts b 0 ≡ 0)
    → ((b : ℕ) → b < w.blocks → done b ≡ []) → Walks w left (so_far counts done left closed)
walk_begins w counts done left closed opens long within zeros none =
    let start : IsStart w left (so_far counts done left closed) = record {
      long = long;
      within = within;
      counts = zeros;
      done = none;
      left = λ b inside. refl;
      open_all = opens;
    } in record {
      front = steepest;
      stands = walk_start w left (so_far counts done left closed) start;
      reached = ([], start);
    }

pub are_steps : (most : List ℕ) (blocks : ℕ) (steps : ℕ → List Step) → length most ≡ blocks
    → CanWalk most steps → AreSteps blocks steps
are_steps most blocks steps same can = record {
  follow = λ b inside. can.follow b (subst (λ n. b < n) (sym same) inside);
  fall = λ b inside. can.fall b (subst (λ n. b < n) (sym same) inside);
}

pub agrees_at : (w : Budgets) (steps : ℕ → List Step) (o : Outcome) → AreBudgets w
    → AreSteps w.blocks steps → IsSettled w steps o
    → (b : ℕ) → b < w.blocks
    → Agrees (base o.closed (chain w.around (w.node b))) (o.done b) (o.left b)
agrees_at w steps o budgets are settled b inside =
    subst (λ m. Agrees m (o.done b) (o.left b)) (block_rate_is w budgets steps o settled b)
    ((certified w steps o budgets are settled).agree b inside)

-- a multiplier is below 2^96
level_small : (g n : ℕ) → g < 2 ^ 64 → scale * g / n < 2 ^ 96
level_small g n wide = let d : scale * g / n ≤ scale * g = div-le_self (scale * g) n in omega arith

above_small : (o : Option Step) (outer : ℕ) → above_base o outer < 2 ^ 96
above_small None outer = omega arith
above_small (Some s) outer = let l : level s < 2 ^ 96 = level_small s.gain s.len s.wide in omega
    arith

pub multiplier_small : (around : ℕ → List ℕ) (closed : ℕ → Option Step) (j : ℕ)
    → multiplier around closed j < 2 ^ 96
multiplier_small around closed j = above_small (closed j) (base closed (around j))

-- what the code computes is the definitions'
pub allocated : (w : Budgets) (steps : ℕ → List Step) (o : Outcome) (numbers : List ℕ) (g : ℕ)
    → AreBudgets w → AreSteps w.blocks steps
    → IsReached w steps o → IsSettled w steps o → length numbers ≡ w.number
    → ((j : ℕ) → j < w.number → number_at numbers j ≡ multiplier_of w o j)
    → g ≡ rounded_up (upto w.blocks
    (λ b. excess (base o.closed (chain w.around (w.node b))) (o.left b))
    + upto w.number (λ j. number_at numbers j * (w.limit j - w.held o.counts j)))
    → IsAllocated w steps o numbers g
allocated w steps o numbers g budgets are reached settled long same is =
    let over : upto w.blocks (λ b. excess (base o.closed (chain w.around (w.node b))) (o.left b))
    ≡ upto w.blocks (λ b. excess (block_rate w o b) (o.left b)) =
    upto_same w.blocks (λ b. excess (base o.closed (chain w.around (w.node b))) (o.left b))
    (λ b. excess (block_rate w o b) (o.left b))
    (λ b inside. ap (λ m. excess m (o.left b)) (sym (block_rate_is w budgets steps o settled b))) in
    let unused : upto w.number (λ j. number_at numbers j * (w.limit j - w.held o.counts j))
    ≡ upto w.number (λ j. multiplier_of w o j * slack w o j) =
    upto_same w.number (λ j. number_at numbers j * (w.limit j - w.held o.counts j))
    (λ j. multiplier_of w o j * slack w o j)
    (λ j inside. ap (λ m. m * slack w o j) (same j inside)) in
    record {
      reached = reached;
      settled = settled;
      certificate = certified w steps o budgets are settled;
      long = long;
      multipliers = same;
      gap = is ∙ (ap (λ x. rounded_up
          (x + upto w.number (λ j. number_at numbers j * (w.limit j - w.held o.counts j)))) over
          ∙ ap (λ x. rounded_up (upto w.blocks (λ b. excess (block_rate w o b) (o.left b)) + x))
          unused);
    }

pub lens_after : (done left : List Step) → lens left ≤ lens (done ++ left)
lens_after [] left = omega arith
lens_after (s ∷ done) left = let h : lens left
    ≤ lens (done ++ left) = lens_after done left in omega arith

-- blocks have no more bytes left than they had
pub left_bytes : (w : Budgets) (steps : ℕ → List Step) (o : Outcome) → IsSettled w steps o
    → upto w.blocks (λ b. lens (o.left b)) ≤ upto w.blocks (λ b. lens (steps b))
left_bytes w steps o settled =
    upto_le w.blocks (λ b. lens (o.left b)) (λ b. lens (steps b))
    (λ b inside. subst (λ (l : List Step). lens (o.left b) ≤ lens l) (settled.kept.splits b inside)
    (lens_after (o.done b) (o.left b)))
