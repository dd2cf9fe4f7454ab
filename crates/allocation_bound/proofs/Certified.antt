-- The promises of a settled walk, put together.
use Rattle.std.proofs.Common.{ℕ, ◌≡◌, ◌+◌, List, [], ◌∷◌, ◌++◌, subst, sym}
use Rattle.rd_hulls.specs.declared.step.Step.{Step}
use Rattle.rd_hulls.specs.Steps.{FallFrom, IsFalling}
use Rattle.allocation_bound.specs.Sums.{upto}
use Rattle.allocation_bound.specs.Steps.{excess}
use Rattle.allocation_bound.specs.Settled.{Budgets, AreBudgets, Outcome, IsSettled, block_rate}
use Rattle.allocation_bound.specs.Ledger.{IsGap, rounded_up}
use Rattle.allocation_bound.specs.Refused.{ledger, slack, over}
use Rattle.allocation_bound.specs.Laws.{AreSteps, HasCertificate}
use Rattle.allocation_bound.proofs.Gaps.{gap_once, unused_worth}
use Rattle.allocation_bound.proofs.Levels.{agreement}
use Rattle.allocation_bound.proofs.Prices.{walk_gap, walk_rivals, gap_below_prices, no_gap}
use Rattle.allocation_bound.proofs.Prices.{refused_step, over_is_excess}
use Rattle.allocation_bound.proofs.SumLemmas.{upto_same}

falls_later : (g n : ℕ) (done left : List Step) → FallFrom g n (done ++ left) → IsFalling left
falls_later g n [] [] fall = tt
falls_later g n [] (t ∷ r) fall = fall.1
falls_later g n (s ∷ d) left fall = falls_later s.gain s.len d left fall.1

falls_left : (done left : List Step) → IsFalling (done ++ left) → IsFalling left
falls_left [] left fall = fall
falls_left (s ∷ d) left fall = falls_later s.gain s.len d left fall

pub certified : (w : Budgets) (steps : ℕ → List Step) (o : Outcome) → AreBudgets w
    → AreSteps w.blocks steps
    → IsSettled w steps o → HasCertificate w steps o
certified w steps o budgets are h =
    let same : upto w.blocks (over w steps o)
    ≡ upto w.blocks (λ b. excess (block_rate w o b) (o.left b)) =
    upto_same w.blocks (over w steps o) (λ b. excess (block_rate w o b) (o.left b))
    (λ b inside. over_is_excess w budgets steps o h b inside
    (falls_left (o.done b) (o.left b)
    (subst IsFalling (sym (h.kept.splits b inside)) (are.fall b inside)))) in
    record {
      agree = agreement w budgets steps o h;
      gap = subst (λ (n : ℕ). IsGap (ledger w steps o)
          (rounded_up (n + unused_worth (ledger w steps o) (slack w o)))) same
          (walk_gap w budgets steps o h);
      once = gap_once (ledger w steps o);
      rivals = λ g is. walk_rivals w budgets steps o h g is.enough;
      below_prices = gap_below_prices w budgets steps o h;
      none = no_gap w budgets steps o h;
      refused = refused_step w budgets steps o h are.follow;
    }
