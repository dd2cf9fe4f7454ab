use Rattle.std.proofs.Common.{ℕ, zero, suc, ◌≤◌, List, [], ◌∷◌, length, take, arith, subst}
use Rattle.std.specs.List.{All}
use Rattle.std.proofs.lemmas.List.Elements.{All-cons, All-head, All-more, All-nil, All-tail}
use Rattle.budget_duals.specs.declared.certificate.RefusedStep.{RefusedStep}
use Rattle.cert_text.specs.Reading.{IsSmall}
use Rattle.cinema_run.proofs.widths.steps_widths.Goals as goal

all_taken : (steps : List RefusedStep) (n : ℕ) → length steps ≤ n → All IsSmall (take n steps) →
    All IsSmall steps
all_taken [] n le all = All-nil IsSmall
all_taken (r ∷ rs) zero le all = absurd (omega (arith, le))
all_taken (r ∷ rs) (suc n) le all =
    All-cons IsSmall r rs (All-head IsSmall r (take n rs) all)
    (all_taken rs n (omega (arith, le)) (All-tail IsSmall r (take n rs) all))

pub loop-step-preserved : goal.loop-step-preserved
loop-step-preserved c =
    All-more IsSmall c.args.refused.now c.loop-step.step-index c.step-item.result
    c.loop-step-test.true c.loop-step.invariant (subst IsSmall c.step-item.is c.step_widths.ensures)

pub returns : goal.returns
returns c =
    all_taken c.args.refused.now c.loop-step.step-index
    (omega (arith, c.loop-step-test.false)) c.loop-step.invariant
