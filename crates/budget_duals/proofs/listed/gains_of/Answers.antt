-- A part of a sum is at most the whole.
use Rattle.std.proofs.Common.{ℕ, ◌+◌, ◌<◌, ◌≤◌, ◌≡◌, ◌^◌, take, arith, sym, ap, ◌∙◌}
use Rattle.allocation_bound.specs.Steps.{gains}
use Rattle.budget_duals.proofs.GainLemmas.{gains_next, gains_part}
use Rattle.budget_duals.proofs.listed.gains_of.Goals as goal

pub overflow_add-sum : goal.overflow_add-sum
overflow_add-sum c =
    let k : ℕ = c.loop-step.step-index in
    let next : gains (take (k + 1) c.args.steps.now) ≡ gains (take k c.args.steps.now)
    + c.step-item.result.gain =
    gains_next c.args.steps.now k c.step-item.result c.loop-step-test.true c.step-item.is in
    let part : gains (take (k + 1) c.args.steps.now)
    ≤ gains c.args.steps.now = gains_part (k + 1) c.args.steps.now in
    let small : gains c.args.steps.now < 2 ^ 90 = c.requires.small in
    let sum = c.loop-step.invariant in
    omega arith

pub loop-step-preserved : goal.loop-step-preserved
loop-step-preserved c =
    ap (λ (n : ℕ). n + c.step-item.result.gain) c.loop-step.invariant
    ∙ sym (gains_next c.args.steps.now c.loop-step.step-index c.step-item.result
    c.loop-step-test.true c.step-item.is)
