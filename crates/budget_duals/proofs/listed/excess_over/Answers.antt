-- Each step adds less than 2^96.
use Rattle.std.proofs.Common.{ℕ, ◌*◌, ◌+◌, ◌<◌, take, arith, sym, ap, ◌∙◌}
use Rattle.std.proofs.lemmas.List.{length-take}
use Rattle.rd_hulls.specs.declared.step.Step.{Step}
use Rattle.allocation_bound.specs.Steps.{excess as excess_of, scale}
use Rattle.budget_duals.proofs.ListedLemmas.{excess_short, excess_next, each_take}
use Rattle.budget_duals.proofs.listed.excess_over.Goals as goal

pub overflow_add-sum : goal.overflow_add-sum
overflow_add-sum c =
    let short = excess_short c.args.multiplier (take c.loop-step.step-index c.args.steps.now)
    (each_take (λ (s : Step). scale * s.gain < (c.args.multiplier + 1) * s.len) _ _
    c.requires.untaken) in
    omega (
      arith,
      short,
      length-take c.loop-step.step-index c.args.steps.now,
      c.step-item.result.wide,
    )

pub loop-step-preserved : goal.loop-step-preserved
loop-step-preserved c =
    ap (λ (n : ℕ). n + c.saturating_sub-sum.result) c.loop-step.invariant
    ∙ (ap (λ (n : ℕ). excess_of c.args.multiplier (take c.loop-step.step-index c.args.steps.now)
    + n) c.saturating_sub-sum.ensures
    ∙ sym (excess_next c.args.multiplier c.args.steps.now c.loop-step.step-index c.step-item.result
    c.loop-step-test.true c.step-item.is))
