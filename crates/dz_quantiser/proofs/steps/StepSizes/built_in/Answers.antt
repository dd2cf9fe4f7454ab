use Rattle.std.proofs.Common.{rules, ◌+◌, ◌-◌, arith, ◌∙◌}
use Rattle.dz_quantiser.proofs.BuiltIn.{three_more, built_in_usable}
use Rattle.dz_quantiser.proofs.steps.StepSizes.built_in.Goals as goal

pub loop-done-preserved : goal.loop-done-preserved
loop-done-preserved c = record {
  count = omega arith;
  rest =
      rw (c.push-in-loop-done-3.ensures.items, c.push-in-loop-done-2.ensures.items, c.push-in-loop-done.ensures.items)
      (three_more c.loop-done.bands.items c.built_in_step-step.result
      (c.levels-levels.result - c.loop-done.done) (c.levels-levels.result - (c.loop-done.done + 1))
      c.built_in_step-step.ensures (omega arith)
      ∙ c.loop-done.invariant.rest);
}

pub returns-clause-usable : goal.returns-clause-usable
returns-clause-usable c = built_in_usable c.args.profile _ (search rules) (search rules)
