use Rattle.std.proofs.Common.{ℕ, ◌≡◌, ◌≢◌, ◌+◌, ◌<◌, ◌≤◌, [], arith, ap, length, get_or}
use Rattle.budget_duals.specs.Held.{place_of}
use Rattle.cert_text.proofs.Forms.{refused_on}
use Rattle.cert_text.proofs.Stands.{stands_byte}
use Rattle.cert_text.proofs.StepReading.{steps_begun, steps_pushed, steps_refuse_pushed}
use Rattle.cert_text.proofs.StepReading.{steps_ended, steps_none, steps_refuse_step}
use Rattle.cert_text.proofs.StepReading.{steps_refuse_end}
use Rattle.cert_text.proofs.step_reading.refused_steps.Goals as goal
use Rattle.cert_text.proofs.step_reading.refused_steps.Goals.{else-end-text-via-then-end-text+else-text-end-eq10}
use Rattle.cert_text.proofs.step_reading.refused_steps.Goals.{else-end-text-via-else-end-text}

pub loop-least-init : goal.loop-least-init
loop-least-init c =
    let none : length c.new-refused.result.items ≡ 0 = ap length c.new-refused.ensures in
    record {
      within = c.requires.within;
      few = omega arith;
      reads = steps_begun c.args.profile c.new-refused.result.items c.new-refused.ensures;
      refuses = λ r s. s;
    }

pub loop-least-preserved : goal.loop-least-preserved
loop-least-preserved c =
    let other : c.loop-least.end < length c.args.text.now → get_or c.args.text.now c.loop-least.end
    0 ≢ 10
    = elim c.else-end-text.branch [
      | else-end-text-via-then-end-text+else-text-end-eq10 w ↦ λ past. w.if-text-end-eq10.false
      | else-end-text-via-else-end-text w ↦ λ past. absurd (omega arith)
    ] in
    let least : c.loop-least.least ≤ place_of c.in_ok-step.step.budget
    = c.in_ok-step.ensures.reads.has.0.0 in
    let place : c.place_of-least.result + 1 ≡ place_of c.in_ok-step.step.budget + 1
    = ap (λ (k : ℕ). k + 1) c.place_of-least.ensures in
    let few : length c.loop-least.refused.items ≤ c.loop-least.least = c.loop-least.invariant.few in
    let long : length c.push.new.self.items ≡ length c.loop-least.refused.items + 1
    = c.push.ensures.len in
    record {
      within = c.in_ok-step.ensures.reads.within;
      few = omega arith;
      reads = steps_pushed c.args.profile c.loop-least.least (c.place_of-least.result + 1)
          c.loop-least.refused.items c.push.new.self.items
          c.in_ok-step.step c.push.ensures.items place other c.in_ok-step.ensures.reads
          c.loop-least.invariant.reads;
      refuses = λ r s. c.loop-least.invariant.refuses r
          (steps_refuse_pushed c.args.profile c.loop-least.least (c.place_of-least.result + 1)
          c.in_ok-step.step r place other
          c.in_ok-step.ensures.reads s);
    }

pub returns-then-text-end-eq10-clause-reads : goal.returns-then-text-end-eq10-clause-reads
returns-then-text-end-eq10-clause-reads c =
    steps_ended c.args.profile c.loop-least.refused.items
    (c.loop-least.invariant.reads [] (c.loop-least.end + 1)
    (steps_none c.args.profile c.loop-least.least c.args.text.now c.loop-least.end
    (c.loop-least.end + 1) c.loop-least.invariant.within
    (stands_byte c.args.text.now c.loop-least.end 10 c.if-end-text.true c.if-text-end-eq10.true)))

pub returns-in_err-step-clause-refused : goal.returns-in_err-step-clause-refused
returns-in_err-step-clause-refused c =
    let other : c.loop-least.end < length c.args.text.now → get_or c.args.text.now c.loop-least.end
    0 ≢ 10
    = elim c.else-end-text.branch [
      | else-end-text-via-then-end-text+else-text-end-eq10 w ↦ λ past. w.if-text-end-eq10.false
      | else-end-text-via-else-end-text w ↦ λ past. absurd (omega arith)
    ] in
    refused_on _ c.from_residual.result c.in_err-step.field-0.0 c.from_residual.ensures.1
    (c.loop-least.invariant.refuses c.in_err-step.field-0.0
    (steps_refuse_step c.args.profile c.loop-least.least c.args.text.now c.loop-least.end
    c.in_err-step.field-0.0 other
    (c.in_err-step.ensures.refused (omega arith))))

pub returns-in_err-end-clause-refused : goal.returns-in_err-end-clause-refused
returns-in_err-end-clause-refused c =
    refused_on _ c.from_residual-in_err-end.result c.in_err-end.field-0.0
    c.from_residual-in_err-end.ensures.1
    (c.loop-least.invariant.refuses c.in_err-end.field-0.0
    (steps_refuse_end c.args.profile c.loop-least.least c.args.text.now c.loop-least.end
    c.in_err-end.field-0.0 c.loop-least-test.false
    c.in_err-end.ensures.refused))

pub returns-clause-reads : goal.returns-clause-reads
returns-clause-reads c =
    steps_ended c.args.profile c.loop-least.refused.items
    (c.loop-least.invariant.reads [] c.in_ok-end.end
    (steps_none c.args.profile c.loop-least.least c.args.text.now c.loop-least.end c.in_ok-end.end
    c.loop-least.invariant.within
    c.in_ok-end.ensures.stands))
