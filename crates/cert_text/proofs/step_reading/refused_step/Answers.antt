use Rattle.std.proofs.Common.{subst, sym}
use Rattle.cine_nums.specs.declared.budget.Budget.{Budget}
use Rattle.cert_text.specs.Forms.{Reads}
use Rattle.cert_text.specs.LineForms.{step, step_values}
use Rattle.cert_text.proofs.Forms.{refused_on}
use Rattle.cert_text.proofs.StepReading.{step_reads, step_refuses_word, step_refuses_budget}
use Rattle.cert_text.proofs.StepReading.{step_refuses_numbers}
use Rattle.cert_text.proofs.step_reading.refused_step.Goals as goal

pub returns-clause-reads : goal.returns-clause-reads
returns-clause-reads c =
    subst (λ (b : Budget). Reads (step c.args.profile c.args.least) c.args.text.now c.args.at
    (b, (step_values c.in_ok-refused.refused).1) c.in_ok-refused.end)
    (sym c.in_ok-refused.ensures.budget)
    (step_reads c.args.profile c.args.least c.in_ok-at.ensures.reads c.in_ok-budget.ensures.reads
    c.in_ok-refused.ensures.reads)

pub returns-in_err-at-clause-refused : goal.returns-in_err-at-clause-refused
returns-in_err-at-clause-refused c =
    refused_on _ c.from_residual.result c.in_err-at.field-0.0 c.from_residual.ensures.1
    (λ lo. step_refuses_word c.args.profile c.args.least c.args.text.now c.args.at
    c.in_err-at.field-0.0 lo c.in_err-at.ensures.refused)

pub returns-in_err-budget-clause-refused : goal.returns-in_err-budget-clause-refused
returns-in_err-budget-clause-refused c =
    refused_on _ c.from_residual-in_err-budget.result c.in_err-budget.field-0.0
    c.from_residual-in_err-budget.ensures.1
    (λ lo. step_refuses_budget c.args.profile c.args.least c.in_err-budget.field-0.0
    c.in_ok-at.ensures.reads (c.in_err-budget.ensures.refused lo))

pub returns-in_err-refused-clause-refused : goal.returns-in_err-refused-clause-refused
returns-in_err-refused-clause-refused c =
    refused_on _ c.from_residual-in_err-refused.result c.in_err-refused.field-0.0
    c.from_residual-in_err-refused.ensures.1
    (λ lo. step_refuses_numbers c.args.profile c.args.least c.in_err-refused.field-0.0
    c.in_ok-at.ensures.reads c.in_ok-budget.ensures.reads c.in_err-refused.ensures.refused)
