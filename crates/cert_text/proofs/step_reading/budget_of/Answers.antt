use Rattle.std.proofs.Common.{◌≡◌, rules, arith, true}
use Rattle.std.proofs.lemmas.Grind.{common_steps}
use Rattle.cine_nums.specs.Limits.{has_inner}
use Rattle.cine_nums.specs.declared.budget.Budget.TheVariants.{Inner}
use Rattle.cert_text.specs.Words.{budget_word}
use Rattle.cert_text.proofs.Forms.{refused_on, word_is_refused}
use Rattle.cert_text.proofs.StepReading.{misses}
use Rattle.cert_text.proofs.step_reading.budget_of.Goals as goal

pub returns-in_err-end-clause-refused : goal.returns-in_err-end-clause-refused
returns-in_err-end-clause-refused c =
    let allowed : c.args.budget ≡ Inner → has_inner c.args.profile ≡ true
    = first_of (search rules, grind (arith, common_steps)) in
    let named : c.as_bytes.result.now ≡ budget_word c.args.budget = search rules in
    refused_on _ c.from_residual.result c.in_err-end.field-0.0 c.from_residual.ensures.1
    (misses c.args.profile c.args.budget c.args.text.now c.args.at c.in_err-end.field-0.0 allowed
    (word_is_refused c.as_bytes.result.now (budget_word c.args.budget) c.args.text.now c.args.at
    c.in_err-end.field-0.0 named c.in_err-end.ensures.refused))
