use Rattle.std.proofs.Common.{◌≡◌, max, arith, subst, ap, ◌∙◌, inl, inr}
use Rattle.std.proofs.lemmas.Bool.{cases_lt}
use Rattle.cert_text.specs.LineForms.{MissesAt, Misses}
use Rattle.cert_text.specs.declared.cert_refusal.CertRefusal.{CertRefusal}
use Rattle.cert_text.proofs.StepReading.{step_budget_reads, tried_more}
use Rattle.cert_text.proofs.step_reading.budget.Goals as goal

pub loop-place-preserved : goal.loop-place-preserved
loop-place-preserved c =
    let larger : c.max-furthest.result ≡ max c.loop-place.furthest c.in-Err-BadLine.found
    = c.max-furthest.ensures ∙ ap (max c.loop-place.furthest) c.in-Err-BadLine.found-is in
    let missed : MissesAt c.args.profile c.budget_at-budget.result c.args.text.now c.args.at
    c.in-Err-BadLine.found
    = subst (λ (e : CertRefusal). Misses c.args.profile c.budget_at-budget.result c.args.text.now
    c.args.at e) c.in-Err-BadLine.field-0-is c.in-Err-BadLine.ensures.refused in
    tried_more c.args.profile c.args.least c.args.text.now c.args.at c.loop-place.place
    c.loop-place.furthest c.max-furthest.result
    c.in-Err-BadLine.found c.budget_at-budget.result c.loop-place.invariant
    c.budget_at-budget.ensures (omega (arith, c.loop-place.auto.place)) missed
    (omega arith) (omega arith) (elim (cases_lt c.loop-place.furthest c.in-Err-BadLine.found) [
      | inl less ↦ inr (omega arith)
      | inr past ↦ inl (omega arith)
    ])

pub returns-in-Ok-clause-reads : goal.returns-in-Ok-clause-reads
returns-in-Ok-clause-reads c =
    step_budget_reads c.args.profile c.args.least c.args.text.now c.args.at c.in-Ok.end
    c.budget_at-budget.result c.requires.within
    c.in-Ok.ensures.stands (omega (arith, c.loop-place.auto.place, c.budget_at-budget.ensures))
    c.in-Ok.ensures.inner
