use Rattle.std.proofs.Common.{arith, subst, sym, ap, ◌∙◌, drop, decimal}
use Rattle.cert_text.specs.LineForms.{other_count, counts}
use Rattle.cert_text.specs.Stands.{digits_before}
use Rattle.cert_text.specs.Forms.{Refuses}
use Rattle.cert_text.specs.declared.cert_refusal.CertRefusal.TheVariants.{BadLine}
use Rattle.cert_text.specs.declared.cert_refusal.CertRefusal.{CertRefusal}
use Rattle.cert_text.proofs.Forms.{refused_on}
use Rattle.cert_text.proofs.Digits.{none_other}
use Rattle.cert_text.proofs.StepReading.{other_reads, other_stops, counts_read}
use Rattle.cert_text.proofs.StepReading.{counts_refuse_before, counts_refuse_colon}
use Rattle.cert_text.proofs.StepReading.{counts_refuse_after}
use Rattle.cert_text.proofs.step_reading.counts.Goals as goal

pub returns-clause-reads : goal.returns-clause-reads
returns-clause-reads c =
    counts_read c.in_ok-from.ensures.reads c.in_ok-at.ensures.reads
    (other_reads c.args.text.now c.in_ok-at.at c.in_ok-to.end c.in_ok-from.from c.in_ok-to.to
    c.in_ok-at.ensures.reads.within
    c.in_ok-to.ensures.stands c.in_ok-to.ensures.whole c.in_ok-to.ensures.most c.if-from-to.false)

pub returns-in_err-from-clause-refused : goal.returns-in_err-from-clause-refused
returns-in_err-from-clause-refused c =
    refused_on _ c.from_residual.result c.in_err-from.field-0.0 c.from_residual.ensures.1
    (counts_refuse_before c.args.text.now c.args.at c.in_err-from.field-0.0
    (c.in_err-from.ensures.refused (omega arith)))

pub returns-in_err-at-clause-refused : goal.returns-in_err-at-clause-refused
returns-in_err-at-clause-refused c =
    refused_on _ c.from_residual-in_err-at.result c.in_err-at.field-0.0
    c.from_residual-in_err-at.ensures.1
    (counts_refuse_colon c.in_err-at.field-0.0 c.in_ok-from.ensures.reads
    c.in_err-at.ensures.refused)

pub returns-in_err-to-clause-refused : goal.returns-in_err-to-clause-refused
returns-in_err-to-clause-refused c =
    refused_on _ c.from_residual-in_err-to.result c.in_err-to.field-0.0
    c.from_residual-in_err-to.ensures.1
    (counts_refuse_after c.in_err-to.field-0.0 c.in_ok-from.ensures.reads c.in_ok-at.ensures.reads
    (subst (λ (e : CertRefusal). Refuses (other_count c.in_ok-from.from) c.args.text.now
    c.in_ok-at.at e) (sym c.in_err-to.ensures.bad)
    (other_stops c.args.text.now c.in_ok-at.at c.in_ok-from.from c.in_ok-at.ensures.reads.within
    (λ n hi differ. c.in_err-to.ensures.none n (omega arith) hi))))

pub returns-then-from-to-clause-refused : goal.returns-then-from-to-clause-refused
returns-then-from-to-clause-refused c =
    subst (λ (e : CertRefusal). Refuses counts c.args.text.now c.args.at e) (sym c.bad_line.ensures)
    (counts_refuse_after (BadLine c.in_ok-at.at) c.in_ok-from.ensures.reads c.in_ok-at.ensures.reads
    (other_stops c.args.text.now c.in_ok-at.at c.in_ok-from.from c.in_ok-at.ensures.reads.within
    (λ n hi differ. none_other (digits_before (drop c.in_ok-at.at c.args.text.now))
    c.in_ok-from.from n
    (omega (arith, c.in_ok-from.ensures.most)) (omega arith) (c.in_ok-to.ensures.whole
    ∙ ap decimal (sym c.if-from-to.true)) differ)))
