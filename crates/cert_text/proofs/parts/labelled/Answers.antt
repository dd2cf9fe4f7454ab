use Rattle.std.proofs.Common.{arith, subst, sym}
use Rattle.cert_text.specs.Forms.{number, Refuses}
use Rattle.cert_text.specs.declared.cert_refusal.CertRefusal.{CertRefusal}
use Rattle.cert_text.proofs.Forms.{after_reads, after_refuses, word_refuses, number_reads}
use Rattle.cert_text.proofs.Forms.{number_stops, refused_on}
use Rattle.cert_text.proofs.parts.labelled.Goals as goal

pub returns-clause-reads : goal.returns-clause-reads
returns-clause-reads c =
    after_reads c.args.label.now (number c.args.least c.args.most) c.in_ok-at.ensures.reads
    (number_reads c.args.text.now c.in_ok-at.at c.in_ok-value.end c.args.least c.args.most
    c.in_ok-value.value
    c.in_ok-at.ensures.reads.within (omega arith) c.in_ok-value.ensures.stands
    c.in_ok-value.ensures.whole
    c.in_ok-value.ensures.least c.in_ok-value.ensures.most)

pub returns-in_err-at-clause-refused : goal.returns-in_err-at-clause-refused
returns-in_err-at-clause-refused c =
    refused_on _ c.from_residual.result c.in_err-at.field-0.0 c.from_residual.ensures.1
    (λ h. word_refuses c.args.label.now (number c.args.least c.args.most) c.args.text.now c.args.at
    c.in_err-at.field-0.0
    (c.args.least, (omega arith, h)) c.in_err-at.ensures.refused)

pub returns-in_err-value-clause-refused : goal.returns-in_err-value-clause-refused
returns-in_err-value-clause-refused c =
    refused_on _ c.from_residual-in_err-value.result c.in_err-value.field-0.0
    c.from_residual-in_err-value.ensures.1
    (λ h. after_refuses c.args.label.now (number c.args.least c.args.most) c.in_err-value.field-0.0
    c.in_ok-at.ensures.reads
    (subst (λ (e : CertRefusal). Refuses (number c.args.least c.args.most) c.args.text.now
    c.in_ok-at.at e) (sym c.in_err-value.ensures.bad)
    (number_stops c.args.text.now c.in_ok-at.at c.args.least c.args.most
    c.in_ok-at.ensures.reads.within h c.in_err-value.ensures.none)))
