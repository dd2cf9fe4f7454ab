use Rattle.std.proofs.Common.{subst, sym}
use Rattle.cine_nums.specs.declared.profile.Profile.{Profile}
use Rattle.cert_text.specs.Forms.{Reads}
use Rattle.cert_text.specs.LineForms.{inner_budget}
use Rattle.cert_text.proofs.Forms.{refused_on}
use Rattle.cert_text.proofs.LineReading.{none_reads, inner_reads, inner_refuses}
use Rattle.cert_text.proofs.cert_reading.inner_budget.Goals as goal

pub returns-in-TwoK-clause-reads : goal.returns-in-TwoK-clause-reads
returns-in-TwoK-clause-reads c =
    subst (λ (p : Profile). Reads (inner_budget p) c.args.text.now c.args.at (0, (0, 0)) c.args.at)
    (sym c.in-TwoK.is)
    (none_reads c.args.text.now c.args.at c.requires.within)

pub returns-in_ok-field-in-FourK-clause-reads : goal.returns-in_ok-field-in-FourK-clause-reads
returns-in_ok-field-in-FourK-clause-reads c = inner_reads c.args.profile c.in-FourK.is
    c.in_ok-field-in-FourK.ensures.reads

pub returns-in_err-field-in-FourK-clause-refused : goal.returns-in_err-field-in-FourK-clause-refused
returns-in_err-field-in-FourK-clause-refused c =
    refused_on _ c.from_residual.result c.in_err-field-in-FourK.field-0.0 c.from_residual.ensures.1
    (inner_refuses c.args.profile c.args.text.now c.args.at c.in_err-field-in-FourK.field-0.0
    c.in-FourK.is c.in_err-field-in-FourK.ensures.refused)
