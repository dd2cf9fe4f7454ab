use Rattle.cert_text.proofs.Forms.{refused_on}
use Rattle.cert_text.proofs.LineReading.{budgets_read, budgets_refuse_frame, budgets_refuse_inner}
use Rattle.cert_text.proofs.LineReading.{budgets_refuse_c0, budgets_refuse_c1, budgets_refuse_c2}
use Rattle.cert_text.proofs.cert_reading.budgets.Goals as goal

pub returns-clause-reads : goal.returns-clause-reads
returns-clause-reads c = budgets_read c.args.profile c.in_ok-frame.ensures.reads
    c.in_ok-inner.ensures.reads c.in_ok-c0.ensures.reads c.in_ok-c1.ensures.reads
    c.in_ok-c2.ensures.reads

pub returns-in_err-frame-clause-refused : goal.returns-in_err-frame-clause-refused
returns-in_err-frame-clause-refused c =
    refused_on _ c.from_residual.result c.in_err-frame.field-0.0 c.from_residual.ensures.1
    (budgets_refuse_frame c.args.profile c.args.text.now c.args.at c.in_err-frame.field-0.0
    c.in_err-frame.ensures.refused)

pub returns-in_err-inner-clause-refused : goal.returns-in_err-inner-clause-refused
returns-in_err-inner-clause-refused c =
    refused_on _ c.from_residual-in_err-inner.result c.in_err-inner.field-0.0
    c.from_residual-in_err-inner.ensures.1
    (budgets_refuse_inner c.args.profile c.in_err-inner.field-0.0 c.in_ok-frame.ensures.reads
    c.in_err-inner.ensures.refused)

pub returns-in_err-c0-clause-refused : goal.returns-in_err-c0-clause-refused
returns-in_err-c0-clause-refused c =
    refused_on _ c.from_residual-in_err-c0.result c.in_err-c0.field-0.0
    c.from_residual-in_err-c0.ensures.1
    (budgets_refuse_c0 c.args.profile c.in_err-c0.field-0.0 c.in_ok-frame.ensures.reads
    c.in_ok-inner.ensures.reads c.in_err-c0.ensures.refused)

pub returns-in_err-c1-clause-refused : goal.returns-in_err-c1-clause-refused
returns-in_err-c1-clause-refused c =
    refused_on _ c.from_residual-in_err-c1.result c.in_err-c1.field-0.0
    c.from_residual-in_err-c1.ensures.1
    (budgets_refuse_c1 c.args.profile c.in_err-c1.field-0.0 c.in_ok-frame.ensures.reads
    c.in_ok-inner.ensures.reads c.in_ok-c0.ensures.reads c.in_err-c1.ensures.refused)

pub returns-in_err-c2-clause-refused : goal.returns-in_err-c2-clause-refused
returns-in_err-c2-clause-refused c =
    refused_on _ c.from_residual-in_err-c2.result c.in_err-c2.field-0.0
    c.from_residual-in_err-c2.ensures.1
    (budgets_refuse_c2 c.args.profile c.in_err-c2.field-0.0 c.in_ok-frame.ensures.reads
    c.in_ok-inner.ensures.reads c.in_ok-c0.ensures.reads c.in_ok-c1.ensures.reads
    c.in_err-c2.ensures.refused)
