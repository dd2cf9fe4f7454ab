use Rattle.std.proofs.Common.{arith}
use Rattle.cine_nums.specs.declared.profile.Profile.TheVariants.{TwoK, FourK}
use Rattle.cert_text.proofs.Forms.{refused_on}
use Rattle.cert_text.proofs.LineReading.{profile_reads, profile_refuses_four, profile_refuses_two}
use Rattle.cert_text.proofs.cert_reading.profile.Goals as goal
use Rattle.cert_text.proofs.cert_reading.profile.Goals.{else-at-text-via-then-at-text+else-text-at-eq52}
use Rattle.cert_text.proofs.cert_reading.profile.Goals.{else-at-text-via-else-at-text}

pub returns-then-text-at-eq52-clause-reads : goal.returns-then-text-at-eq52-clause-reads
returns-then-text-at-eq52-clause-reads c =
    profile_reads c.args.text.now c.args.at c.in_ok-end.end FourK c.requires.within
    c.in_ok-end.ensures.stands c.in_ok-end.ensures.reads

pub returns-clause-reads : goal.returns-clause-reads
returns-clause-reads c =
    profile_reads c.args.text.now c.args.at c.in_ok-end-2.end TwoK c.requires.within
    c.in_ok-end-2.ensures.stands c.in_ok-end-2.ensures.reads

pub returns-in_err-end-clause-refused : goal.returns-in_err-end-clause-refused
returns-in_err-end-clause-refused c =
    refused_on _ c.from_residual.result c.in_err-end.field-0.0 c.from_residual.ensures.1
    (profile_refuses_four c.args.text.now c.args.at c.in_err-end.field-0.0 c.if-at-text.true
    c.if-text-at-eq52.true c.in_err-end.ensures.refused)

pub returns-in_err-end-2-clause-refused : goal.returns-in_err-end-2-clause-refused
returns-in_err-end-2-clause-refused c =
    refused_on _ c.from_residual-in_err-end-2.result c.in_err-end-2.field-0.0
    c.from_residual-in_err-end-2.ensures.1
    (profile_refuses_two c.args.text.now c.args.at c.in_err-end-2.field-0.0
    (λ past. elim c.else-at-text.branch [
      | else-at-text-via-then-at-text+else-text-at-eq52 w ↦ w.if-text-at-eq52.false
      | else-at-text-via-else-at-text w ↦ absurd (omega arith)
    ]) c.in_err-end-2.ensures.refused)
