use Rattle.std.proofs.Common.{ℕ, arith, sym, subst, ◌∙◌}
use Rattle.cert_text.specs.LineForms.{IsBadAt}
use Rattle.cert_text.specs.declared.cert_line.CertLine.{CertLine}
use Rattle.cert_text.proofs.Forms.{refused_on}
use Rattle.cert_text.proofs.LineFound.{line_reads, bad_past, same_place}
use Rattle.cert_text.proofs.LineFound.{line_refuses_ok, line_refuses_name, line_refuses_profile}
use Rattle.cert_text.proofs.LineFound.{line_refuses_size, line_refuses_budgets, line_refuses_sums}
use Rattle.cert_text.proofs.LineFound.{line_refuses_steps}
use Rattle.cert_text.proofs.LineSaid.{IsRead, line_is_read}
use Rattle.cert_text.proofs.cert_reading.read_cert.Goals as goal

pub returns : goal.returns
returns c =
    let l : CertLine = record {
      name = c.in_ok-name.name;
      profile = c.in_ok-profile.profile;
      width = c.in_ok-width.width;
      height = c.in_ok-width.height;
      held = c.held_of.result;
      limits = c.limits_of.result;
      passes = c.in_ok-sums.sums.passes;
      empty = c.in_ok-sums.sums.undecoded;
      certificate = record {
        multipliers = c.multipliers_of.result;
        gap = c.in_ok-sums.sums.gap;
        distortion = c.in_ok-sums.sums.distortion;
        refused = c.in_ok-refused.refused;
      };
    } in
    let read : IsRead c.args.text.now l
    = line_is_read l c.in_ok-fields.fields c.held_of.ensures c.limits_of.ensures
    c.multipliers_of.ensures
    (line_reads c.in_ok-at.ensures.reads c.in_ok-name.ensures.reads c.in_ok-profile.ensures.reads
    c.in_ok-width.ensures.reads
    c.in_ok-fields.ensures.reads c.in_ok-sums.ensures.reads c.in_ok-refused.ensures.reads)
    (omega arith) in
    record { found = read.found; said = read.said; only = read.only; bad = tt }

pub returns-then-end-text-clause-bad : goal.returns-then-end-text-clause-bad
returns-then-end-text-clause-bad c place is =
    subst (λ (at : ℕ). IsBadAt c.args.text.now at) (same_place (sym c.bad_line.ensures ∙ is))
    (bad_past (line_reads c.in_ok-at.ensures.reads c.in_ok-name.ensures.reads
    c.in_ok-profile.ensures.reads c.in_ok-width.ensures.reads
    c.in_ok-fields.ensures.reads c.in_ok-sums.ensures.reads c.in_ok-refused.ensures.reads)
    c.if-end-text.true)

pub returns-in_err-at-clause-bad : goal.returns-in_err-at-clause-bad
returns-in_err-at-clause-bad c =
    refused_on _ c.from_residual.result c.in_err-at.field-0.0 c.from_residual.ensures.1
    (line_refuses_ok c.args.text.now c.in_err-at.field-0.0 c.in_err-at.ensures.refused)

pub returns-in_err-name-clause-bad : goal.returns-in_err-name-clause-bad
returns-in_err-name-clause-bad c =
    refused_on _ c.from_residual-in_err-name.result c.in_err-name.field-0.0
    c.from_residual-in_err-name.ensures.1
    (line_refuses_name c.in_err-name.field-0.0 c.in_ok-at.ensures.reads
    c.in_err-name.ensures.refused)

pub returns-in_err-profile-clause-bad : goal.returns-in_err-profile-clause-bad
returns-in_err-profile-clause-bad c =
    refused_on _ c.from_residual-in_err-profile.result c.in_err-profile.field-0.0
    c.from_residual-in_err-profile.ensures.1
    (line_refuses_profile c.in_err-profile.field-0.0 c.in_ok-at.ensures.reads
    c.in_ok-name.ensures.reads c.in_err-profile.ensures.refused)

pub returns-in_err-width-clause-bad : goal.returns-in_err-width-clause-bad
returns-in_err-width-clause-bad c =
    refused_on _ c.from_residual-in_err-width.result c.in_err-width.field-0.0
    c.from_residual-in_err-width.ensures.1
    (line_refuses_size c.in_err-width.field-0.0 c.in_ok-at.ensures.reads c.in_ok-name.ensures.reads
    c.in_ok-profile.ensures.reads c.in_err-width.ensures.refused)

pub returns-in_err-fields-clause-bad : goal.returns-in_err-fields-clause-bad
returns-in_err-fields-clause-bad c =
    refused_on _ c.from_residual-in_err-fields.result c.in_err-fields.field-0.0
    c.from_residual-in_err-fields.ensures.1
    (line_refuses_budgets c.in_err-fields.field-0.0 c.in_ok-at.ensures.reads
    c.in_ok-name.ensures.reads c.in_ok-profile.ensures.reads c.in_ok-width.ensures.reads
    c.in_err-fields.ensures.refused)

pub returns-in_err-sums-clause-bad : goal.returns-in_err-sums-clause-bad
returns-in_err-sums-clause-bad c =
    refused_on _ c.from_residual-in_err-sums.result c.in_err-sums.field-0.0
    c.from_residual-in_err-sums.ensures.1
    (line_refuses_sums c.in_err-sums.field-0.0 c.in_ok-at.ensures.reads c.in_ok-name.ensures.reads
    c.in_ok-profile.ensures.reads c.in_ok-width.ensures.reads c.in_ok-fields.ensures.reads
    c.in_err-sums.ensures.refused)

pub returns-in_err-refused-clause-bad : goal.returns-in_err-refused-clause-bad
returns-in_err-refused-clause-bad c =
    refused_on _ c.from_residual-in_err-refused.result c.in_err-refused.field-0.0
    c.from_residual-in_err-refused.ensures.1
    (line_refuses_steps c.in_err-refused.field-0.0 c.in_ok-at.ensures.reads
    c.in_ok-name.ensures.reads c.in_ok-profile.ensures.reads c.in_ok-width.ensures.reads
    c.in_ok-fields.ensures.reads c.in_ok-sums.ensures.reads c.in_err-refused.ensures.refused)
