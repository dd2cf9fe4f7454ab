use Rattle.std.proofs.Common.{◌≡◌, ◌-◌, ◌^◌, rules, arith, codes}
use Rattle.cert_text.proofs.Forms.{refused_on, within_reads, within_refuses}
use Rattle.cert_text.proofs.LineReading.{sums_read, sums_refuse_passes, sums_refuse_empty}
use Rattle.cert_text.proofs.LineReading.{sums_refuse_distortion, sums_refuse_gap}
use Rattle.cert_text.proofs.cert_reading.sums.Goals as goal

pub returns-clause-reads : goal.returns-clause-reads
returns-clause-reads c =
    let most : c.from.result ≡ 2 ^ 64 - 1 = search rules in
    sums_read (within_reads (codes " passes=") 0 c.from.result (2 ^ 64 - 1) most
    c.in_ok-passes.ensures.reads)
    c.in_ok-undecoded.ensures.reads c.in_ok-distortion.ensures.reads c.in_ok-gap.ensures.reads

pub returns-in_err-passes-clause-refused : goal.returns-in_err-passes-clause-refused
returns-in_err-passes-clause-refused c =
    let most : c.from.result ≡ 2 ^ 64 - 1 = search rules in
    refused_on _ c.from_residual.result c.in_err-passes.field-0.0 c.from_residual.ensures.1
    (sums_refuse_passes c.args.text.now c.args.at c.in_err-passes.field-0.0
    (within_refuses (codes " passes=") 0 c.from.result (2 ^ 64 - 1) c.args.text.now c.args.at
    c.in_err-passes.field-0.0 most (omega arith) c.in_err-passes.ensures.refused))

pub returns-in_err-undecoded-clause-refused : goal.returns-in_err-undecoded-clause-refused
returns-in_err-undecoded-clause-refused c =
    let most : c.from.result ≡ 2 ^ 64 - 1 = search rules in
    refused_on _ c.from_residual-in_err-undecoded.result c.in_err-undecoded.field-0.0
    c.from_residual-in_err-undecoded.ensures.1
    (sums_refuse_empty c.in_err-undecoded.field-0.0 (within_reads (codes " passes=") 0 c.from.result
    (2 ^ 64 - 1) most c.in_ok-passes.ensures.reads)
    (c.in_err-undecoded.ensures.refused (omega arith)))

pub returns-in_err-distortion-clause-refused : goal.returns-in_err-distortion-clause-refused
returns-in_err-distortion-clause-refused c =
    let most : c.from.result ≡ 2 ^ 64 - 1 = search rules in
    refused_on _ c.from_residual-in_err-distortion.result c.in_err-distortion.field-0.0
    c.from_residual-in_err-distortion.ensures.1
    (sums_refuse_distortion c.in_err-distortion.field-0.0 (within_reads (codes " passes=") 0
    c.from.result (2 ^ 64 - 1) most c.in_ok-passes.ensures.reads)
    c.in_ok-undecoded.ensures.reads (c.in_err-distortion.ensures.refused (omega arith)))

pub returns-in_err-gap-clause-refused : goal.returns-in_err-gap-clause-refused
returns-in_err-gap-clause-refused c =
    let most : c.from.result ≡ 2 ^ 64 - 1 = search rules in
    refused_on _ c.from_residual-in_err-gap.result c.in_err-gap.field-0.0
    c.from_residual-in_err-gap.ensures.1
    (sums_refuse_gap c.in_err-gap.field-0.0 (within_reads (codes " passes=") 0 c.from.result
    (2 ^ 64 - 1) most c.in_ok-passes.ensures.reads)
    c.in_ok-undecoded.ensures.reads c.in_ok-distortion.ensures.reads
    (c.in_err-gap.ensures.refused (omega arith)))
