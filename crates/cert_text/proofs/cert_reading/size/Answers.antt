use Rattle.std.proofs.Common.{◌≡◌, rules, codes}
use Rattle.cine_nums.specs.Profile.{max_width_of, max_height_of}
use Rattle.cert_text.proofs.Forms.{refused_on, within_reads, within_refuses}
use Rattle.cert_text.proofs.LineReading.{size_reads, size_refuses, size_refuses_height, wide_enough}
use Rattle.cert_text.proofs.LineReading.{high_enough}
use Rattle.cert_text.proofs.cert_reading.size.Goals as goal

pub returns-clause-reads : goal.returns-clause-reads
returns-clause-reads c =
    let wide : c.from.result ≡ max_width_of c.args.profile = search rules in
    let high : c.from-2.result ≡ max_height_of c.args.profile = search rules in
    size_reads c.args.profile (within_reads (codes " ") 1 c.from.result
    (max_width_of c.args.profile) wide c.in_ok-width.ensures.reads)
    (within_reads (codes "x") 1 c.from-2.result (max_height_of c.args.profile) high
    c.in_ok-height.ensures.reads)

pub returns-in_err-width-clause-refused : goal.returns-in_err-width-clause-refused
returns-in_err-width-clause-refused c =
    let wide : c.from.result ≡ max_width_of c.args.profile = search rules in
    refused_on _ c.from_residual.result c.in_err-width.field-0.0 c.from_residual.ensures.1
    (size_refuses c.args.profile c.args.text.now c.args.at c.in_err-width.field-0.0
    (within_refuses (codes " ") 1 c.from.result (max_width_of c.args.profile) c.args.text.now
    c.args.at c.in_err-width.field-0.0 wide
    (wide_enough c.args.profile) c.in_err-width.ensures.refused))

pub returns-in_err-height-clause-refused : goal.returns-in_err-height-clause-refused
returns-in_err-height-clause-refused c =
    let wide : c.from.result ≡ max_width_of c.args.profile = search rules in
    let high : c.from-2.result ≡ max_height_of c.args.profile = search rules in
    refused_on _ c.from_residual-in_err-height.result c.in_err-height.field-0.0
    c.from_residual-in_err-height.ensures.1
    (size_refuses_height c.args.profile c.in_err-height.field-0.0
    (within_reads (codes " ") 1 c.from.result (max_width_of c.args.profile) wide
    c.in_ok-width.ensures.reads)
    (within_refuses (codes "x") 1 c.from-2.result (max_height_of c.args.profile) c.args.text.now
    c.in_ok-width.at c.in_err-height.field-0.0 high
    (high_enough c.args.profile) c.in_err-height.ensures.refused))
