use Rattle.std.proofs.Common.{◌≡◌, ◌-◌, ◌^◌, rules, arith, codes}
use Rattle.cert_text.proofs.Forms.{refused_on, within_reads, within_refuses}
use Rattle.cert_text.proofs.StepReading.{numbers_read, numbers_refuse_block, numbers_refuse_counts}
use Rattle.cert_text.proofs.StepReading.{numbers_refuse_len}
use Rattle.cert_text.proofs.StepReading.{numbers_refuse_grow, numbers_refuse_gain}
use Rattle.cert_text.proofs.StepReading.{numbers_refuse_price}
use Rattle.cert_text.proofs.step_reading.step.Goals as goal

pub returns-clause-reads : goal.returns-clause-reads
returns-clause-reads c =
    let block : c.from.result ≡ 2 ^ 32 - 1 = search rules in
    let grow : c.from-2.result ≡ 2 ^ 32 - 1 = search rules in
    let gain : c.from-3.result ≡ 2 ^ 64 - 1 = search rules in
    numbers_read (within_reads (codes ":") 0 c.from.result (2 ^ 32 - 1) block
    c.in_ok-block.ensures.reads) c.in_ok-from.ensures.reads c.in_ok-len.ensures.reads
    (within_reads (codes ":") 0 c.from-2.result (2 ^ 32 - 1) grow c.in_ok-grow.ensures.reads)
    (within_reads (codes ":") 1 c.from-3.result (2 ^ 64 - 1) gain c.in_ok-gain.ensures.reads)
    c.in_ok-price.ensures.reads

pub returns-in_err-block-clause-refused : goal.returns-in_err-block-clause-refused
returns-in_err-block-clause-refused c =
    let block : c.from.result ≡ 2 ^ 32 - 1 = search rules in
    refused_on _ c.from_residual.result c.in_err-block.field-0.0 c.from_residual.ensures.1
    (numbers_refuse_block c.args.text.now c.args.at c.in_err-block.field-0.0
    (within_refuses (codes ":") 0 c.from.result (2 ^ 32 - 1) c.args.text.now c.args.at
    c.in_err-block.field-0.0 block (omega arith) c.in_err-block.ensures.refused))

pub returns-in_err-from-clause-refused : goal.returns-in_err-from-clause-refused
returns-in_err-from-clause-refused c =
    let block : c.from.result ≡ 2 ^ 32 - 1 = search rules in
    refused_on _ c.from_residual-in_err-from.result c.in_err-from.field-0.0
    c.from_residual-in_err-from.ensures.1
    (numbers_refuse_counts c.in_err-from.field-0.0 (within_reads (codes ":") 0 c.from.result
    (2 ^ 32 - 1) block c.in_ok-block.ensures.reads) c.in_err-from.ensures.refused)

pub returns-in_err-len-clause-refused : goal.returns-in_err-len-clause-refused
returns-in_err-len-clause-refused c =
    let block : c.from.result ≡ 2 ^ 32 - 1 = search rules in
    refused_on _ c.from_residual-in_err-len.result c.in_err-len.field-0.0
    c.from_residual-in_err-len.ensures.1
    (numbers_refuse_len c.in_err-len.field-0.0 (within_reads (codes ":") 0 c.from.result
    (2 ^ 32 - 1) block c.in_ok-block.ensures.reads) c.in_ok-from.ensures.reads
    (c.in_err-len.ensures.refused (omega arith)))

pub returns-in_err-grow-clause-refused : goal.returns-in_err-grow-clause-refused
returns-in_err-grow-clause-refused c =
    let block : c.from.result ≡ 2 ^ 32 - 1 = search rules in
    let grow : c.from-2.result ≡ 2 ^ 32 - 1 = search rules in
    refused_on _ c.from_residual-in_err-grow.result c.in_err-grow.field-0.0
    c.from_residual-in_err-grow.ensures.1
    (numbers_refuse_grow c.in_err-grow.field-0.0 (within_reads (codes ":") 0 c.from.result
    (2 ^ 32 - 1) block c.in_ok-block.ensures.reads) c.in_ok-from.ensures.reads
    c.in_ok-len.ensures.reads
    (within_refuses (codes ":") 0 c.from-2.result (2 ^ 32 - 1) c.args.text.now c.in_ok-len.at
    c.in_err-grow.field-0.0 grow (omega arith) c.in_err-grow.ensures.refused))

pub returns-in_err-gain-clause-refused : goal.returns-in_err-gain-clause-refused
returns-in_err-gain-clause-refused c =
    let block : c.from.result ≡ 2 ^ 32 - 1 = search rules in
    let grow : c.from-2.result ≡ 2 ^ 32 - 1 = search rules in
    let gain : c.from-3.result ≡ 2 ^ 64 - 1 = search rules in
    refused_on _ c.from_residual-in_err-gain.result c.in_err-gain.field-0.0
    c.from_residual-in_err-gain.ensures.1
    (numbers_refuse_gain c.in_err-gain.field-0.0 (within_reads (codes ":") 0 c.from.result
    (2 ^ 32 - 1) block c.in_ok-block.ensures.reads) c.in_ok-from.ensures.reads
    c.in_ok-len.ensures.reads
    (within_reads (codes ":") 0 c.from-2.result (2 ^ 32 - 1) grow c.in_ok-grow.ensures.reads)
    (within_refuses (codes ":") 1 c.from-3.result (2 ^ 64 - 1) c.args.text.now c.in_ok-grow.at
    c.in_err-gain.field-0.0 gain (omega arith) c.in_err-gain.ensures.refused))

pub returns-in_err-price-clause-refused : goal.returns-in_err-price-clause-refused
returns-in_err-price-clause-refused c =
    let block : c.from.result ≡ 2 ^ 32 - 1 = search rules in
    let grow : c.from-2.result ≡ 2 ^ 32 - 1 = search rules in
    let gain : c.from-3.result ≡ 2 ^ 64 - 1 = search rules in
    refused_on _ c.from_residual-in_err-price.result c.in_err-price.field-0.0
    c.from_residual-in_err-price.ensures.1
    (numbers_refuse_price c.in_err-price.field-0.0 (within_reads (codes ":") 0 c.from.result
    (2 ^ 32 - 1) block c.in_ok-block.ensures.reads) c.in_ok-from.ensures.reads
    c.in_ok-len.ensures.reads
    (within_reads (codes ":") 0 c.from-2.result (2 ^ 32 - 1) grow c.in_ok-grow.ensures.reads)
    (within_reads (codes ":") 1 c.from-3.result (2 ^ 64 - 1) gain c.in_ok-gain.ensures.reads)
    (c.in_err-price.ensures.refused (omega arith)))
