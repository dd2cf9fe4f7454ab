use Rattle.std.proofs.Common.{◌≡◌, ◌-◌, ◌^◌, rules, arith, codes}
use Rattle.cine_nums.specs.Limits.{limit_of}
use Rattle.cert_text.specs.Words.{budget_word}
use Rattle.cert_text.proofs.Forms.{refused_on, within_reads, within_refuses, word_is}
use Rattle.cert_text.proofs.Forms.{word_is_refused}
use Rattle.cert_text.proofs.LineReading.{budget_reads, budget_refuses_space, budget_refuses_word}
use Rattle.cert_text.proofs.LineReading.{budget_refuses_held}
use Rattle.cert_text.proofs.LineReading.{budget_refuses_limit, budget_refuses_multiplier}
use Rattle.cert_text.proofs.cert_reading.budget.Goals as goal

pub returns-clause-reads : goal.returns-clause-reads
returns-clause-reads c =
    let named : c.as_bytes.result.now ≡ budget_word c.args.budget = search rules in
    let large : c.from.result ≡ 2 ^ 32 - 1 = search rules in
    let most : c.from-2.result ≡ limit_of c.args.profile c.args.budget = search rules in
    budget_reads c.args.profile c.args.budget c.in_ok-at.ensures.reads
    (word_is c.as_bytes.result.now (budget_word c.args.budget) named c.in_ok-at-2.ensures.reads)
    (within_reads (codes "=") 0 c.from.result (2 ^ 32 - 1) large c.in_ok-held.ensures.reads)
    (within_reads (codes "/") 0 c.from-2.result (limit_of c.args.profile c.args.budget) most
    c.in_ok-limit.ensures.reads)
    c.in_ok-multiplier.ensures.reads

pub returns-in_err-at-clause-refused : goal.returns-in_err-at-clause-refused
returns-in_err-at-clause-refused c =
    refused_on _ c.from_residual.result c.in_err-at.field-0.0 c.from_residual.ensures.1
    (budget_refuses_space c.args.profile c.args.budget c.args.text.now c.args.at
    c.in_err-at.field-0.0 c.in_err-at.ensures.refused)

pub returns-in_err-at-2-clause-refused : goal.returns-in_err-at-2-clause-refused
returns-in_err-at-2-clause-refused c =
    let named : c.as_bytes.result.now ≡ budget_word c.args.budget = search rules in
    refused_on _ c.from_residual-in_err-at-2.result c.in_err-at-2.field-0.0
    c.from_residual-in_err-at-2.ensures.1
    (budget_refuses_word c.args.profile c.args.budget c.in_err-at-2.field-0.0
    c.in_ok-at.ensures.reads
    (word_is_refused c.as_bytes.result.now (budget_word c.args.budget) c.args.text.now c.in_ok-at.at
    c.in_err-at-2.field-0.0 named c.in_err-at-2.ensures.refused))

pub returns-in_err-held-clause-refused : goal.returns-in_err-held-clause-refused
returns-in_err-held-clause-refused c =
    let named : c.as_bytes.result.now ≡ budget_word c.args.budget = search rules in
    let large : c.from.result ≡ 2 ^ 32 - 1 = search rules in
    refused_on _ c.from_residual-in_err-held.result c.in_err-held.field-0.0
    c.from_residual-in_err-held.ensures.1
    (budget_refuses_held c.args.profile c.args.budget c.in_err-held.field-0.0
    c.in_ok-at.ensures.reads
    (word_is c.as_bytes.result.now (budget_word c.args.budget) named c.in_ok-at-2.ensures.reads)
    (within_refuses (codes "=") 0 c.from.result (2 ^ 32 - 1) c.args.text.now c.in_ok-at-2.at
    c.in_err-held.field-0.0 large (omega arith) c.in_err-held.ensures.refused))

pub returns-in_err-limit-clause-refused : goal.returns-in_err-limit-clause-refused
returns-in_err-limit-clause-refused c =
    let named : c.as_bytes.result.now ≡ budget_word c.args.budget = search rules in
    let large : c.from.result ≡ 2 ^ 32 - 1 = search rules in
    let most : c.from-2.result ≡ limit_of c.args.profile c.args.budget = search rules in
    refused_on _ c.from_residual-in_err-limit.result c.in_err-limit.field-0.0
    c.from_residual-in_err-limit.ensures.1
    (budget_refuses_limit c.args.profile c.args.budget c.in_err-limit.field-0.0
    c.in_ok-at.ensures.reads
    (word_is c.as_bytes.result.now (budget_word c.args.budget) named c.in_ok-at-2.ensures.reads)
    (within_reads (codes "=") 0 c.from.result (2 ^ 32 - 1) large c.in_ok-held.ensures.reads)
    (within_refuses (codes "/") 0 c.from-2.result (limit_of c.args.profile c.args.budget)
    c.args.text.now c.in_ok-held.at c.in_err-limit.field-0.0 most (omega arith)
    c.in_err-limit.ensures.refused))

pub returns-in_err-multiplier-clause-refused : goal.returns-in_err-multiplier-clause-refused
returns-in_err-multiplier-clause-refused c =
    let named : c.as_bytes.result.now ≡ budget_word c.args.budget = search rules in
    let large : c.from.result ≡ 2 ^ 32 - 1 = search rules in
    let most : c.from-2.result ≡ limit_of c.args.profile c.args.budget = search rules in
    refused_on _ c.from_residual-in_err-multiplier.result c.in_err-multiplier.field-0.0
    c.from_residual-in_err-multiplier.ensures.1
    (budget_refuses_multiplier c.args.profile c.args.budget c.in_err-multiplier.field-0.0
    c.in_ok-at.ensures.reads
    (word_is c.as_bytes.result.now (budget_word c.args.budget) named c.in_ok-at-2.ensures.reads)
    (within_reads (codes "=") 0 c.from.result (2 ^ 32 - 1) large c.in_ok-held.ensures.reads)
    (within_reads (codes "/") 0 c.from-2.result (limit_of c.args.profile c.args.budget) most
    c.in_ok-limit.ensures.reads)
    (c.in_err-multiplier.ensures.refused (omega arith)))
