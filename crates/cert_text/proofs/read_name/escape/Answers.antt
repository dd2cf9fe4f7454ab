use Rattle.std.proofs.Common.{ℕ, ◌≡◌, ◌+◌, ◌*◌, ◌/◌, ◌%◌, ◌<◌, arith, ap, subst, sym, ◌∙◌}
use Rattle.std.proofs.lemmas.Bool.{true≢false}
use Rattle.cert_text.specs.Names.{is_plain, hex_digit}
use Rattle.cert_text.specs.Forms.{Refuses}
use Rattle.cert_text.specs.Characters.{CanFollow, escape}
use Rattle.cert_text.specs.declared.cert_refusal.CertRefusal.{CertRefusal}
use Rattle.cert_text.proofs.NameReading.{hex_same, escape_reads, escape_stops_first}
use Rattle.cert_text.proofs.NameReading.{escape_stops_second}
use Rattle.cert_text.proofs.read_name.escape.Goals as goal

pub returns-clause-reads : goal.returns-clause-reads
returns-clause-reads c =
    let byte : ℕ = c.in-Some.high * 16 + c.in-Some-hex_at.low in
    let low_small : c.in-Some-hex_at.low < 16 = c.in-Some-hex_at.ensures.small in
    let high_small : c.in-Some.high < 16 = c.in-Some.ensures.small in
    let high : c.in-Some.high ≡ byte / 16 = omega arith in
    let low : c.in-Some-hex_at.low ≡ byte % 16 = omega arith in
    escape_reads c.args.state c.args.text.now c.args.at byte c.in-Some-hex_at.ensures.within
    (c.in-Some.ensures.digit ∙ ap hex_digit high) (c.in-Some-hex_at.ensures.digit ∙ ap hex_digit
    low)
    (omega arith, (c.in-Some-after_escape.next, c.in-Some-after_escape.ensures.follows))
    c.in-Some-after_escape.ensures.escaped

pub returns-in_default-clause-refused : goal.returns-in_default-clause-refused
returns-in_default-clause-refused c sound =
    subst (λ (e : CertRefusal). Refuses (escape c.args.state) c.args.text.now c.args.at e)
    (sym c.bad_line.ensures)
    (escape_stops_first c.args.state c.args.text.now c.args.at sound c.requires.within
    (λ o has past. c.hex_at.ensures.other c.in_default.is (o / 16) (omega (arith, has.0.0)) past))

pub returns-then-not-begins_escape-clause-refused :
    goal.returns-then-not-begins_escape-clause-refused
returns-then-not-begins_escape-clause-refused c sound =
    subst (λ (e : CertRefusal). Refuses (escape c.args.state) c.args.text.now c.args.at e)
    (sym c.bad_line-then-not-begins_escape.ensures)
    (escape_stops_first c.args.state c.args.text.now c.args.at sound c.requires.within
    (λ o has past same. true≢false (sym (c.begins_escape.ensures.none c.if-not-begins_escape.true o
    (hex_same (o / 16) c.in-Some.high (same ∙ c.in-Some.ensures.digit)) has.0) ∙ has.1)))

pub returns-in_default-hex_at-clause-refused : goal.returns-in_default-hex_at-clause-refused
returns-in_default-hex_at-clause-refused c sound =
    let some = c.begins_escape.ensures.some c.if-not-begins_escape.false in
    subst (λ (e : CertRefusal). Refuses (escape c.args.state) c.args.text.now c.args.at e)
    (sym c.bad_line-in_default-hex_at.ensures)
    (escape_stops_second c.args.state c.args.text.now c.args.at c.in-Some.high some.0
    c.in-Some.ensures.within c.in-Some.ensures.digit
    some.1.0 some.1.1
    (λ o has same past. c.hex_at-2.ensures.other c.in_default-hex_at.is (o % 16) (omega arith)
    past))

pub returns-in_default-after_escape-clause-refused :
    goal.returns-in_default-after_escape-clause-refused
returns-in_default-after_escape-clause-refused c sound =
    let some = c.begins_escape.ensures.some c.if-not-begins_escape.false in
    let byte : ℕ = c.in-Some.high * 16 + c.in-Some-hex_at.low in
    subst (λ (e : CertRefusal). Refuses (escape c.args.state) c.args.text.now c.args.at e)
    (sym c.bad_line-in_default-after_escape.ensures)
    (escape_stops_second c.args.state c.args.text.now c.args.at c.in-Some.high some.0
    c.in-Some.ensures.within c.in-Some.ensures.digit
    some.1.0 some.1.1
    (λ o has same past e.
    let low : o % 16 ≡ c.in-Some-hex_at.low = hex_same (o % 16) c.in-Some-hex_at.low
    (e ∙ c.in-Some-hex_at.ensures.digit) in
    let here : o ≡ byte = omega arith in
    true≢false (sym (c.after_escape.ensures.none c.in_default-after_escape.is
    (subst (CanFollow c.args.state) here has.0))
    ∙ (ap is_plain (sym here) ∙ has.1))))
