use Rattle.std.proofs.Common.{ℕ, ◌≡◌, ◌+◌, arith, refl, ap, subst, sym, ◌∙◌, get_or}
use Rattle.std.proofs.lemmas.Bool.{true≢false}
use Rattle.cert_text.specs.Names.{is_plain}
use Rattle.cert_text.specs.Forms.{Reads, Refuses}
use Rattle.cert_text.specs.Characters.{CanFollow, escape, name_byte}
use Rattle.cert_text.specs.declared.cert_refusal.CertRefusal.{CertRefusal}
use Rattle.cert_text.proofs.Forms.{refused_on}
use Rattle.cert_text.proofs.NameReading.{name_byte_plain, name_byte_escape, name_byte_refuses}
use Rattle.cert_text.proofs.NameReading.{name_byte_stops, none_follows}
use Rattle.cert_text.proofs.read_name.name_byte.Goals as goal

pub returns-clause-reads : goal.returns-clause-reads
returns-clause-reads c =
    name_byte_plain c.args.state c.args.text.now c.args.at (get_or c.args.text.now c.args.at 0)
    (omega arith) refl
    (sym c.is_plain.ensures ∙ c.if-not-is_plain.false)
    (omega (arith, c.type_inv.text c.args.at), (c.in-Some.next, sym c.after.ensures ∙ c.in-Some.is))

pub returns-then-at-text-clause-refused : goal.returns-then-at-text-clause-refused
returns-then-at-text-clause-refused c sound =
    subst (λ (e : CertRefusal). Refuses (name_byte c.args.state) c.args.text.now c.args.at e)
    (sym c.bad_line.ensures)
    (name_byte_stops c.args.state c.args.text.now c.args.at sound c.requires.within
    (λ past e. omega arith) (λ o follow plain past e. omega arith))

pub returns-in_err-byte-clause-refused : goal.returns-in_err-byte-clause-refused
returns-in_err-byte-clause-refused c =
    refused_on _ c.from_residual.result c.in_err-byte.field-0.0 c.from_residual.ensures.1
    (λ sound. name_byte_refuses c.args.state c.args.text.now c.args.at c.in_err-byte.field-0.0
    (omega arith) c.if-byte-eq37.true
    (c.in_err-byte.ensures.refused sound))

pub returns-then-byte-eq37-clause-reads : goal.returns-then-byte-eq37-clause-reads
returns-then-byte-eq37-clause-reads c =
    let end : c.args.at + 1 + 2 ≡ c.args.at + 3 = omega arith in
    name_byte_escape c.args.state c.args.text.now c.args.at c.in_ok-byte.byte (c.args.at + 3)
    (omega arith) c.if-byte-eq37.true
    (subst (λ (e : ℕ). Reads (escape c.args.state) c.args.text.now (c.args.at + 1) c.in_ok-byte.byte
    e) end c.in_ok-byte.ensures.reads)

pub returns-then-not-is_plain-clause-refused : goal.returns-then-not-is_plain-clause-refused
returns-then-not-is_plain-clause-refused c sound =
    subst (λ (e : CertRefusal). Refuses (name_byte c.args.state) c.args.text.now c.args.at e)
    (sym c.bad_line-then-not-is_plain.ensures)
    (name_byte_stops c.args.state c.args.text.now c.args.at sound c.requires.within
    (λ past e. c.if-byte-eq37.false (sym e))
    (λ o follow plain past e. true≢false
    (sym plain ∙ (ap is_plain e ∙ (sym c.is_plain.ensures ∙ c.if-not-is_plain.true)))))

pub returns-in_default-clause-refused : goal.returns-in_default-clause-refused
returns-in_default-clause-refused c sound =
    subst (λ (e : CertRefusal). Refuses (name_byte c.args.state) c.args.text.now c.args.at e)
    (sym c.bad_line-in_default.ensures)
    (name_byte_stops c.args.state c.args.text.now c.args.at sound c.requires.within
    (λ past e. c.if-byte-eq37.false (sym e))
    (λ o follow plain past e. none_follows c.args.state (get_or c.args.text.now c.args.at 0)
    c.after.result c.after.ensures c.in_default.is
    (subst (CanFollow c.args.state) e follow)))
