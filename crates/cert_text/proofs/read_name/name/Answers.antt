use Rattle.std.proofs.Common.{ℕ, ◌≡◌, ◌≢◌, ◌+◌, ◌<◌, List, [], rules, inl, refl, subst}
use Rattle.std.proofs.Common.{sym, length, get_or, string_bytes, IsUtf8}
use Rattle.cert_text.specs.Forms.{Reads, Refuses}
use Rattle.cert_text.specs.LineForms.{name}
use Rattle.cert_text.specs.Characters.{IsSound}
use Rattle.cert_text.specs.declared.cert_refusal.CertRefusal.{CertRefusal}
use Rattle.cert_text.specs.declared.cert_refusal.CertRefusal.TheVariants.{BadLine, Memory}
use Rattle.cert_text.proofs.Forms.{refused_on}
use Rattle.cert_text.proofs.Utf8.{sound_next}
use Rattle.cert_text.proofs.NameReading.{name_begun, name_refuse_begun, name_pushed}
use Rattle.cert_text.proofs.NameReading.{name_refuse_pushed, name_refuse_byte, name_end, name_empty}
use Rattle.cert_text.proofs.NameReading.{name_ended, is_none, is_some_bytes}
use Rattle.cert_text.proofs.read_name.name.Goals as goal

pub loop-state-init : goal.loop-state-init
loop-state-init c = record {
  within = c.requires.within;
  sound = subst IsSound (sym c.between-state.ensures) (inl refl);
  reads = name_begun c.new-bytes.result.items c.between-state.result c.new-bytes.ensures.items
      c.between-state.ensures;
  refuses = λ r s. name_refuse_begun c.new-bytes.result.items c.between-state.result c.args.text.now
      c.args.at r
      c.new-bytes.ensures.items c.between-state.ensures s;
}

pub loop-state-preserved : goal.loop-state-preserved
loop-state-preserved c =
    let other : c.loop-state.state.left ≡ 0 → c.loop-state.end < length c.args.text.now
    → get_or c.args.text.now c.loop-state.end 0 ≢ 32
    = c.is_over.ensures.on c.loop-state-test.true in
    record {
      within = c.in_ok-byte.ensures.reads.within;
      sound = sound_next c.loop-state.state c.in_ok-byte.byte c.in_ok-byte.next
          c.loop-state.invariant.sound c.in_ok-byte.ensures.follows;
      reads = name_pushed c.loop-state.bytes.items c.push.new.self.items c.loop-state.state
          c.in_ok-byte.next c.in_ok-byte.byte
          c.in_ok-push.ensures.items other c.in_ok-byte.ensures.reads c.in_ok-byte.ensures.follows
          c.loop-state.invariant.reads;
      refuses = λ r s. c.loop-state.invariant.refuses r
          (name_refuse_pushed c.loop-state.bytes.items c.push.new.self.items c.loop-state.state
          c.in_ok-byte.next c.in_ok-byte.byte r
          c.in_ok-push.ensures.items other c.in_ok-byte.ensures.reads c.in_ok-byte.ensures.follows
          s);
    }

pub returns-in_err-byte-clause-refused : goal.returns-in_err-byte-clause-refused
returns-in_err-byte-clause-refused c =
    refused_on _ c.from_residual.result c.in_err-byte.field-0.0 c.from_residual.ensures.1
    (c.loop-state.invariant.refuses c.in_err-byte.field-0.0
    (name_refuse_byte c.loop-state.bytes.items c.loop-state.state c.args.text.now c.loop-state.end
    c.in_err-byte.field-0.0
    c.loop-state.invariant.sound (c.is_over.ensures.on c.loop-state-test.true)
    (c.in_err-byte.ensures.refused c.loop-state.invariant.sound)))

pub returns-in_err-push-clause-refused : goal.returns-in_err-push-clause-refused
returns-in_err-push-clause-refused c =
    refused_on _ c.from_residual-in_err-push.result Memory c.from_residual-in_err-push.ensures.1 tt

pub returns-then-is_empty-clause-refused : goal.returns-then-is_empty-clause-refused
returns-then-is_empty-clause-refused c =
    let over = c.is_over.ensures.over c.loop-state-test.false in
    let none : c.loop-state.bytes.items ≡ []
    = is_none c.loop-state.bytes.items c.loop-state.bytes.len c.is_empty.result (search rules)
    c.is_empty.ensures c.if-is_empty.true in
    subst (λ (e : CertRefusal). Refuses name c.args.text.now c.args.at e) (sym c.bad_line.ensures)
    (c.loop-state.invariant.refuses (BadLine c.loop-state.end)
    (name_empty c.loop-state.bytes.items c.loop-state.state c.args.text.now c.loop-state.end
    c.loop-state.invariant.sound none over.1 over.2))

pub returns-in-Ok-clause-reads : goal.returns-in-Ok-clause-reads
returns-in-Ok-clause-reads c =
    let over = c.is_over.ensures.over c.loop-state-test.false in
    let some : c.loop-state.bytes.items ≢ []
    = is_some_bytes c.loop-state.bytes.items c.loop-state.bytes.len c.is_empty.result (search rules)
    c.is_empty.ensures c.if-is_empty.false in
    let same : string_bytes c.in-Ok.name ≡ c.loop-state.bytes.items = search rules in
    subst (λ (bytes : List ℕ). Reads name c.args.text.now c.args.at bytes (c.loop-state.end + 1))
    (sym same)
    (name_ended c.loop-state.bytes.items (c.loop-state.invariant.reads [] (c.loop-state.end + 1)
    (name_end c.loop-state.bytes.items c.loop-state.state c.args.text.now c.loop-state.end some
    over.0 over.1 over.2)))

pub returns-clause-refused : goal.returns-clause-refused
returns-clause-refused c =
    let over = c.is_over.ensures.over c.loop-state-test.false in
    let some : c.loop-state.bytes.items ≢ []
    = is_some_bytes c.loop-state.bytes.items c.loop-state.bytes.len c.is_empty.result (search rules)
    c.is_empty.ensures c.if-is_empty.false in
    let read : Reads name c.args.text.now c.args.at c.loop-state.bytes.items (c.loop-state.end + 1)
    = name_ended c.loop-state.bytes.items (c.loop-state.invariant.reads [] (c.loop-state.end + 1)
    (name_end c.loop-state.bytes.items c.loop-state.state c.args.text.now c.loop-state.end some
    over.0 over.1 over.2)) in
    let valid : IsUtf8 c.loop-state.bytes.items = read.has.0 in
    absurd (search (rules, valid))
