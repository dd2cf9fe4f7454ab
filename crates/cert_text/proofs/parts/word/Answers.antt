use Rattle.std.proofs.Common.{arith, subst, sym}
use Rattle.cert_text.specs.Forms.{exactly, Refuses}
use Rattle.cert_text.specs.declared.cert_refusal.CertRefusal.{CertRefusal}
use Rattle.cert_text.proofs.Stands.{word_more}
use Rattle.cert_text.proofs.Forms.{exactly_stops, exactly_whole}
use Rattle.cert_text.proofs.parts.word.Goals as goal
use Rattle.cert_text.proofs.parts.word.Goals.{then-end-text-via-then-end-text}
use Rattle.cert_text.proofs.parts.word.Goals.{then-end-text-via-else-end-text+then-text-end}

pub loop-byte-preserved : goal.loop-byte-preserved
loop-byte-preserved c =
    word_more c.args.text.now c.args.word.now c.args.at c.loop-byte.byte-index c.loop-byte.end
    c.loop-byte.invariant (omega arith) (omega arith) (omega arith)

pub returns-clause-reads : goal.returns-clause-reads
returns-clause-reads c =
    exactly_whole c.args.text.now c.args.word.now c.args.at c.loop-byte.byte-index c.loop-byte.end
    c.requires.within c.loop-byte.invariant c.loop-byte.auto.byte-index-end c.loop-byte-test.false

pub returns-then-end-text-clause-refused : goal.returns-then-end-text-clause-refused
returns-then-end-text-clause-refused c =
    subst (λ (e : CertRefusal). Refuses (exactly c.args.word.now) c.args.text.now c.args.at e)
    (sym c.bad_line.ensures)
    (exactly_stops c.args.text.now c.args.word.now c.args.at c.loop-byte.byte-index c.loop-byte.end
    c.requires.within c.loop-byte.invariant (omega arith) (λ past e. elim c.then-end-text.branch [
      | then-end-text-via-then-end-text w ↦ omega arith
      | then-end-text-via-else-end-text+then-text-end w ↦ omega arith
    ]))
