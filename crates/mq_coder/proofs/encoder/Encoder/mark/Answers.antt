use Rattle.std.proofs.Common.{◌≡◌, length, ap, sym, ◌∙◌, arith, refl}
use Rattle.std.proofs.lemmas.List.{length-take-le}
use Rattle.mq_coder.specs.Code.{Coding, coded}
use Rattle.mq_coder.proofs.Grown.{later_long}
use Rattle.mq_coder.proofs.MarkLemmas.{marked, last_byte_take}
use Rattle.mq_coder.proofs.encoder.Encoder.mark.Goals.{then-r-eq0, else-r-eq0}
use Rattle.mq_coder.proofs.encoder.Encoder.mark.Goals as goal

pub returns-clause-stands : goal.returns-clause-stands
returns-clause-stands c = λ symbols stood.
    let buffer = c.args.self.now.bytes.now in
    let count = c.args.self.now.registers.count in
    let filled = c.args.self.now.filled in
    marked _ buffer c.args.self.now.contexts symbols stood filled
    (elim c.if-r-eq0.branch [
      | then-r-eq0 w ↦ w.last-is ∙ rw w.if-r-eq0.true refl
      | else-r-eq0 w ↦ w.last-is ∙ sym (last_byte_take buffer count (omega arith) filled)
    ])

pub returns-clause-later : goal.returns-clause-later
returns-clause-later c = λ symbols later stood.
    let filled = c.args.self.now.filled in
    let long = later_long symbols later in
    let count : c.args.self.now.registers.count ≡ length (coded symbols).bytes =
    sym (length-take-le c.args.self.now.registers.count c.args.self.now.bytes.now filled)
    ∙ ap (λ (x : Coding). length x.bytes) stood in
    omega arith
