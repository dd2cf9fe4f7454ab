use Rattle.std.proofs.Common.{◌≡◌, ℕ, List, Ok, Err, Result, ap, sym, subst, ◌∙◌, refl}
use Rattle.std.specs.Prelude.{IfErr}
use Rattle.std.proofs.lemmas.Result.{err_from_is_err_and}
use Rattle.packet_order.specs.declared.packet.PacketId.{PacketId}
use Rattle.profile_reader.specs.Words.{PartWhole}
use Rattle.tile_parts.specs.declared.part.Part.{Part}
use Rattle.tile_parts.specs.declared.refusal.PartRefusal.{PartRefusal}
use Rattle.codestream_reader.specs.Standing.{PacketsFill, PartStands}
use Rattle.codestream_reader.specs.PartFaults.{BodyFault, PartFault}
use Rattle.codestream_reader.specs.PartFaults.PartFault.{head, size_differs, body}
use Rattle.codestream_reader.specs.declared.refusal.ReadRefusal.{ReadRefusal}
use Rattle.codestream_reader.proofs.Heads.{placed, filled_part, of_frame, all_differ, part_of}
use Rattle.codestream_reader.proofs.Heads.{stands_spelled}
use Rattle.codestream_reader.proofs.Lists.{ok_no_err}
use Rattle.codestream_reader.proofs.OnePacket.{ok_once}
use Rattle.codestream_reader.proofs.PartCases.{head_fault, size_fault, body_fault, part_here}
use Rattle.codestream_reader.proofs.part.read_tile_part.Goals as goal

-- the head is refused

pub returns-in-Err-clause-reads : goal.returns-in-Err-clause-reads
returns-in-Err-clause-reads c w stands =
    let known = c.args.known in
    absurd (ok_no_err c.read_part.result (part_of c.args.at known.index known.size w) c.in-Err.fault
    (c.read_part.ensures.spells (part_of c.args.at known.index known.size w)
    (stands_spelled c.args.geometry.now c.args.steps.now c.args.bytes.now c.args.at known.index
    known.count known.size w c.requires.inside stands).spells) c.in-Err.is)

pub returns-in-Err-clause-refused : goal.returns-in-Err-clause-refused
returns-in-Err-clause-refused c = head c.in-Err.fault c.in-Err.ensures.refused refl

pub returns-in-Err-clause-faults : goal.returns-in-Err-clause-faults
returns-in-Err-clause-faults c refusal f =
    let known = c.args.known in
    ap (λ e. Err e) (head_fault c.args.geometry.now c.args.steps.now c.args.bytes.now c.args.at
    known.index known.count known.size known.size_at c.in-Err.fault refusal
    c.in-Err.ensures.faults
    (λ p s. ok_no_err c.read_part.result p c.in-Err.fault (c.read_part.ensures.spells p s)
    c.in-Err.is) f)

-- Psot is another length

pub returns-then-part-known-clause-refused : goal.returns-then-part-known-clause-refused
returns-then-part-known-clause-refused c =
    size_differs c.in-Ok.part c.in-Ok.ensures.spelled c.if-part-known.true refl

pub returns-then-part-known-clause-faults : goal.returns-then-part-known-clause-faults
returns-then-part-known-clause-faults c refusal f =
    let known = c.args.known in
    ap (λ e. Err e) (size_fault c.args.geometry.now c.args.steps.now c.args.bytes.now c.args.at
    known.index known.count known.size known.size_at c.in-Ok.part refusal
    (λ e h. ok_no_err c.read_part.result c.in-Ok.part e c.in-Ok.is (c.read_part.ensures.faults e h))
    (λ p s. ok_once {T = Part} {E = PartRefusal} c.in-Ok.part p (c.in-Ok.ensures.spells p s))
    c.if-part-known.true f)

-- the packets

pub read_body-requires-clause-end : goal.read_body-requires-clause-end
read_body-requires-clause-end c =
    (placed c.args.bytes.now c.args.at c.args.known.index c.args.known.count c.in-Ok.part
    c.in-Ok.ensures.spelled c.requires.inside).inside

pub read_body-requires-clause-ids : goal.read_body-requires-clause-ids
read_body-requires-clause-ids c =
    of_frame c.args.geometry.now c.args.known.index c.args.ids.now c.requires.ids

pub read_body-requires-clause-apart : goal.read_body-requires-clause-apart
read_body-requires-clause-apart c =
    all_differ c.args.geometry.now c.args.known.index c.args.ids.now c.requires.ids

err_is : (c : goal.After-from_residual) →
    c.from_residual.result ≡ Err c.in_err-read_body-in-Ok.field-0.0
err_is c =
    let p = err_from_is_err_and c.from_residual.result c.from_residual.ensures.1 in
    p.1 ∙ ap (λ k. Err k) p.2

pub returns-in_err-read_body-in-Ok-clause-reads : goal.returns-in_err-read_body-in-Ok-clause-reads
returns-in_err-read_body-in-Ok-clause-reads c w stands =
    let known = c.args.known in
    let here = part_here c.args.geometry.now c.args.steps.now c.args.bytes.now c.args.at
    known.index known.count known.size c.in-Ok.part c.args.ids.now w c.requires.inside
    c.requires.ids
    (λ p s. ok_once {T = Part} {E = PartRefusal} c.in-Ok.part p (c.in-Ok.ensures.spells p s))
    stands in
    absurd (ok_no_err c.read_body.result tt c.in_err-read_body-in-Ok.field-0.0
    (c.read_body.ensures.reads w.packets here.fill).0 c.in_err-read_body-in-Ok.was)

pub returns-in_err-read_body-in-Ok-clause-refused :
    goal.returns-in_err-read_body-in-Ok-clause-refused
returns-in_err-read_body-in-Ok-clause-refused c =
    let known = c.args.known in
    subst (λ (r : Result ℕ ReadRefusal). IfErr r (PartFault c.args.geometry.now c.args.steps.now
    c.args.bytes.now c.args.at known.index known.count known.size known.size_at))
    (sym (err_is c))
    (body c.in-Ok.part c.in-Ok.ensures.spelled c.if-part-known.false
    (subst (λ (l : List PacketId). BodyFault c.args.geometry.now c.args.steps.now
    c.args.bytes.now c.in-Ok.part.body c.in-Ok.part.stop l c.in_err-read_body-in-Ok.field-0.0)
    c.requires.ids c.in_err-read_body-in-Ok.ensures.refused))

pub returns-in_err-read_body-in-Ok-clause-faults :
    goal.returns-in_err-read_body-in-Ok-clause-faults
returns-in_err-read_body-in-Ok-clause-faults c refusal f =
    let known = c.args.known in
    let b = body_fault c.args.geometry.now c.args.steps.now c.args.bytes.now c.args.at
    known.index known.count known.size known.size_at c.in-Ok.part c.args.ids.now refusal
    c.requires.ids
    (λ e h. ok_no_err c.read_part.result c.in-Ok.part e c.in-Ok.is (c.read_part.ensures.faults e h))
    (λ p s. ok_once {T = Part} {E = PartRefusal} c.in-Ok.part p (c.in-Ok.ensures.spells p s))
    c.if-part-known.false f in
    let same = c.in_err-read_body-in-Ok.ensures.faults refusal b in
    err_is c ∙ (let e = same in cc)

pub returns-in_ok-read_body-in-Ok-clause-stands : goal.returns-in_ok-read_body-in-Ok-clause-stands
returns-in_ok-read_body-in-Ok-clause-stands c =
    let known = c.args.known in
    let ws = c.in_ok-read_body-in-Ok.ensures.fill in
    subst (λ n. (w : PartWhole) × PartStands c.args.geometry.now c.args.steps.now
    c.args.bytes.now c.args.at known.index known.count n w) c.if-part-known.false
    (filled_part c.args.geometry.now c.args.steps.now c.args.bytes.now c.args.at known.index
    known.count c.in-Ok.part ws.0 c.requires.inside c.in-Ok.ensures.spelled
    (subst (λ (l : List PacketId). PacketsFill c.args.geometry.now c.args.steps.now
    c.args.bytes.now c.in-Ok.part.body c.in-Ok.part.stop l ws.0) c.requires.ids ws.1))

pub returns-in_ok-read_body-in-Ok-clause-inside : goal.returns-in_ok-read_body-in-Ok-clause-inside
returns-in_ok-read_body-in-Ok-clause-inside c =
    (placed c.args.bytes.now c.args.at c.args.known.index c.args.known.count c.in-Ok.part
    c.in-Ok.ensures.spelled c.requires.inside).inside

pub returns-in_ok-read_body-in-Ok-clause-reads : goal.returns-in_ok-read_body-in-Ok-clause-reads
returns-in_ok-read_body-in-Ok-clause-reads c w stands =
    let known = c.args.known in
    let here = part_here c.args.geometry.now c.args.steps.now c.args.bytes.now c.args.at
    known.index known.count known.size c.in-Ok.part c.args.ids.now w c.requires.inside
    c.requires.ids
    (λ p s. ok_once {T = Part} {E = PartRefusal} c.in-Ok.part p (c.in-Ok.ensures.spells p s))
    stands in
    (ap (λ n. Ok n) here.stop_is, (c.read_body.ensures.reads w.packets here.fill).1)

pub returns-in_ok-read_body-in-Ok-clause-faults : goal.returns-in_ok-read_body-in-Ok-clause-faults
returns-in_ok-read_body-in-Ok-clause-faults c refusal f =
    let known = c.args.known in
    let b = body_fault c.args.geometry.now c.args.steps.now c.args.bytes.now c.args.at
    known.index known.count known.size known.size_at c.in-Ok.part c.args.ids.now refusal
    c.requires.ids
    (λ e h. ok_no_err c.read_part.result c.in-Ok.part e c.in-Ok.is (c.read_part.ensures.faults e h))
    (λ p s. ok_once {T = Part} {E = PartRefusal} c.in-Ok.part p (c.in-Ok.ensures.spells p s))
    c.if-part-known.false f in
    absurd (ok_no_err c.read_body.result tt refusal c.in_ok-read_body-in-Ok.was
    (c.read_body.ensures.faults refusal b))
