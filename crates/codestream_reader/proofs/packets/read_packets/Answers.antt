use Rattle.std.proofs.Common.{◌≡◌, ℕ, ◌<◌, Ok, Err, Result, ap, sym, subst, ◌∙◌}
use Rattle.std.proofs.Common.{get_or, length}
use Rattle.std.specs.Prelude.{IfErr}
use Rattle.std.proofs.lemmas.List.{get_or_default}
use Rattle.std.proofs.lemmas.Result.{err_from_is_err_and}
use Rattle.packet_headers.specs.declared.refusal.PacketRefusal.{PacketRefusal}
use Rattle.packet_order.specs.declared.packet.PacketId.{PacketId}
use Rattle.codestream_reader.specs.PacketFaults.{PacketsFault}
use Rattle.codestream_reader.proofs.Going.{Stops, none_gone, one_gone, one_stops, all_gone}
use Rattle.codestream_reader.proofs.packets.read_packets.Goals as goal

no_packet : PacketId
no_packet = record { component = 0; res = 0; px = 0; py = 0 }

pub loop-id-init : goal.loop-id-init
loop-id-init c =
    none_gone c.args.geometry.now c.args.steps.now c.args.bytes.now c.args.from c.args.stop
    c.args.ids.now c.args.spans.now c.requires.inside

pub loop-id-preserved : goal.loop-id-preserved
unfolding no_packet
loop-id-preserved c =
    let ids = c.args.ids.now in
    let i = c.loop-id.id-index in
    let p = get_or ids i no_packet in
    let below : i < length ids = c.loop-id-test.true in
    one_gone c.args.geometry.now c.args.steps.now c.args.bytes.now c.args.from c.args.stop ids
    c.args.spans.now i c.loop-id.at c.in_ok-at.at p c.loop-id.spans c.read_packet.new.spans
    c.requires.end below (get_or_default ids i no_packet p below) c.requires.ids c.requires.apart
    c.requires.spans c.loop-id.invariant
    (record {
      stands = c.in_ok-at.ensures.stands;
      inside = c.in_ok-at.ensures.inside;
      reads = c.in_ok-at.ensures.reads;
      faults = c.in_ok-at.ensures.faults;
      others = c.in_ok-at.ensures.others;
      count = c.in_ok-at.ensures.count;
    })

stops : (c : goal.After-from_residual) →
    Stops c.args.geometry.now c.args.steps.now c.args.bytes.now c.args.from c.args.stop
    c.args.ids.now c.in_err-at.field-0.0 c.args.spans.now c.read_packet.new.spans
unfolding no_packet
stops c =
    let ids = c.args.ids.now in
    let i = c.loop-id.id-index in
    let p = get_or ids i no_packet in
    let below : i < length ids = c.loop-id-test.true in
    one_stops c.args.geometry.now c.args.steps.now c.args.bytes.now c.args.from c.args.stop ids
    c.args.spans.now i c.loop-id.at p c.in_err-at.field-0.0 c.loop-id.spans
    c.read_packet.new.spans c.requires.end below (get_or_default ids i no_packet p below)
    c.loop-id.invariant
    (record {
      refused = c.in_err-at.ensures.refused;
      reads = c.in_err-at.ensures.reads;
      faults = c.in_err-at.ensures.faults;
      others = c.in_err-at.ensures.others;
      count = c.in_err-at.ensures.count;
    })

err_is : (c : goal.After-from_residual) → c.from_residual.result ≡ Err c.in_err-at.field-0.0
err_is c =
    let p = err_from_is_err_and c.from_residual.result c.from_residual.ensures.1 in
    p.1 ∙ ap (λ k. Err k) p.2

pub returns-in_err-at-clause-reads : goal.returns-in_err-at-clause-reads
returns-in_err-at-clause-reads c ws to s = absurd ((stops c).reads ws to s)

pub returns-in_err-at-clause-refused : goal.returns-in_err-at-clause-refused
returns-in_err-at-clause-refused c =
    subst (λ (r : Result ℕ PacketRefusal). IfErr r (PacketsFault c.args.geometry.now
    c.args.steps.now c.args.bytes.now c.args.from c.args.stop c.args.ids.now))
    (sym (err_is c)) (stops c).refused

pub returns-in_err-at-clause-faults : goal.returns-in_err-at-clause-faults
returns-in_err-at-clause-faults c fault f =
    err_is c ∙ ap (λ k. Err k) ((stops c).faults fault f)

pub returns-clause-stand : goal.returns-clause-stand
returns-clause-stand c =
    (all_gone c.args.geometry.now c.args.steps.now c.args.bytes.now c.args.from c.args.stop
    c.args.ids.now c.args.spans.now c.loop-id.id-index c.loop-id.at c.loop-id.spans
    c.loop-id-test.false c.loop-id.invariant).stand

pub returns-clause-reads : goal.returns-clause-reads
returns-clause-reads c ws to s =
    let r = (all_gone c.args.geometry.now c.args.steps.now c.args.bytes.now c.args.from
    c.args.stop c.args.ids.now c.args.spans.now c.loop-id.id-index c.loop-id.at c.loop-id.spans
    c.loop-id-test.false c.loop-id.invariant).reads ws to s in
    (ap (λ n. Ok n) r.0, r.1)

pub returns-clause-faults : goal.returns-clause-faults
returns-clause-faults c fault f =
    absurd ((all_gone c.args.geometry.now c.args.steps.now c.args.bytes.now c.args.from
    c.args.stop c.args.ids.now c.args.spans.now c.loop-id.id-index c.loop-id.at c.loop-id.spans
    c.loop-id-test.false c.loop-id.invariant).faults fault f)
