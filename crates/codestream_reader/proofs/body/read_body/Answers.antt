use Rattle.std.proofs.Common.{◌≡◌, ℕ, Err, ap, arith, refl}
use Rattle.packet_headers.specs.declared.refusal.PacketRefusal.{PacketRefusal}
use Rattle.codestream_reader.specs.PartFaults.BodyFault.{packet, long}
use Rattle.codestream_reader.proofs.Filling.{fill_stands, stands_fill, packet_fault, long_fault}
use Rattle.codestream_reader.proofs.Lists.{ok_no_err}
use Rattle.codestream_reader.proofs.OnePacket.{ok_once}
use Rattle.codestream_reader.proofs.body.read_body.Goals as goal

pub returns-in-Err-clause-refused : goal.returns-in-Err-clause-refused
returns-in-Err-clause-refused c = packet c.in-Err.fault c.in-Err.ensures.refused refl

pub returns-in-Err-clause-reads : goal.returns-in-Err-clause-reads
returns-in-Err-clause-reads c ws fill =
    absurd (ok_no_err c.read_packets.result c.args.stop c.in-Err.fault
    (c.read_packets.ensures.reads ws c.args.stop
    (fill_stands c.args.geometry.now c.args.steps.now c.args.bytes.now c.args.from c.args.stop
    c.args.ids.now ws c.requires.inside c.requires.end fill)).0 c.in-Err.is)

pub returns-in-Err-clause-faults : goal.returns-in-Err-clause-faults
returns-in-Err-clause-faults c refusal f =
    ap (λ e. Err e) (packet_fault c.args.geometry.now c.args.steps.now c.args.bytes.now c.args.from
    c.args.stop c.args.ids.now c.in-Err.fault refusal c.in-Err.ensures.faults
    (λ ws to s. ok_no_err c.read_packets.result to c.in-Err.fault
    (c.read_packets.ensures.reads ws to s).0 c.in-Err.is) f)

pub returns-then-to-stop-clause-refused : goal.returns-then-to-stop-clause-refused
returns-then-to-stop-clause-refused c =
    let s = c.in-Ok.ensures.stand in
    long c.in-Ok.to s.0 s.1 c.if-to-stop.true refl

pub returns-then-to-stop-clause-reads : goal.returns-then-to-stop-clause-reads
returns-then-to-stop-clause-reads c ws fill =
    let same : c.in-Ok.to ≡ c.args.stop = ok_once {T = ℕ} {E = PacketRefusal} c.in-Ok.to c.args.stop
    (c.in-Ok.ensures.reads ws c.args.stop
    (fill_stands c.args.geometry.now c.args.steps.now c.args.bytes.now c.args.from c.args.stop
    c.args.ids.now ws c.requires.inside c.requires.end fill)).0 in
    let less = c.if-to-stop.true in
    absurd (omega (arith, same, less))

pub returns-then-to-stop-clause-faults : goal.returns-then-to-stop-clause-faults
returns-then-to-stop-clause-faults c refusal f =
    ap (λ e. Err e) (long_fault c.args.geometry.now c.args.steps.now c.args.bytes.now c.args.from
    c.args.stop c.in-Ok.to c.args.ids.now refusal
    (λ fault h. ok_no_err c.read_packets.result c.in-Ok.to fault c.in-Ok.is
    (c.read_packets.ensures.faults fault h))
    (λ ws at s. ok_once {T = ℕ} {E = PacketRefusal} c.in-Ok.to at
    (c.in-Ok.ensures.reads ws at s).0) f).1

pub returns-else-to-stop-clause-fill : goal.returns-else-to-stop-clause-fill
returns-else-to-stop-clause-fill c =
    let s = c.in-Ok.ensures.stand in
    let least = c.if-to-stop.false in
    let inside = c.in-Ok.ensures.inside in (
      s.0,
      stands_fill c.args.geometry.now c.args.steps.now c.args.bytes.now c.args.from c.args.stop
          c.in-Ok.to c.args.ids.now s.0 (omega (arith, least, inside)) s.1,
    )

pub returns-else-to-stop-clause-reads : goal.returns-else-to-stop-clause-reads
returns-else-to-stop-clause-reads c ws fill = (
  refl,
  (c.in-Ok.ensures.reads ws c.args.stop
      (fill_stands c.args.geometry.now c.args.steps.now c.args.bytes.now c.args.from c.args.stop
      c.args.ids.now ws c.requires.inside c.requires.end fill)).1,
)

pub returns-else-to-stop-clause-faults : goal.returns-else-to-stop-clause-faults
returns-else-to-stop-clause-faults c refusal f =
    let less = (long_fault c.args.geometry.now c.args.steps.now c.args.bytes.now c.args.from
    c.args.stop c.in-Ok.to c.args.ids.now refusal
    (λ fault h. ok_no_err c.read_packets.result c.in-Ok.to fault c.in-Ok.is
    (c.read_packets.ensures.faults fault h))
    (λ ws at s. ok_once {T = ℕ} {E = PacketRefusal} c.in-Ok.to at
    (c.in-Ok.ensures.reads ws at s).0) f).0 in
    let least = c.if-to-stop.false in
    absurd (omega (arith, less, least))
