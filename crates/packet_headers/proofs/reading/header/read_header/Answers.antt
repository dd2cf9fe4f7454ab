use Rattle.std.proofs.Common.{inr, arith, ap, Ok}
use Rattle.bit_stuffing.specs.Stuffing.{fault_of}
use Rattle.packet_headers.proofs.ReadCodes.{bit_is}
use Rattle.packet_headers.proofs.ReadIncluded.{took_less}
use Rattle.packet_headers.proofs.ReadHeaders.{found_empty, reads_empty, empty_no_zero}
use Rattle.packet_headers.proofs.ReadHeaders.{empty_no_pass, found_filled, reads_filled, reads_zero}
use Rattle.packet_headers.proofs.ReadHeaders.{reads_pass, no_first, no_zero_first, no_pass_first}
use Rattle.packet_headers.proofs.reading.header.read_header.Goals as goal

pub returns-in_err-take-clause-reads : goal.returns-in_err-take-clause-reads
returns-in_err-take-clause-reads c words rest f e =
    absurd (no_first c.args.bits.now words rest c.in_err-take.ensures.none e)

pub returns-in_err-take-clause-zero_planes : goal.returns-in_err-take-clause-zero_planes
returns-in_err-take-clause-zero_planes c stop rest s e =
    absurd (no_zero_first c.args.shape.now.bands.items c.args.bits.now stop rest
    c.in_err-take.ensures.none s e)

pub returns-in_err-take-clause-passes : goal.returns-in_err-take-clause-passes
returns-in_err-take-clause-passes c stop rest s e =
    absurd (no_pass_first c.args.shape.now.bands.items c.args.bits.now stop rest
    c.in_err-take.ensures.none s e)

pub returns-then-not-branch-clause-found : goal.returns-then-not-branch-clause-found
returns-then-not-branch-clause-found c = inr
    (found_empty c.args.shape.now.bands.items c.args.bits.now c.take.new.self
    (bit_is _ _ _ _ c.if-not-branch.true c.in_ok-take.ensures.same c.in_ok-take.ensures.bit
    c.in_ok-take.ensures.taken) _ (ap (λ k. Ok k) c.empty_packet.ensures))

pub returns-then-not-branch-clause-reads : goal.returns-then-not-branch-clause-reads
returns-then-not-branch-clause-reads c =
    reads_empty c.args.shape.now.bands.items c.args.bits.now c.take.new.self
    (bit_is _ _ _ _ c.if-not-branch.true c.in_ok-take.ensures.same c.in_ok-take.ensures.bit
    c.in_ok-take.ensures.taken) _ (ap (λ k. Ok k) c.empty_packet.ensures)

pub returns-then-not-branch-clause-zero_planes : goal.returns-then-not-branch-clause-zero_planes
returns-then-not-branch-clause-zero_planes c stop rest s e = absurd
    (empty_no_zero c.args.shape.now.bands.items c.args.bits.now c.take.new.self
    (bit_is _ _ _ _ c.if-not-branch.true c.in_ok-take.ensures.same c.in_ok-take.ensures.bit
    c.in_ok-take.ensures.taken) _ (ap (λ k. Ok k) c.empty_packet.ensures) stop rest s e)

pub returns-then-not-branch-clause-passes : goal.returns-then-not-branch-clause-passes
returns-then-not-branch-clause-passes c stop rest s e = absurd
    (empty_no_pass c.args.shape.now.bands.items c.args.bits.now c.take.new.self
    (bit_is _ _ _ _ c.if-not-branch.true c.in_ok-take.ensures.same c.in_ok-take.ensures.bit
    c.in_ok-take.ensures.taken) _ (ap (λ k. Ok k) c.empty_packet.ensures) stop rest s e)

pub read_bands-requires-clause-few : goal.read_bands-requires-clause-few
read_bands-requires-clause-few c =
    let t = bit_is c.args.bits.now c.take.new.self _ _ c.if-not-branch.false
    c.in_ok-take.ensures.same c.in_ok-take.ensures.bit c.in_ok-take.ensures.taken in
    let l = took_less _ _ _ t in omega (arith, c.requires.few)

pub returns-clause-found : goal.returns-clause-found
returns-clause-found c =
    found_filled c.args.shape.now.bands.items c.args.bits.now c.take.new.self c.read_bands.new.bits
    (bit_is _ _ _ _ c.if-not-branch.false c.in_ok-take.ensures.same c.in_ok-take.ensures.bit
    c.in_ok-take.ensures.taken) _ _ _
    (ap fault_of c.in_ok-take.ensures.same) c.read_bands.ensures.found

pub returns-clause-reads : goal.returns-clause-reads
returns-clause-reads c =
    reads_filled c.args.shape.now.bands.items c.args.bits.now c.take.new.self c.read_bands.new.bits
    (bit_is _ _ _ _ c.if-not-branch.false c.in_ok-take.ensures.same c.in_ok-take.ensures.bit
    c.in_ok-take.ensures.taken) _ c.read_bands.ensures.reads

pub returns-clause-zero_planes : goal.returns-clause-zero_planes
returns-clause-zero_planes c =
    reads_zero c.args.shape.now.bands.items c.args.bits.now c.take.new.self c.read_bands.new.bits
    (bit_is _ _ _ _ c.if-not-branch.false c.in_ok-take.ensures.same c.in_ok-take.ensures.bit
    c.in_ok-take.ensures.taken) _ c.read_bands.ensures.reads

pub returns-clause-passes : goal.returns-clause-passes
returns-clause-passes c =
    reads_pass c.args.shape.now.bands.items c.args.bits.now c.take.new.self c.read_bands.new.bits
    (bit_is _ _ _ _ c.if-not-branch.false c.in_ok-take.ensures.same c.in_ok-take.ensures.bit
    c.in_ok-take.ensures.taken) _ c.read_bands.ensures.reads
