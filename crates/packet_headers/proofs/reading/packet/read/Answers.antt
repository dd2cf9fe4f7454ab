use Rattle.std.proofs.Common.{◌≡◌, ℕ, arith, refl, sym, ap, subst, ◌∙◌, Err, Result}
use Rattle.std.specs.Prelude.{IfErr}
use Rattle.std.proofs.lemmas.Result.{err_from_is_err_and}
use Rattle.packet_headers.specs.declared.packet.PacketRead.{PacketRead}
use Rattle.packet_headers.specs.declared.refusal.PacketRefusal.{PacketRefusal}
use Rattle.packet_headers.specs.declared.refusal.PacketRefusal.TheVariants.{BodyTruncated}
use Rattle.packet_headers.specs.Reading.{Refused}
use Rattle.packet_headers.specs.declared.packet.BandShape.{BandShape}
use Rattle.std.specs.Prelude.{List}
use Rattle.packet_headers.proofs.ReadWhole.{few_bits, err_no_header, err_refused, err_zero}
use Rattle.packet_headers.proofs.ReadWhole.{err_pass, err_ends, ok_no_zero, ok_no_pass}
use Rattle.packet_headers.proofs.ReadWhole.{unended_no_header, unended_refused, unended_ends}
use Rattle.packet_headers.proofs.ReadWhole.{whole_ends, short_refused, short_reads, whole_found}
use Rattle.packet_headers.proofs.ReadWhole.{whole_reads, whole_short, reads_back}
use Rattle.packet_headers.proofs.reading.packet.read.Goals as goal

refuses : (shapes : List BandShape) (bytes : List ℕ) (result : Result PacketRead PacketRefusal)
    (e : PacketRefusal) → result ≡ Err e → Refused shapes bytes e
    → IfErr result (λ k. Refused shapes bytes k)
refuses shapes bytes result e is h = let P : Result PacketRead PacketRefusal → Type 0 =
    λ k. IfErr k (λ k. Refused shapes bytes k) in subst P (sym is) h

pub read_header-requires-clause-few : goal.read_header-requires-clause-few
read_header-requires-clause-few c = few_bits _ _ c.new-bits.ensures c.requires.bytes

pub returns-in_err-packet-clause-refused : goal.returns-in_err-packet-clause-refused
returns-in_err-packet-clause-refused c =
    let p = err_from_is_err_and c.from_residual.result c.from_residual.ensures.1 in
    refuses _ _ _ _ (p.1 ∙ ap (λ k. Err k) p.2) (err_refused c.args.shape.now.bands.items
    c.args.bytes.now c.new-bits.result c.read_header.new.bits c.new-bits.ensures _
    c.in_err-packet.ensures.same c.in_err-packet.ensures.found c.in_err-packet.ensures.reads
    c.in_err-packet.ensures.zero_planes c.in_err-packet.ensures.passes _ refl)

pub returns-in_err-packet-clause-reads : goal.returns-in_err-packet-clause-reads
returns-in_err-packet-clause-reads c words header h l =
    absurd (err_no_header c.args.shape.now.bands.items c.args.bytes.now c.new-bits.result
    c.read_header.new.bits c.new-bits.ensures _ c.in_err-packet.ensures.same
    c.in_err-packet.ensures.found c.in_err-packet.ensures.reads
    c.in_err-packet.ensures.zero_planes c.in_err-packet.ensures.passes _ refl words header h)

pub returns-in_err-packet-clause-short : goal.returns-in_err-packet-clause-short
returns-in_err-packet-clause-short c place b =
    absurd (err_no_header c.args.shape.now.bands.items c.args.bytes.now c.new-bits.result
    c.read_header.new.bits c.new-bits.ensures _ c.in_err-packet.ensures.same
    c.in_err-packet.ensures.found c.in_err-packet.ensures.reads
    c.in_err-packet.ensures.zero_planes c.in_err-packet.ensures.passes _ refl b.words b.header
    b.has_header)

pub returns-in_err-packet-clause-zero_planes : goal.returns-in_err-packet-clause-zero_planes
returns-in_err-packet-clause-zero_planes c place s =
    let p = err_from_is_err_and c.from_residual.result c.from_residual.ensures.1 in
    p.1 ∙ ap (λ k. Err k) (p.2 ∙ err_zero c.args.shape.now.bands.items c.args.bytes.now
    c.new-bits.result c.read_header.new.bits c.new-bits.ensures _ c.in_err-packet.ensures.same
    c.in_err-packet.ensures.found c.in_err-packet.ensures.reads
    c.in_err-packet.ensures.zero_planes c.in_err-packet.ensures.passes _ refl place s)

pub returns-in_err-packet-clause-passes : goal.returns-in_err-packet-clause-passes
returns-in_err-packet-clause-passes c place s =
    let p = err_from_is_err_and c.from_residual.result c.from_residual.ensures.1 in
    p.1 ∙ ap (λ k. Err k) (p.2 ∙ err_pass c.args.shape.now.bands.items c.args.bytes.now
    c.new-bits.result c.read_header.new.bits c.new-bits.ensures _ c.in_err-packet.ensures.same
    c.in_err-packet.ensures.found c.in_err-packet.ensures.reads
    c.in_err-packet.ensures.zero_planes c.in_err-packet.ensures.passes _ refl place s)

pub returns-in_err-packet-clause-ends : goal.returns-in_err-packet-clause-ends
returns-in_err-packet-clause-ends c fault n =
    let p = err_from_is_err_and c.from_residual.result c.from_residual.ensures.1 in
    p.1 ∙ ap (λ k. Err k) (p.2 ∙ err_ends c.args.shape.now.bands.items c.args.bytes.now
    c.new-bits.result c.read_header.new.bits c.new-bits.ensures _ c.in_err-packet.ensures.same
    c.in_err-packet.ensures.found c.in_err-packet.ensures.reads
    c.in_err-packet.ensures.zero_planes c.in_err-packet.ensures.passes _ refl fault n)

pub returns-in_err-header-clause-refused : goal.returns-in_err-header-clause-refused
returns-in_err-header-clause-refused c =
    let p = err_from_is_err_and c.from_residual-in_err-header.result
    c.from_residual-in_err-header.ensures.1 in
    refuses _ _ _ _ (p.1 ∙ ap (λ k. Err k) p.2) (unended_refused c.args.shape.now.bands.items
    c.args.bytes.now c.new-bits.result c.read_header.new.bits c.new-bits.ensures _
    c.in_ok-packet.ensures.same c.in_ok-packet.ensures.found c.in_ok-packet.ensures.reads
    c.in_ok-packet.ensures.zero_planes c.in_ok-packet.ensures.passes _ refl _
    c.in_err-header.ensures.fault (λ u l s. (let o = c.in_err-header.ensures.only u l s in cc)))

pub returns-in_err-header-clause-reads : goal.returns-in_err-header-clause-reads
returns-in_err-header-clause-reads c words header h l =
    absurd (unended_no_header c.args.shape.now.bands.items c.args.bytes.now c.new-bits.result
    c.read_header.new.bits c.new-bits.ensures _ c.in_ok-packet.ensures.same
    c.in_ok-packet.ensures.found c.in_ok-packet.ensures.reads c.in_ok-packet.ensures.zero_planes
    c.in_ok-packet.ensures.passes _ refl _ c.in_err-header.ensures.fault
    (λ u l s. (let o = c.in_err-header.ensures.only u l s in cc)) words header h)

pub returns-in_err-header-clause-short : goal.returns-in_err-header-clause-short
returns-in_err-header-clause-short c place b =
    absurd (unended_no_header c.args.shape.now.bands.items c.args.bytes.now c.new-bits.result
    c.read_header.new.bits c.new-bits.ensures _ c.in_ok-packet.ensures.same
    c.in_ok-packet.ensures.found c.in_ok-packet.ensures.reads c.in_ok-packet.ensures.zero_planes
    c.in_ok-packet.ensures.passes _ refl _ c.in_err-header.ensures.fault
    (λ u l s. (let o = c.in_err-header.ensures.only u l s in cc)) b.words b.header b.has_header)

pub returns-in_err-header-clause-zero_planes : goal.returns-in_err-header-clause-zero_planes
returns-in_err-header-clause-zero_planes c place s =
    absurd (ok_no_zero c.args.shape.now.bands.items c.args.bytes.now c.new-bits.result
    c.read_header.new.bits c.new-bits.ensures _ c.in_ok-packet.ensures.same
    c.in_ok-packet.ensures.found c.in_ok-packet.ensures.reads c.in_ok-packet.ensures.zero_planes
    c.in_ok-packet.ensures.passes _ refl place s)

pub returns-in_err-header-clause-passes : goal.returns-in_err-header-clause-passes
returns-in_err-header-clause-passes c place s =
    absurd (ok_no_pass c.args.shape.now.bands.items c.args.bytes.now c.new-bits.result
    c.read_header.new.bits c.new-bits.ensures _ c.in_ok-packet.ensures.same
    c.in_ok-packet.ensures.found c.in_ok-packet.ensures.reads c.in_ok-packet.ensures.zero_planes
    c.in_ok-packet.ensures.passes _ refl place s)

pub returns-in_err-header-clause-ends : goal.returns-in_err-header-clause-ends
returns-in_err-header-clause-ends c fault n =
    let p = err_from_is_err_and c.from_residual-in_err-header.result
    c.from_residual-in_err-header.ensures.1 in
    p.1 ∙ ap (λ k. Err k) (p.2 ∙ unended_ends c.args.shape.now.bands.items c.args.bytes.now
    c.new-bits.result c.read_header.new.bits c.new-bits.ensures _ c.in_ok-packet.ensures.same
    c.in_ok-packet.ensures.found c.in_ok-packet.ensures.reads c.in_ok-packet.ensures.zero_planes
    c.in_ok-packet.ensures.passes _ refl _ c.in_err-header.ensures.fault
    (λ u l s. (let o = c.in_err-header.ensures.only u l s in cc)) fault n)

pub returns-then-body-bytes-clause-refused : goal.returns-then-body-bytes-clause-refused
returns-then-body-bytes-clause-refused c =
    short_refused c.args.shape.now.bands.items c.args.bytes.now c.new-bits.result
    c.read_header.new.bits c.new-bits.ensures _ c.in_ok-packet.ensures.same
    c.in_ok-packet.ensures.found c.in_ok-packet.ensures.reads c.in_ok-packet.ensures.zero_planes
    c.in_ok-packet.ensures.passes _ refl _ c.in_ok-header.ensures.used
    (λ n l s. (let o = c.in_ok-header.ensures.only n l s in cc)) c.requires.bytes _
    c.packet_body-body.ensures (omega (arith, c.in_ok-header.ensures.used.0))

pub returns-then-body-bytes-clause-reads : goal.returns-then-body-bytes-clause-reads
returns-then-body-bytes-clause-reads c words header h l =
    absurd (short_reads c.args.shape.now.bands.items c.args.bytes.now c.new-bits.result
    c.read_header.new.bits c.new-bits.ensures _ c.in_ok-packet.ensures.same
    c.in_ok-packet.ensures.found c.in_ok-packet.ensures.reads c.in_ok-packet.ensures.zero_planes
    c.in_ok-packet.ensures.passes _ refl _ c.in_ok-header.ensures.used
    (λ n l s. (let o = c.in_ok-header.ensures.only n l s in cc)) c.requires.bytes _
    c.packet_body-body.ensures (omega (arith, c.in_ok-header.ensures.used.0)) words header h l)

pub returns-then-body-bytes-clause-short : goal.returns-then-body-bytes-clause-short
returns-then-body-bytes-clause-short c place b =
    ap (λ n. Err (BodyTruncated n)) (sym b.place_is)

pub returns-then-body-bytes-clause-zero_planes : goal.returns-then-body-bytes-clause-zero_planes
returns-then-body-bytes-clause-zero_planes c place s =
    absurd (ok_no_zero c.args.shape.now.bands.items c.args.bytes.now c.new-bits.result
    c.read_header.new.bits c.new-bits.ensures _ c.in_ok-packet.ensures.same
    c.in_ok-packet.ensures.found c.in_ok-packet.ensures.reads c.in_ok-packet.ensures.zero_planes
    c.in_ok-packet.ensures.passes _ refl place s)

pub returns-then-body-bytes-clause-passes : goal.returns-then-body-bytes-clause-passes
returns-then-body-bytes-clause-passes c place s =
    absurd (ok_no_pass c.args.shape.now.bands.items c.args.bytes.now c.new-bits.result
    c.read_header.new.bits c.new-bits.ensures _ c.in_ok-packet.ensures.same
    c.in_ok-packet.ensures.found c.in_ok-packet.ensures.reads c.in_ok-packet.ensures.zero_planes
    c.in_ok-packet.ensures.passes _ refl place s)

pub returns-then-body-bytes-clause-ends : goal.returns-then-body-bytes-clause-ends
returns-then-body-bytes-clause-ends c fault n =
    absurd (whole_ends c.args.shape.now.bands.items c.args.bytes.now c.new-bits.result
    c.read_header.new.bits c.new-bits.ensures _ c.in_ok-packet.ensures.same
    c.in_ok-packet.ensures.found c.in_ok-packet.ensures.reads c.in_ok-packet.ensures.zero_planes
    c.in_ok-packet.ensures.passes _ refl _ c.in_ok-header.ensures.used
    (λ n l s. (let o = c.in_ok-header.ensures.only n l s in cc)) c.requires.bytes fault n)

pub returns-clause-found : goal.returns-clause-found
returns-clause-found c =
    whole_found c.args.shape.now.bands.items c.args.bytes.now c.new-bits.result
    c.read_header.new.bits c.new-bits.ensures _ c.in_ok-packet.ensures.same
    c.in_ok-packet.ensures.found c.in_ok-packet.ensures.reads c.in_ok-packet.ensures.zero_planes
    c.in_ok-packet.ensures.passes _ refl _ c.in_ok-header.ensures.used
    (λ n l s. (let o = c.in_ok-header.ensures.only n l s in cc)) c.requires.bytes _
    c.packet_body-body.ensures (omega (arith, c.in_ok-header.ensures.used.0))

pub returns-clause-reads : goal.returns-clause-reads
returns-clause-reads c words header h l =
    whole_reads c.args.shape.now.bands.items c.args.bytes.now c.new-bits.result
    c.read_header.new.bits c.new-bits.ensures _ c.in_ok-packet.ensures.same
    c.in_ok-packet.ensures.found c.in_ok-packet.ensures.reads c.in_ok-packet.ensures.zero_planes
    c.in_ok-packet.ensures.passes _ refl _ c.in_ok-header.ensures.used
    (λ n l s. (let o = c.in_ok-header.ensures.only n l s in cc)) c.requires.bytes _
    c.packet_body-body.ensures (omega (arith, c.in_ok-header.ensures.used.0)) words header h

pub returns-clause-short : goal.returns-clause-short
returns-clause-short c place b =
    absurd (whole_short c.args.shape.now.bands.items c.args.bytes.now c.new-bits.result
    c.read_header.new.bits c.new-bits.ensures _ c.in_ok-packet.ensures.same
    c.in_ok-packet.ensures.found c.in_ok-packet.ensures.reads c.in_ok-packet.ensures.zero_planes
    c.in_ok-packet.ensures.passes _ refl _ c.in_ok-header.ensures.used
    (λ n l s. (let o = c.in_ok-header.ensures.only n l s in cc)) c.requires.bytes _
    c.packet_body-body.ensures (omega (arith, c.in_ok-header.ensures.used.0)) place b)

pub returns-clause-zero_planes : goal.returns-clause-zero_planes
returns-clause-zero_planes c place s =
    absurd (ok_no_zero c.args.shape.now.bands.items c.args.bytes.now c.new-bits.result
    c.read_header.new.bits c.new-bits.ensures _ c.in_ok-packet.ensures.same
    c.in_ok-packet.ensures.found c.in_ok-packet.ensures.reads c.in_ok-packet.ensures.zero_planes
    c.in_ok-packet.ensures.passes _ refl place s)

pub returns-clause-passes : goal.returns-clause-passes
returns-clause-passes c place s =
    absurd (ok_no_pass c.args.shape.now.bands.items c.args.bytes.now c.new-bits.result
    c.read_header.new.bits c.new-bits.ensures _ c.in_ok-packet.ensures.same
    c.in_ok-packet.ensures.found c.in_ok-packet.ensures.reads c.in_ok-packet.ensures.zero_planes
    c.in_ok-packet.ensures.passes _ refl place s)

pub returns-clause-ends : goal.returns-clause-ends
returns-clause-ends c fault n =
    absurd (whole_ends c.args.shape.now.bands.items c.args.bytes.now c.new-bits.result
    c.read_header.new.bits c.new-bits.ensures _ c.in_ok-packet.ensures.same
    c.in_ok-packet.ensures.found c.in_ok-packet.ensures.reads c.in_ok-packet.ensures.zero_planes
    c.in_ok-packet.ensures.passes _ refl _ c.in_ok-header.ensures.used
    (λ n l s. (let o = c.in_ok-header.ensures.only n l s in cc)) c.requires.bytes fault n)

pub returns-in_err-packet-clause-read_back : goal.returns-in_err-packet-clause-read_back
returns-in_err-packet-clause-read_back c = reads_back _ _ _ (returns-in_err-packet-clause-reads c)

pub returns-in_err-header-clause-read_back : goal.returns-in_err-header-clause-read_back
returns-in_err-header-clause-read_back c = reads_back _ _ _ (returns-in_err-header-clause-reads c)

pub returns-then-body-bytes-clause-read_back : goal.returns-then-body-bytes-clause-read_back
returns-then-body-bytes-clause-read_back c =
    reads_back _ _ _ (returns-then-body-bytes-clause-reads c)

pub returns-clause-read_back : goal.returns-clause-read_back
returns-clause-read_back c = reads_back _ _ _ (returns-clause-reads c)
