use Rattle.std.proofs.Common.{◌≡◌, ℕ, ◌<◌, List, length, get_or, inr, arith, refl, sym, ap, subst}
use Rattle.std.proofs.Common.{◌∙◌, Err}
use Rattle.std.proofs.lemmas.Result.{err_from_is_err_and}
use Rattle.packet_headers.specs.declared.packet.BandShape.{BandShape}
use Rattle.packet_headers.specs.declared.packet.PacketBand.{PacketBand}
use Rattle.packet_headers.proofs.ReadPackets.{BandsSofar, bands_sofar_none, bands_sofar_next}
use Rattle.packet_headers.proofs.ReadPackets.{bands_found_err, bands_reads_err, bands_found_whole}
use Rattle.packet_headers.proofs.ReadPackets.{bands_reads_whole}
use Rattle.packet_headers.proofs.reading.header.read_bands.Goals as goal

pub loop-band-init : goal.loop-band-init
loop-band-init c =
    let P : List PacketBand → Type 0 = λ k. BandsSofar c.args.shape.now.bands.items c.args.bits.now
    c.args.bits.now k 0 in
    subst P (sym c.new-bands.ensures) (bands_sofar_none _ _)

-- the band at an index
at_index : (xs shapes : List BandShape) (i : ℕ) (d : BandShape) → xs ≡ shapes
    → get_or xs i d ≡ get_or shapes i d
at_index xs shapes i d e = ap (λ k. get_or k i d) e

inside : (xs shapes : List BandShape) (i : ℕ) → xs ≡ shapes → i < length xs → i < length shapes
inside xs shapes i e h = let l = ap length e in omega arith

pub loop-band-preserved : goal.loop-band-preserved
loop-band-preserved c =
    bands_sofar_next c.args.shape.now.bands.items c.args.bits.now c.loop-band.bits
    c.loop-band.bands.items c.loop-band.band-index c.loop-band.invariant
    _ (inside _ _ _ c.as_slice-band-items.ensures.value c.loop-band-test.true)
    (record { width = 0; height = 0; planes = 0 })
    (at_index _ _ _ _ c.as_slice-band-items.ensures.value)
    c.read_band.new.bits _ c.in_ok-read_band.ensures.found c.in_ok-read_band.ensures.reads _ _ refl
    c.push.ensures.items c.in_ok-read_band.ensures.same

pub returns-in_err-read_band-clause-found : goal.returns-in_err-read_band-clause-found
returns-in_err-read_band-clause-found c =
    let p = err_from_is_err_and c.from_residual.result c.from_residual.ensures.1 in
    bands_found_err c.args.shape.now.bands.items c.args.bits.now c.loop-band.bits
    c.loop-band.bands.items c.loop-band.band-index c.loop-band.invariant
    _ (inside _ _ _ c.as_slice-band-items.ensures.value c.loop-band-test.true)
    (record { width = 0; height = 0; planes = 0 })
    (at_index _ _ _ _ c.as_slice-band-items.ensures.value)
    c.read_band.new.bits _ c.in_err-read_band.ensures.found c.in_err-read_band.ensures.reads _ _
    refl (p.1 ∙ ap (λ k. Err k) p.2)

pub returns-in_err-read_band-clause-reads : goal.returns-in_err-read_band-clause-reads
returns-in_err-read_band-clause-reads c =
    let p = err_from_is_err_and c.from_residual.result c.from_residual.ensures.1 in
    bands_reads_err c.args.shape.now.bands.items c.args.bits.now c.loop-band.bits
    c.loop-band.bands.items c.loop-band.band-index c.loop-band.invariant
    _ (inside _ _ _ c.as_slice-band-items.ensures.value c.loop-band-test.true)
    (record { width = 0; height = 0; planes = 0 })
    (at_index _ _ _ _ c.as_slice-band-items.ensures.value)
    c.read_band.new.bits _ c.in_err-read_band.ensures.found c.in_err-read_band.ensures.reads _ _
    refl (p.1 ∙ ap (λ k. Err k) p.2)

last : (xs shapes : List BandShape) (i : ℕ) → xs ≡ shapes → i ≡ length xs → i ≡ length shapes
last xs shapes i e h = h ∙ ap length e

pub returns-clause-found : goal.returns-clause-found
returns-clause-found c = inr (bands_found_whole _ _ _ _ _ c.loop-band.invariant
    (last _ _ _ c.as_slice-band-items.ensures.value (omega arith)) _ refl)

pub returns-clause-reads : goal.returns-clause-reads
returns-clause-reads c = bands_reads_whole _ _ _ _ _ c.loop-band.invariant
    (last _ _ _ c.as_slice-band-items.ensures.value (omega arith)) _ refl
