use Rattle.std.proofs.Common.{◌≡◌, ℕ, List, length, take, ap, ◌∙◌, arith}
use Rattle.std.specs.Prelude.{sum_by}
use Rattle.std.proofs.Math.Seq.{take-length}
use Rattle.packet_headers.specs.declared.packet.PacketBand.{PacketBand}
use Rattle.packet_headers.specs.Words.{band_body}
use Rattle.packet_headers.proofs.reading.body.packet_body.Goals as goal

all_bands : (xs bands : List PacketBand) (i len : ℕ) → len ≡ sum_by band_body (take i bands)
    → xs ≡ bands → i ≡ length xs → len ≡ sum_by band_body bands
all_bands xs bands i len e same l =
    e ∙ ap (λ n. sum_by band_body (take n bands)) (l ∙ ap length same)
    ∙ ap (sum_by band_body) (take-length bands)

pub returns : goal.returns
returns c = all_bands c.as_slice-band-items.result.now c.args.packet.now.bands.items
    c.loop-band.band-index _ c.loop-band.invariant.0 c.as_slice-band-items.ensures.value
    (omega arith)
