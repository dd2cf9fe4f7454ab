use Rattle.std.proofs.Common.{◌≡◌, map, take}
use Rattle.packet_headers.specs.Words.{band_of}
use Rattle.packet_headers.specs.InsideReading.{empty_band}
use Rattle.packet_headers.proofs.reading.header.empty_packet.Given as goal

abbrev pub invariant-loop-band : goal.invariant-loop-band
invariant-loop-band l = l.bands.items ≡ map (λ shape. band_of (empty_band shape))
    (take l.band-index l.shape.bands.items)
