use Rattle.packet_headers.proofs.ReadPackets.{BandsSofar}
use Rattle.packet_headers.proofs.reading.header.read_bands.Given as goal

abbrev pub invariant-loop-band : goal.invariant-loop-band
invariant-loop-band l = BandsSofar l.shape.bands.items l.initial.bits l.bits l.bands.items
    l.band-index
