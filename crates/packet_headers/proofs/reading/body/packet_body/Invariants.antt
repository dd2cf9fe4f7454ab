use Rattle.std.proofs.Common.{◌≡◌, ◌*◌, ◌≤◌, take}
use Rattle.std.specs.Prelude.{sum_by}
use Rattle.packet_headers.specs.Words.{band_body}
use Rattle.packet_headers.proofs.reading.body.packet_body.Given as goal

abbrev pub invariant-loop-band : goal.invariant-loop-band
invariant-loop-band l = (l.len ≡ sum_by band_body (take l.band-index l.packet.bands.items))
    × (l.len ≤ l.band-index * 68719476720)
