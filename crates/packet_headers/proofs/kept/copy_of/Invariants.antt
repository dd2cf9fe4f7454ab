use Rattle.std.proofs.Common.{◌≡◌, take}
use Rattle.packet_headers.proofs.kept.copy_of.Given as goal

abbrev pub invariant-loop-band : goal.invariant-loop-band
invariant-loop-band l = l.bands.items ≡ take l.band-index l.packet.bands.items
