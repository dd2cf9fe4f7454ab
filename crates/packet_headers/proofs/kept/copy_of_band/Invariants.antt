use Rattle.std.proofs.Common.{◌≡◌, take}
use Rattle.packet_headers.proofs.kept.copy_of_band.Given as goal

abbrev pub invariant-loop-entry : goal.invariant-loop-entry
invariant-loop-entry l = l.entries.items ≡ take l.entry-index l.band.entries.items
