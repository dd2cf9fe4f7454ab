use Rattle.std.proofs.Common.{◌≡◌}
use Rattle.std.specs.Prelude.{replicate}
use Rattle.packet_headers.specs.InsideReading.{no_entry}
use Rattle.packet_headers.proofs.reading.header.empty_band.Given as goal

abbrev pub invariant-loop : goal.invariant-loop
invariant-loop l = l.entries.items ≡ replicate l.counter no_entry
