use Rattle.std.proofs.Common.{◌≡◌, length}
use Rattle.std.specs.Prelude.{All}
use Rattle.packet_headers.specs.Written.{CanWriteEntry}
use Rattle.packet_headers.proofs.writing.tests.band_of.Given as goal

abbrev pub invariant-loop-place : goal.invariant-loop-place
invariant-loop-place l = record {
  count : length l.entries.items ≡ l.place;
  fits : All (CanWriteEntry 9) l.entries.items;
}
