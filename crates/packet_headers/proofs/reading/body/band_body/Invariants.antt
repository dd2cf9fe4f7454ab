use Rattle.std.proofs.Common.{◌≡◌, ◌*◌, ◌≤◌, take}
use Rattle.std.specs.Prelude.{sum_by}
use Rattle.packet_headers.specs.declared.entry.Entry.{Entry}
use Rattle.packet_headers.proofs.reading.body.band_body.Given as goal

abbrev pub invariant-loop-entry : goal.invariant-loop-entry
invariant-loop-entry l = (l.len ≡ sum_by (λ (entry : Entry). entry.len)
    (take l.entry-index l.band.entries.items)) × (l.len ≤ l.entry-index * 4294967295)
