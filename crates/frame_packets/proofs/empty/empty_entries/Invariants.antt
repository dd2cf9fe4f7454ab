use Rattle.std.proofs.Common.{◌≡◌, replicate}
use Rattle.profile_reader.specs.Packets.{left_out}
use Rattle.frame_packets.proofs.empty.empty_entries.Given as goal

abbrev pub invariant-loop-place : goal.invariant-loop-place
invariant-loop-place l = l.entries.items ≡ replicate l._place left_out.entry
