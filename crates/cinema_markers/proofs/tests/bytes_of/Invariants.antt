use Rattle.std.proofs.Common.{◌≡◌, length}
use Rattle.cinema_markers.proofs.tests.bytes_of.Given as goal

-- how many lengths there are so far
abbrev pub invariant-loop-part : goal.invariant-loop-part
invariant-loop-part l = length l.parts.items ≡ l._part
