use Rattle.std.proofs.Common.{◌≡◌, ◌++◌, replicate}
use Rattle.cinema_markers.proofs.segments.push_precinct_sizes.Given as goal

-- the sizes of precincts so far
abbrev pub invariant-loop-level : goal.invariant-loop-level
invariant-loop-level l = l.out.items ≡ l.initial.out.items ++ replicate l._level 0x88
