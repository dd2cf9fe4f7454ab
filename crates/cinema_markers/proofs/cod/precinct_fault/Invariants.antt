use Rattle.std.proofs.Common.{◌≡◌, ◌+◌}
use Rattle.std.specs.Prelude.{slice_index}
use Rattle.cine_nums.specs.Faults.{first_fault}
use Rattle.cinema_markers.specs.Tables.{precinct_row}
use Rattle.cine_nums.proofs.FaultLemmas.{rows_between}
use Rattle.cinema_markers.proofs.cod.precinct_fault.Given as goal

-- the rows from this one on decide
abbrev pub invariant-loop-r : goal.invariant-loop-r
invariant-loop-r l =
    first_fault (rows_between (precinct_row l.bytes l.at) l.r (slice_index l.bytes (l.at + 9) + 1))
    ≡ first_fault (rows_between (precinct_row l.bytes l.at) 0 (slice_index l.bytes (l.at + 9) + 1))
