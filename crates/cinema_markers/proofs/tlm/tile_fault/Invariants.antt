use Rattle.std.proofs.Common.{◌≡◌}
use Rattle.cine_nums.specs.Profile.{parts_of}
use Rattle.cine_nums.specs.Faults.{first_fault}
use Rattle.cinema_markers.specs.Tables.{tile_row}
use Rattle.cine_nums.proofs.FaultLemmas.{rows_between}
use Rattle.cinema_markers.proofs.tlm.tile_fault.Given as goal

-- the rows from this one on decide
abbrev pub invariant-loop-i : goal.invariant-loop-i
invariant-loop-i l =
    first_fault (rows_between (tile_row l.bytes l.at) l.i (parts_of l.fn.profile))
    ≡ first_fault (rows_between (tile_row l.bytes l.at) 0 (parts_of l.fn.profile))
