use Rattle.std.proofs.Common.{◌≡◌, ◌+◌, ◌*◌}
use Rattle.cine_nums.specs.Faults.{first_fault}
use Rattle.cinema_markers.specs.Tables.{band_row}
use Rattle.cine_nums.proofs.FaultLemmas.{rows_between}
use Rattle.cinema_markers.proofs.qcd.bands_fault.Given as goal

-- the rows from this one on decide
abbrev pub invariant-loop-i : goal.invariant-loop-i
invariant-loop-i l =
    first_fault (rows_between (band_row l.bytes l.qcd) l.i (3 * l.fn.levels + 1))
    ≡ first_fault (rows_between (band_row l.bytes l.qcd) 0 (3 * l.fn.levels + 1))
