-- The laws of tables of faults, as the tactics of functions with early returns use them.
use Rattle.cine_nums.proofs.FaultLemmas.{passed_on, decided, row_applies, row_passed, no_more_rows}
use Rattle.cine_nums.proofs.FaultLemmas.{all_rows}

-- tables after each other
pub ruleset tables = (passed_on, decided)

-- a row for each number of a range
pub ruleset ranges = (row_applies, row_passed, no_more_rows, all_rows)
