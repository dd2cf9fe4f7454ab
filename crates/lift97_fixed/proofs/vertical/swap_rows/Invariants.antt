use Rattle.lift97_fixed.proofs.Written.{Swapped}
use Rattle.lift97_fixed.proofs.vertical.swap_rows.Given as goal

abbrev pub invariant-loop-x : goal.invariant-loop-x
invariant-loop-x l = Swapped l.fn.stride l.fn.y l.fn.other l.x l.fn.cells l.cells
