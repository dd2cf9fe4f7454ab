use Rattle.lift97_fixed.proofs.Levels.{RowsDone}
use Rattle.lift97_fixed.proofs.transform.transform_rows.Given as goal

abbrev pub invariant-loop-y : goal.invariant-loop-y
invariant-loop-y l = RowsDone l.fn.stride l.fn.width l.y l.fn.cells l.cells
