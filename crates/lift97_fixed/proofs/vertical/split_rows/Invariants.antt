use Rattle.lift97_fixed.proofs.Moves.{Numbered, RowsMoved}
use Rattle.lift97_fixed.proofs.vertical.split_rows.Given as goal

abbrev pub invariant-loop-y : goal.invariant-loop-y
invariant-loop-y l = Numbered l.y l.held l.placed

abbrev pub invariant-loop-y-2 : goal.invariant-loop-y-2
invariant-loop-y-2 l =
    RowsMoved l.fn.stride l.fn.width l.fn.height l.y l.fn.cells l.cells l.held l.placed
