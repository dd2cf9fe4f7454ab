use Rattle.lift97_fixed.proofs.Written.{Written, scaled_row}
use Rattle.lift97_fixed.proofs.vertical.scale_cells.Given as goal

abbrev pub invariant-loop-x : goal.invariant-loop-x
invariant-loop-x l = Written l.fn.stride l.fn.y l.x
    (scaled_row l.fn.c l.fn.stride l.fn.y l.fn.cells) l.fn.cells l.cells
