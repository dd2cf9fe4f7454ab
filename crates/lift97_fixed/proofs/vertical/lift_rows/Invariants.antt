use Rattle.std.proofs.Common.{◌+◌, ◌*◌}
use Rattle.lift97_fixed.proofs.Written.{RowsWritten, lifted_place}
use Rattle.lift97_fixed.proofs.vertical.lift_rows.Given as goal

abbrev pub invariant-loop-k : goal.invariant-loop-k
invariant-loop-k l = RowsWritten l.fn.stride l.fn.width l.fn.height (2 * l.k + l.fn.first)
    (lifted_place l.fn.c l.fn.first l.fn.stride l.fn.height l.fn.cells) l.fn.cells l.cells
