use Rattle.std.proofs.Common.{arith}
use Rattle.lift97_fixed.proofs.Written.{scale_row_step}
use Rattle.lift97_fixed.proofs.vertical.scale_cells.Goals as goal

pub loop-x-preserved : goal.loop-x-preserved
loop-x-preserved c =
    scale_row_step _ c.args.stride c.args.y c.loop-x.x c.args.cells.now c.loop-x.cells c.scaled.result
    (omega arith) (omega arith) c.loop-x.invariant c.scaled.ensures.value c.scaled.ensures.within
