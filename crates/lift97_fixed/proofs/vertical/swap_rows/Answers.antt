use Rattle.std.proofs.Common.{arith, refl}
use Rattle.lift97_fixed.specs.Plane.{cell}
use Rattle.lift97_fixed.proofs.Written.{swap_step}
use Rattle.lift97_fixed.proofs.vertical.swap_rows.Goals as goal

pub loop-x-preserved : goal.loop-x-preserved
loop-x-preserved c =
    swap_step c.args.stride c.args.y c.args.other c.loop-x.x c.args.cells.now c.loop-x.cells
    (cell c.args.stride c.loop-x.cells c.loop-x.x c.args.other)
    (cell c.args.stride c.loop-x.cells c.loop-x.x c.args.y)
    (omega arith) (omega arith) (omega arith) c.if-y-other.false c.loop-x.invariant refl refl
