use Rattle.std.proofs.Common.{arith}
use Rattle.lift97_fixed.proofs.Levels.{rows_step, rows_all}
use Rattle.lift97_fixed.proofs.transform.transform_rows.Goals as goal

pub loop-y-preserved : goal.loop-y-preserved
loop-y-preserved c =
    rows_step c.args.stride c.args.width c.args.height c.loop-y.y _ c.args.cells.now c.loop-y.cells c.forward_line.new.line
    (omega arith) c.requires.width.1 c.loop-y-test.true (omega arith)
    (omega arith) c.loop-y.invariant c.forward_line.ensures.value c.forward_line.auto.line c.forward_line.ensures.within

pub returns-clause-value : goal.returns-clause-value
returns-clause-value c =
    rows_all c.args.stride c.args.width c.args.height c.loop-y.y c.args.cells.now c.loop-y.cells
    (omega arith) c.requires.width.1 (omega arith) c.loop-y.invariant
