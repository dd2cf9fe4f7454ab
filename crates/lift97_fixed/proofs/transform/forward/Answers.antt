use Rattle.std.proofs.Common.{arith, ◌∙◌, drop, length}
use Rattle.std.proofs.lemmas.List.{take_at}
use Rattle.lift97_fixed.proofs.Levels.{levels_step, levels_all}
use Rattle.lift97_fixed.proofs.transform.forward.Goals as goal

pub loop-level-preserved : goal.loop-level-preserved
loop-level-preserved c =
    levels_step c.args.levels c.loop-level._level c.args.plane.now.width c.args.plane.now.height c.loop-level.width c.loop-level.height
    c.half_up-width.result c.half_up-height.result c.args.plane.now.cells.items c.loop-level.cells c.transform_columns.new.cells c.transform_rows.new.cells
    c.loop-level-test.true c.half_up-width.ensures c.half_up-height.ensures c.loop-level.invariant
    (omega arith) c.transform_rows.ensures.within
    c.transform_columns.ensures.value c.transform_rows.ensures.value

pub returns-clause-value : goal.returns-clause-value
returns-clause-value c =
    take_at c.loop-level.cells (drop
    (length c.loop-level.cells) c.args.plane.now.cells.items) c.args.plane.now.cells.len
    (omega arith)
    ∙ levels_all c.args.levels c.loop-level._level c.args.plane.now.width c.args.plane.now.height c.loop-level.width c.loop-level.height
    c.args.plane.now.cells.items c.loop-level.cells (omega arith) c.loop-level.invariant
