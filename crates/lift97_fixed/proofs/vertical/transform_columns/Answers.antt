use Rattle.std.proofs.Common.{arith}
use Rattle.lift97_fixed.proofs.Levels.{short_columns, long_columns}
use Rattle.lift97_fixed.proofs.vertical.transform_columns.Goals as goal

pub returns-then-height-lt2-clause-value : goal.returns-then-height-lt2-clause-value
returns-then-height-lt2-clause-value c =
    short_columns c.args.stride c.args.width c.args.height c.args.cells.now c.requires.width.0
    (omega arith)

pub returns-clause-value : goal.returns-clause-value
returns-clause-value c =
    long_columns c.args.stride c.args.width c.args.height c.args.cells.now c.lift_rows.new.cells c.lift_rows-2.new.cells c.lift_rows-3.new.cells
    c.lift_rows-4.new.cells c.scale_rows.new.cells c.scale_rows-2.new.cells c.split_rows.new.cells c.requires.width.0 c.requires.width.1 c.requires.height.1 (omega arith)
    (record {
      first = c.lift_rows.ensures.value;
      second = c.lift_rows-2.ensures.value;
      third = c.lift_rows-3.ensures.value;
      fourth = c.lift_rows-4.ensures.value;
      fifth = c.scale_rows.ensures.value;
      sixth = c.scale_rows-2.ensures.value;
      last = c.split_rows.ensures.value;
    })
