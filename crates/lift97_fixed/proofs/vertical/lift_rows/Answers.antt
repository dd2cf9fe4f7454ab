use Rattle.std.proofs.Common.{arith, ap, ◌∙◌, ◌+◌, ◌*◌, ℤ, length}
use Rattle.lift97_fixed.specs.Line.{lift}
use Rattle.lift97_fixed.specs.Plane.{columns}
use Rattle.lift97_fixed.proofs.Casts.{passed_fits}
use Rattle.lift97_fixed.proofs.Written.{lift_rows_step, lift_rows_all, row_in, left_row_in}
use Rattle.lift97_fixed.proofs.Written.{right_row_in, left_apart, right_apart}
use Rattle.lift97_fixed.proofs.vertical.lift_rows.Goals as goal

pub lift_row-requires-clause-here : goal.lift_row-requires-clause-here
lift_row-requires-clause-here c = row_in _ c.args.height c.args.stride _ (omega arith) (omega arith)

pub lift_row-requires-clause-above : goal.lift_row-requires-clause-above
lift_row-requires-clause-above c = (
  left_row_in (2 * c.loop-k.k + c.args.first) c.left_of.result c.args.height c.args.stride
      (length c.loop-k.cells) c.left_of.ensures (omega arith) (omega arith)
      (omega arith),
  left_apart
      (2 * c.loop-k.k + c.args.first) c.left_of.result c.left_of.ensures,
)

pub lift_row-requires-clause-below : goal.lift_row-requires-clause-below
lift_row-requires-clause-below c = (
  right_row_in (2 * c.loop-k.k + c.args.first) c.right_of.result c.args.height c.args.stride
      (length c.loop-k.cells) c.right_of.ensures (omega arith) (omega arith) (omega arith),
  right_apart (2 * c.loop-k.k + c.args.first) c.right_of.result c.args.height c.right_of.ensures
      (omega arith) (omega arith),
)

pub loop-k-preserved : goal.loop-k-preserved
loop-k-preserved c =
    lift_rows_step _ _ _ _ _ c.loop-k.k _ c.loop-k.cells c.lift_row.new.cells c.left_of.result c.right_of.result
    c.requires.width.1 c.requires.height.0 c.requires.parity
    (omega arith) c.left_of.ensures c.right_of.ensures c.loop-k.invariant
    (record {
      size = c.lift_row.auto.cells;
      within = c.lift_row.ensures.within;
      done =
          c.lift_row.ensures.done;
      kept = c.lift_row.ensures.kept;
    })

pub returns-clause-value : goal.returns-clause-value
returns-clause-value c =
    lift_rows_all _ _ _ _ _ _ _ c.loop-k.cells c.requires.width.0 (omega arith) c.loop-k.invariant
    ∙ ap (λ (z : ℤ). columns
    (lift z c.args.first) c.args.stride c.args.width c.args.height c.args.cells.now)
    (passed_fits c.args.c c.ranges.c)
