use Rattle.std.proofs.Common.{arith, ap, ◌∙◌, ℤ}
use Rattle.lift97_fixed.specs.Line.{scale}
use Rattle.lift97_fixed.specs.Plane.{columns}
use Rattle.lift97_fixed.proofs.Casts.{passed_fits}
use Rattle.lift97_fixed.proofs.Written.{scale_rows_step, scale_rows_all, row_in}
use Rattle.lift97_fixed.proofs.vertical.scale_rows.Goals as goal

pub scale_row-requires-clause-here : goal.scale_row-requires-clause-here
scale_row-requires-clause-here c =
    row_in _ c.args.height c.args.stride _ (omega arith) (omega arith)

pub loop-k-preserved : goal.loop-k-preserved
loop-k-preserved c =
    scale_rows_step _ _ _ _ _ c.loop-k.k _ c.loop-k.cells c.scale_row.new.cells
    c.requires.width.1 c.requires.parity (omega arith) c.loop-k.invariant
    (record {
      size = c.scale_row.auto.cells;
      within = c.scale_row.ensures.within;
      done =
          c.scale_row.ensures.done;
      kept = c.scale_row.ensures.kept;
    })

pub returns-clause-value : goal.returns-clause-value
returns-clause-value c =
    scale_rows_all _ _ _ _ _ _ _ c.loop-k.cells c.requires.width.0 (omega arith) c.loop-k.invariant
    ∙ ap (λ (z : ℤ). columns
    (scale z c.args.first) c.args.stride c.args.width c.args.height c.args.cells.now)
    (passed_fits c.args.c c.ranges.c)
