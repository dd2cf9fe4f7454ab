use Rattle.std.proofs.Common.{take_all, arith}
use Rattle.std.proofs.lemmas.Bool.{le-leb, leb-true}
use Rattle.std.proofs.lemmas.List.Elements.{All-more}
use Rattle.pnm_frames.specs.Picture.{IsSample}
use Rattle.pnm_frames.proofs.raster.all_fit.Goals as goal
use Rattle.pnm_frames.proofs.raster.all_fit.Goals.{then-value-largest, else-value-largest}

pub loop-value-preserved : goal.loop-value-preserved
loop-value-preserved c = (
  λ small. All-more IsSample c.args.row.now c.loop-value.value-index 0 (omega arith)
      (elim c.if-value-largest.branch [
        | then-value-largest w ↦ c.loop-value.invariant.0 (omega arith)
        | else-value-largest w ↦ c.loop-value.invariant.0 (omega arith)
      ])
      (elim c.if-value-largest.branch [ then-value-largest w ↦ omega arith | else-value-largest w ↦ omega arith ]),
  λ all. elim c.if-value-largest.branch [
    | then-value-largest w ↦ omega (arith, all c.loop-value.value-index 0 (omega arith))
    | else-value-largest w ↦ omega (arith, c.loop-value.invariant.1 all)
  ],
)

pub returns : goal.returns
returns c = (
  λ small.
      let fits = c.loop-value.invariant.0 (leb-true _ _ small) in
      rw (take_all c.loop-value.value-index c.args.row.now (omega arith)) at fits,
  λ all. le-leb _ _ (c.loop-value.invariant.1 all),
)
