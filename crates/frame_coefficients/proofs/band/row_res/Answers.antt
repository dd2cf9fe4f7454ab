use Rattle.std.proofs.Common.{arith, ◌∙◌}
use Rattle.band_geometry.specs.Sizes.{res_side}
use Rattle.band_geometry.proofs.ResolutionLemmas.{step_down}
use Rattle.frame_coefficients.proofs.band.row_res.Goals as goal

pub loop-res-preserved : goal.loop-res-preserved
loop-res-preserved c = record {
  within = omega arith;
  same =
      c.loop-res.invariant.same
      ∙ step_down (res_side c.args.geometry.now.levels c.args.geometry.now.height) c.loop-res.res c.args.y (omega arith)
      (omega (arith, c.if-y-res_size.true, c.res_size.ensures.height));
}
