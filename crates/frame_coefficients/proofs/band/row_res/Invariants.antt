use Rattle.std.proofs.Common.{◌≡◌, ◌≤◌}
use Rattle.band_geometry.specs.Sizes.{res_side}
use Rattle.band_geometry.specs.Places.{res_at, res_of}
use Rattle.frame_coefficients.proofs.band.row_res.Given as goal

abbrev pub invariant-loop-res : goal.invariant-loop-res
invariant-loop-res l = record {
  within : l.res ≤ l.geometry.levels;
  same : res_at l.geometry.levels l.geometry.height l.y
      ≡ res_of (res_side l.geometry.levels l.geometry.height) l.res l.y;
}

abbrev pub decreases-loop-res : goal.decreases-loop-res
decreases-loop-res l = l.res
