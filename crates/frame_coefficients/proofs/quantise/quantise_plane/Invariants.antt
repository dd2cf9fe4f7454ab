use Rattle.std.proofs.Common.{◌≡◌, ◌*◌, ◌<◌, ℕ, get_or}
use Rattle.dz_quantiser.specs.Coefficient.{Coefficient}
use Rattle.frame_coefficients.specs.Places.{coef_at}
use Rattle.frame_coefficients.proofs.quantise.quantise_plane.Given as goal

abbrev pub invariant-loop-y : goal.invariant-loop-y
invariant-loop-y l = record {
  done : (k : ℕ) (d : Coefficient) → k < l.y * l.geometry.width →
      get_or l.coefs k d ≡ coef_at l.geometry.levels l.geometry.width l.geometry.height l.steps l.cells k;
}
