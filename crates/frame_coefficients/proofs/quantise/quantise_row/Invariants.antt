use Rattle.std.proofs.Common.{◌≡◌, ◌+◌, ◌*◌, ◌<◌, ◌≤◌, ℕ, get_or}
use Rattle.band_geometry.specs.Sizes.{res_side}
use Rattle.dz_quantiser.specs.Coefficient.{Coefficient}
use Rattle.frame_coefficients.specs.Places.{coef_at}
use Rattle.frame_coefficients.proofs.Rows.{before}
use Rattle.frame_coefficients.proofs.quantise.quantise_row.Given as goal

abbrev pub invariant-loop-column : goal.invariant-loop-column
invariant-loop-column l = record {
  reached : l.from ≡ l.y * l.geometry.width + before
      (res_side l.geometry.levels l.geometry.width) l.column;
  earlier : (k : ℕ) (d : Coefficient) → k < l.y * l.geometry.width →
      get_or l.coefs k d ≡ get_or l.initial.coefs k d;
  done : (k : ℕ) (d : Coefficient) → l.y * l.geometry.width ≤ k → k < l.from →
      get_or l.coefs k d ≡ coef_at l.geometry.levels l.geometry.width l.geometry.height l.steps l.cells k;
}
