use Rattle.std.proofs.Common.{◌≡◌, ◌<◌, ◌≤◌, ℕ, pos, get_or}
use Rattle.dz_quantiser.specs.Index.{index_of}
use Rattle.dz_quantiser.specs.Coefficient.{Coefficient}
use Rattle.frame_coefficients.proofs.quantise.quantise_run.Given as goal

abbrev pub invariant-loop-i : goal.invariant-loop-i
invariant-loop-i l = record {
  before : (k : ℕ) (d : Coefficient) → k < l.from → get_or l.coefs k d ≡ get_or l.initial.coefs k d;
  done : (k : ℕ) (d : Coefficient) → l.from ≤ k → k < l.i →
      get_or l.coefs k d ≡ index_of (get_or l.cells k
      (pos 0)) l.band.step l.band.range l.band.planes;
}
