use Rattle.std.proofs.Common.{ℕ, ◌+◌, ◌*◌, ◌^◌, ◌<◌, ◌≤◌, ◌≡◌}
use Rattle.ebcot_contexts.specs.Cells.{coef_at}
use Rattle.distortion_sums.specs.Coefs.{coefs_of}
use Rattle.distortion_sums.specs.Places.{start_sum}
use Rattle.ebcot_passes.proofs.undecoded.row_error.Given as goal

abbrev pub invariant-loop-x : goal.invariant-loop-x
invariant-loop-x g l = record {
  sum : (planes : ℕ) → ((i : ℕ) → (coef_at (coefs_of (g.C.Coefs.cells l.block)) i).0 < 2 ^ planes)
      → start_sum planes (l.y * g.C.Coefs.columns l.block) (coefs_of (g.C.Coefs.cells l.block))
      + l.sum
      ≡ start_sum planes (l.y * g.C.Coefs.columns l.block + l.x)
      (coefs_of (g.C.Coefs.cells l.block));
  few : l.sum ≤ 4398046511104 * l.x;
}
