use Rattle.std.proofs.Common.{ℕ, ◌*◌, ◌^◌, ◌<◌, ◌≤◌, ◌≡◌}
use Rattle.ebcot_contexts.specs.Cells.{coef_at}
use Rattle.distortion_sums.specs.Coefs.{coefs_of}
use Rattle.distortion_sums.specs.Places.{start_sum}
use Rattle.ebcot_passes.proofs.undecoded.undecoded_distortion.Given as goal

abbrev pub invariant-loop-y : goal.invariant-loop-y
invariant-loop-y g l = record {
  sum : (planes : ℕ) → ((i : ℕ) → (coef_at (coefs_of (g.C.Coefs.cells l.block)) i).0 < 2 ^ planes)
      → l.sum ≡ start_sum planes (l.y * g.C.Coefs.columns l.block)
      (coefs_of (g.C.Coefs.cells l.block));
  few : l.sum ≤ 140737488355328 * l.y;
}
