use Rattle.std.proofs.Common.{◌+◌, ◌*◌, ◌≡◌, length}
use Rattle.distortion_sums.specs.Coefs.{coefs_of}
use Rattle.ebcot_passes.specs.Coding.{AreLoaded}
use Rattle.ebcot_passes.proofs.load.load_row.Given as goal

abbrev pub invariant-loop-x : goal.invariant-loop-x
invariant-loop-x g l = record {
  long : length l.grid ≡ 1024;
  before : AreLoaded (g.C.Coefs.columns l.block) (l.y * g.C.Coefs.columns l.block + l.x)
      (coefs_of (g.C.Coefs.cells l.block)) l.grid;
}
