use Rattle.std.proofs.Common.{◌*◌}
use Rattle.distortion_sums.specs.Coefs.{coefs_of}
use Rattle.ebcot_passes.specs.Coding.{AreLoaded}
use Rattle.ebcot_passes.proofs.load.fill.Given as goal

abbrev pub invariant-loop-y : goal.invariant-loop-y
invariant-loop-y g l = AreLoaded (g.C.Coefs.columns l.block) (l.y * g.C.Coefs.columns l.block)
    (coefs_of (g.C.Coefs.cells l.block)) l.grid
