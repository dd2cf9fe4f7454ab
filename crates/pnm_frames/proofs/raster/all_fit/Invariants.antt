use Rattle.std.proofs.Common.{◌≤◌, take, All}
use Rattle.pnm_frames.specs.Picture.{IsSample}
use Rattle.pnm_frames.proofs.raster.all_fit.Given as goal

-- the largest value so far has 12 bits exactly where all have
abbrev pub invariant-loop-value : goal.invariant-loop-value
invariant-loop-value l =
    (l.largest ≤ 4095 → All IsSample (take l.value-index l.row)) ×
    (All IsSample l.row → l.largest ≤ 4095)
