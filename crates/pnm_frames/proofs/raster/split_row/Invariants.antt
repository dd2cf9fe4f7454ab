use Rattle.std.proofs.Common.{◌≡◌, ◌*◌, take}
use Rattle.pnm_frames.specs.Picture.{interleaved}
use Rattle.pnm_frames.proofs.raster.split_row.Given as goal

abbrev pub invariant-loop-i : goal.invariant-loop-i
invariant-loop-i l = take (3 * l.i) l.row ≡ interleaved (take l.i l.x) (take l.i l.y) (take l.i l.z)
