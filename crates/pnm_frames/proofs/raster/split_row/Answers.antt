use Rattle.std.proofs.Common.{arith}
use Rattle.pnm_frames.proofs.Planes.{split-more}
use Rattle.pnm_frames.proofs.raster.split_row.Goals as goal

pub loop-i-preserved : goal.loop-i-preserved
loop-i-preserved c =
    split-more c.args.row.now c.loop-i.x c.loop-i.y c.loop-i.z c.loop-i.i (omega arith)
    (omega arith) (omega arith) (omega arith) c.loop-i.invariant
