use Rattle.pnm_frames.proofs.Samples.{area}
use Rattle.pnm_frames.proofs.raster.read_raster.Goals as goal

pub read_rows-requires-clause-size : goal.read_rows-requires-clause-size
read_rows-requires-clause-size g c =
    area c.args.header.width c.args.header.height c.requires.width c.requires.height
