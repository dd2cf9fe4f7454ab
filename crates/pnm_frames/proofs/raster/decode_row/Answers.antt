use Rattle.std.proofs.Common.{arith}
use Rattle.pnm_frames.proofs.Samples.{decoded}
use Rattle.pnm_frames.proofs.raster.decode_row.Goals as goal

pub returns : goal.returns
returns c = decoded _ c.args.bytes.now (omega arith)
    (λ i. omega (arith, c.type_inv.bytes i)) c.read_u16_into.ensures
