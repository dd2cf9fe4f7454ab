use Rattle.std.proofs.Common.{arith}
use Rattle.packet_headers.proofs.ReadHeaders.{unfilled_is}
use Rattle.packet_headers.proofs.reading.header.empty_band.Goals as goal

pub returns : goal.returns
returns c = unfilled_is _ _ _ c.loop.invariant (omega arith)
