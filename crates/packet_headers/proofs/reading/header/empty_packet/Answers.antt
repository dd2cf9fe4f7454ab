use Rattle.std.proofs.Common.{arith}
use Rattle.packet_headers.proofs.ReadHeaders.{empty_made}
use Rattle.packet_headers.proofs.reading.header.empty_packet.Goals as goal

pub returns : goal.returns
returns c = empty_made _ _ _ _ c.loop-band.invariant c.as_slice-band-items.ensures.value
    (omega arith)
