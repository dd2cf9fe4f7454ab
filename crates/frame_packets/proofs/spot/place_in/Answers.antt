use Rattle.std.proofs.Common.{ap, arith}
use Rattle.band_geometry.proofs.PrecinctLemmas.{blocks_in_precincts}
use Rattle.frame_packets.proofs.spot.place_in.Goals as goal

pub precinct_blocks-range-requires-clause-column : goal.precinct_blocks-range-requires-clause-column
precinct_blocks-range-requires-clause-column c =
    let is = c.requires in
    let b = c.args.id in
    let within = (blocks_in_precincts c.args.geometry.now b.res b.orient b.x b.y is.band is.column
    is.row).0 in
    let px = ap (λ p. p.px) c.packet_of-packet.ensures in
    omega (arith, within, px)

pub precinct_blocks-range-requires-clause-row : goal.precinct_blocks-range-requires-clause-row
precinct_blocks-range-requires-clause-row c =
    let is = c.requires in
    let b = c.args.id in
    let within = (blocks_in_precincts c.args.geometry.now b.res b.orient b.x b.y is.band is.column
    is.row).1 in
    let py = ap (λ p. p.py) c.packet_of-packet.ensures in
    omega (arith, within, py)
