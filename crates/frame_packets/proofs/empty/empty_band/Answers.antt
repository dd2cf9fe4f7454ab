use Rattle.frame_packets.proofs.Nothing.{band_made, within_begun}
use Rattle.frame_packets.proofs.empty.empty_band.Goals as goal

pub precinct_blocks-range-requires-clause-column : goal.precinct_blocks-range-requires-clause-column
precinct_blocks-range-requires-clause-column c =
    let g = c.args.geometry.now in
    within_begun g.levels g.width c.args.id.res c.args.id.px c.requires.id.column

pub precinct_blocks-range-requires-clause-row : goal.precinct_blocks-range-requires-clause-row
precinct_blocks-range-requires-clause-row c =
    let g = c.args.geometry.now in
    within_begun g.levels g.height c.args.id.res c.args.id.py c.requires.id.row

pub returns : goal.returns
returns c =
    band_made c.args.geometry.now c.args.steps.now c.args.id c.args.orient
    c.precinct_blocks-range.result c.band.result.planes c.empty_entries.result.items
    c.precinct_blocks-range.ensures.value c.band.ensures.planes c.empty_entries.ensures
