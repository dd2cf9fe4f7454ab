use Rattle.codestream_reader.proofs.Lists.{within_begun}
use Rattle.codestream_reader.proofs.shape.band_shape.Goals as goal

pub precinct_blocks-range-requires-clause-column : goal.precinct_blocks-range-requires-clause-column
precinct_blocks-range-requires-clause-column c =
    let g = c.args.geometry.now in
    within_begun g.levels g.width c.args.id.res c.args.id.px c.requires.id.column

pub precinct_blocks-range-requires-clause-row : goal.precinct_blocks-range-requires-clause-row
precinct_blocks-range-requires-clause-row c =
    let g = c.args.geometry.now in
    within_begun g.levels g.height c.args.id.res c.args.id.py c.requires.id.row
