use Rattle.std.proofs.Common.{◌≡◌, ℕ, ◌-◌, ◌++◌, map, ap, ◌∙◌, arith}
use Rattle.std.specs.List.{flat_map, range_with_len}
use Rattle.band_geometry.specs.Counts.{number_of}
use Rattle.band_geometry.specs.declared.places.BlockRange.{BlockRange}
use Rattle.packet_order.specs.Blocks.{row_in, blocks_in}
use Rattle.codestream_reader.proofs.Lists.{pieces_step, within_begun}
use Rattle.codestream_reader.proofs.blocks.add_band.Goals as goal

pub precinct_blocks-range-requires-clause-column : goal.precinct_blocks-range-requires-clause-column
precinct_blocks-range-requires-clause-column c =
    let g = c.args.geometry.now in
    within_begun g.levels g.width c.args.id.res c.args.id.px c.requires.id.column

pub precinct_blocks-range-requires-clause-row : goal.precinct_blocks-range-requires-clause-row
precinct_blocks-range-requires-clause-row c =
    let g = c.args.geometry.now in
    within_begun g.levels g.height c.args.id.res c.args.id.py c.requires.id.row

pub loop-row-preserved : goal.loop-row-preserved
loop-row-preserved c = record {
  items = pieces_step (number_of c.args.geometry.now)
      (row_in c.args.geometry.now c.args.id c.args.orient) c.args.numbers.now.items
      c.loop-row.numbers.items c.add_row.new.numbers.items c.loop-row.row
      c.loop-row.invariant.items c.add_row.ensures.numbers;
  count =
      let before = c.loop-row.invariant.count in
      let added = c.add_row.ensures.count in
      let few = c.precinct_blocks-range.ensures.few.0 in
      omega (arith, before, added, few);
}

pub returns-clause-numbers : goal.returns-clause-numbers
unfolding blocks_in
returns-clause-numbers c =
    let range = c.precinct_blocks-range.result in
    let whole : c.loop-row.row ≡ range.y1 - range.y0 =
    omega (arith, c.loop-row-test.false, c.loop-row.auto.row-end) in
    let pieces = λ (n : ℕ). c.args.numbers.now.items ++ map (number_of c.args.geometry.now)
    (flat_map (row_in c.args.geometry.now c.args.id c.args.orient) (range_with_len 0 n)) in
    c.loop-row.invariant.items
    ∙ ap pieces whole
    ∙ ap (λ (r : BlockRange). pieces (r.y1 - r.y0)) c.precinct_blocks-range.ensures.value

pub returns-clause-few : goal.returns-clause-few
returns-clause-few c =
    let range = c.precinct_blocks-range.result in
    let whole : c.loop-row.row ≡ range.y1 - range.y0 =
    omega (arith, c.loop-row-test.false, c.loop-row.auto.row-end) in
    let count = c.loop-row.invariant.count in
    let few = c.precinct_blocks-range.ensures.few.1 in
    omega (arith, whole, count, few)
