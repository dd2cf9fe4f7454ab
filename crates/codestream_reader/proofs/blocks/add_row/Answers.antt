use Rattle.std.proofs.Common.{◌≡◌, ◌+◌, ◌-◌, ◌++◌, map, ap, ◌∙◌, arith}
use Rattle.std.specs.List.{range_with_len}
use Rattle.band_geometry.specs.Counts.{number_of}
use Rattle.band_geometry.specs.declared.places.BlockRange.{BlockRange}
use Rattle.packet_order.specs.Blocks.{block_at}
use Rattle.codestream_reader.proofs.Lists.{row_more}
use Rattle.codestream_reader.proofs.blocks.add_row.Goals as goal

pub loop-column-preserved : goal.loop-column-preserved
loop-column-preserved c = record {
  items = row_more (number_of c.args.geometry.now)
      (λ i. block_at c.args.id c.args.orient (c.args.range.y0 + c.args.row) (c.args.range.x0 + i))
      c.args.numbers.now.items c.loop-column.numbers.items c.push.new.self.items c.number.result
      c.loop-column.column c.loop-column.invariant.items c.push.ensures.items
      c.number.ensures.counted;
  count =
      let count = c.loop-column.invariant.count in
      let pushed = c.push.ensures.len in
      omega (arith, count, pushed);
}

pub returns-clause-numbers : goal.returns-clause-numbers
returns-clause-numbers c =
    let whole : c.loop-column.column ≡ c.args.range.x1 - c.args.range.x0 =
    omega (arith, c.loop-column-test.false, c.loop-column.auto.column-end) in
    c.loop-column.invariant.items
    ∙ ap (λ n. c.args.numbers.now.items ++ map (number_of c.args.geometry.now) (map
    (λ i. block_at c.args.id c.args.orient (c.args.range.y0 + c.args.row) (c.args.range.x0 + i))
    (range_with_len 0 n))) whole
    ∙ ap (λ (r : BlockRange). c.args.numbers.now.items ++ map (number_of c.args.geometry.now) (map
    (λ i. block_at c.args.id c.args.orient (r.y0 + c.args.row) (r.x0 + i))
    (range_with_len 0 (r.x1 - r.x0)))) c.requires.range
