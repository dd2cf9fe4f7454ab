use Rattle.std.proofs.Common.{◌≡◌, ◌+◌, ◌++◌, map}
use Rattle.std.specs.List.{range_with_len}
use Rattle.arrayvec.specs.ArrayVec.{array_vec_len}
use Rattle.band_geometry.specs.Counts.{number_of}
use Rattle.packet_order.specs.Blocks.{block_at}
use Rattle.codestream_reader.proofs.blocks.add_row.Given as goal

abbrev pub invariant-loop-column : goal.invariant-loop-column
invariant-loop-column l = record {
  items : l.numbers.items ≡ l.initial.numbers.items
      ++ map (number_of l.geometry) (map
      (λ i. block_at l.id l.orient (l.range.y0 + l.row) (l.range.x0 + i))
      (range_with_len 0 l.column));
  count : array_vec_len l.numbers ≡ array_vec_len l.initial.numbers + l.column;
}
