use Rattle.std.proofs.Common.{◌≡◌, ◌+◌, ◌*◌, ◌≤◌, ◌++◌, map}
use Rattle.std.specs.List.{flat_map, range_with_len}
use Rattle.arrayvec.specs.ArrayVec.{array_vec_len}
use Rattle.band_geometry.specs.Counts.{number_of}
use Rattle.packet_order.specs.Blocks.{row_in}
use Rattle.codestream_reader.proofs.blocks.add_band.Given as goal

abbrev pub invariant-loop-row : goal.invariant-loop-row
invariant-loop-row l = record {
  items : l.numbers.items ≡ l.initial.numbers.items
      ++ map (number_of l.geometry)
      (flat_map (row_in l.geometry l.id l.orient) (range_with_len 0 l.row));
  count : array_vec_len l.numbers ≤ array_vec_len l.initial.numbers + 4 * l.row;
}
