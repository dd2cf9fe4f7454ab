use Rattle.std.proofs.Common.{◌≡◌, ◌*◌, ◌≤◌, take}
use Rattle.arrayvec.specs.ArrayVec.{array_vec_len}
use Rattle.codestream_reader.specs.Spans.{entries_in}
use Rattle.codestream_reader.proofs.blocks.entries_of.Given as goal

abbrev pub invariant-loop-band : goal.invariant-loop-band
invariant-loop-band l = record {
  items : l.entries.items ≡ entries_in (take l.band-index l.packet.bands.items);
  count : array_vec_len l.entries ≤ 16 * l.band-index;
}
