use Rattle.std.proofs.Common.{◌≡◌, ◌+◌, ◌++◌, take}
use Rattle.arrayvec.specs.ArrayVec.{array_vec_len}
use Rattle.codestream_reader.proofs.blocks.add_entries.Given as goal

abbrev pub invariant-loop-entry : goal.invariant-loop-entry
invariant-loop-entry l = record {
  items : l.entries.items ≡ l.initial.entries.items ++ take l.entry-index l.band.entries.items;
  count : array_vec_len l.entries ≡ array_vec_len l.initial.entries + l.entry-index;
}
