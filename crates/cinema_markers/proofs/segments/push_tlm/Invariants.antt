use Rattle.std.proofs.Common.{◌≡◌, ◌++◌, ◌+◌, ◌*◌, drop, length}
use Rattle.std.specs.List.{flat_map}
use Rattle.cinema_markers.specs.Fields.{segment}
use Rattle.cinema_markers.specs.MainHeader.{tlm, tlm_entry}
use Rattle.cinema_markers.proofs.segments.push_tlm.Given as goal

-- what is written and the entries that are left make the whole
abbrev pub invariant-loop-part : goal.invariant-loop-part
invariant-loop-part l = record {
  whole : l.out.items ++ segment (flat_map tlm_entry (drop l.part-index l.parts))
      ≡ l.fn.out.items ++ segment (tlm l.parts);
  count : length l.out.items ≡ length l.fn.out.items + (6 + 5 * l.part-index);
}
