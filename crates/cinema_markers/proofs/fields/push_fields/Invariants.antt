use Rattle.std.proofs.Common.{◌≡◌, ◌++◌, ◌+◌, ◌*◌, ◌-◌, ◌≤◌, drop, length}
use Rattle.cinema_markers.specs.Fields.{segment}
use Rattle.cinema_markers.proofs.fields.push_fields.Given as goal

-- what is written and the fields that are left make the whole, and there is room for what is left
abbrev pub invariant-loop-field : goal.invariant-loop-field
invariant-loop-field l = record {
  whole : l.out.items ++ segment (drop l.field-index l.fields) ≡ l.fn.out.items ++ segment l.fields;
  room : length l.out.items + 4 * (length l.fields - l.field-index) ≤ 192;
}
