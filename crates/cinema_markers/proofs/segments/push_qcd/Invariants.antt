use Rattle.std.proofs.Common.{◌≡◌, ◌++◌, ◌+◌, ◌*◌, drop, map, length}
use Rattle.cinema_markers.specs.Fields.{segment}
use Rattle.cinema_markers.specs.MainHeader.{qcd, step_field}
use Rattle.cinema_markers.proofs.segments.push_qcd.Given as goal

-- what is written and the steps that are left make the whole
abbrev pub invariant-loop-step : goal.invariant-loop-step
invariant-loop-step l = record {
  whole : l.out.items ++ segment (map step_field (drop l.step-index l.step-items))
      ≡ l.fn.out.items ++ segment (qcd l.levels l.steps);
  count : length l.out.items ≡ length l.fn.out.items + (5 + 2 * l.step-index);
}
