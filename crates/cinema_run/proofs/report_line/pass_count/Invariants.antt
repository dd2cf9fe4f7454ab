use Rattle.std.proofs.Common.{◌≡◌, ◌≤◌, ◌*◌, sum, take}
use Rattle.cinema_run.proofs.report_line.pass_count.Given as goal

-- the passes of the blocks so far
abbrev pub invariant-loop-passes : goal.invariant-loop-passes
invariant-loop-passes l = record {
  few : l.count ≤ 255 * l.passes-index;
  made : l.count ≡ sum (take l.passes-index l.choice);
}
