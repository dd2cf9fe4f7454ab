use Rattle.std.proofs.Common.{◌≡◌, ◌+◌, None, false, length}
use Rattle.cine_nums.specs.Limits.{frame_limit}
use Rattle.cinema_run.specs.Progress.{FramesVisited}
use Rattle.cinema_run.specs.RightCheck.{RightCheck, RightCheckByName}
use Rattle.cinema_run.proofs.check.check_files.Given as goal

-- the files before this one are visited, and nothing has failed
abbrev pub invariant-loop-i : goal.invariant-loop-i
invariant-loop-i g l =
    let source = g.F.Frames.source in
    let said = g.S.Report.said in
    record {
      done : FramesVisited RightCheckByName RightCheck (source l.initial.frames) l.i None None
          (said l.fn.report) (said l.report) l.refused;
      room : length l.bytes ≡ frame_limit + 1;
      source : source l.frames ≡ source l.initial.frames;
      source_works : g.F.Frames.has_failed l.frames ≡ false;
      report_works : g.S.Report.has_failed l.report ≡ false;
    }
