use Rattle.std.proofs.Common.{◌≡◌, false}
use Rattle.cinema_run.specs.Progress.{FramesVisited}
use Rattle.cinema_run.specs.Right.{Right, RightByName}
use Rattle.cinema_run.proofs.frames.visit_frames.Given as goal

-- the frames before this one are visited, and nothing has failed
abbrev pub invariant-loop-i : goal.invariant-loop-i
invariant-loop-i g l =
    let source = g.F.Frames.source in
    let kept = g.O.Outputs.kept in
    let said = g.S.Report.said in
    record {
      done : FramesVisited (RightByName l.fn.order l.fn.suffix) (Right l.fn.order l.fn.suffix)
          (source l.initial.frames) l.i
          (kept l.fn.outputs) (kept l.outputs) (said l.fn.report) (said l.report) l.refused;
      source : source l.frames ≡ source l.initial.frames;
      closed : g.O.Outputs.is_open l.outputs ≡ false;
      source_works : g.F.Frames.has_failed l.frames ≡ false;
      outputs_work : g.O.Outputs.has_failed l.outputs ≡ false;
      report_works : g.S.Report.has_failed l.report ≡ false;
    }
