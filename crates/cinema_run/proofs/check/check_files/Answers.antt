use Rattle.std.proofs.Common.{◌+◌, ◌||◌, ◌∙◌, Bool, None, ap, arith, subst, sym, refl}
use Rattle.cine_ports.specs.Source.{Source, Reading}
use Rattle.cinema_run.specs.Progress.{FrameVisited, FramesVisited}
use Rattle.cinema_run.specs.RightCheck.{RightCheck, RightCheckByName}
use Rattle.cinema_run.proofs.Outputs.{on_err}
use Rattle.cinema_run.proofs.Progress.{none_visited, one_more_visited, none_broken}
use Rattle.cinema_run.proofs.check.check_files.Goals as goal

pub returns-in-Err-clause-err : goal.returns-in-Err-clause-err
returns-in-Err-clause-err g c =
    none_broken RightCheckByName RightCheck (g.F.Frames.source c.list.new.self)
    (g.F.Frames.reading c.list.new.self).asked None (g.S.Report.said c.args.report.now)
    (ap (λ (r : Reading). r.asked) c.list.ensures.reading
    ∙ (g.met.F.Frames.unlisted c.args.frames.now c.requires.unlisted).1) (λ kept e. absurd cc)
    c.requires.said

pub returns-in_err-buffer-clause-err : goal.returns-in_err-buffer-clause-err
returns-in_err-buffer-clause-err g c =
    on_err c.from_residual.result
    (none_broken RightCheckByName RightCheck (g.F.Frames.source c.args.frames.now)
    (g.F.Frames.reading c.args.frames.now).asked None (g.S.Report.said c.args.report.now)
    (g.met.F.Frames.unlisted c.args.frames.now c.requires.unlisted).1 (λ kept e. absurd cc)
    c.requires.said)

pub loop-i-init : goal.loop-i-init
loop-i-init g c = record {
  done = none_visited RightCheckByName RightCheck (g.F.Frames.source c.list.new.self) None
      (g.S.Report.said c.args.report.now) (λ kept e. absurd cc) c.requires.said;
  room = omega (arith, c.in_ok-buffer.ensures, c.as_mut_slice-bytes.ensures.len);
  source = refl;
  source_works = c.in-Ok.ensures.failed;
  report_works = c.requires.report_working;
}

pub loop-i-preserved : goal.loop-i-preserved
loop-i-preserved g c =
    let source = g.F.Frames.source in
    let said = g.S.Report.said in
    let listed = source c.list.new.self in
    let one : FrameVisited RightCheckByName RightCheck listed c.loop-i.i None None
    (said c.loop-i.report) (said c.check_file.new.report) c.in_ok-is_refused.is_refused =
    subst (λ (s : Source). FrameVisited RightCheckByName RightCheck s c.loop-i.i None None
    (said c.loop-i.report) (said c.check_file.new.report) c.in_ok-is_refused.is_refused)
    c.loop-i.invariant.source c.in_ok-is_refused.ensures.ok in
    let Done : Bool → Type 0 = FramesVisited RightCheckByName RightCheck listed (c.loop-i.i + 1)
    None None (said c.args.report.now) (said c.check_file.new.report) in
    let done : Done (c.loop-i.refused || c.in_ok-is_refused.is_refused) =
    one_more_visited RightCheckByName RightCheck listed c.loop-i.i None None None
    (said c.args.report.now) (said c.loop-i.report) (said c.check_file.new.report)
    c.loop-i.refused c.in_ok-is_refused.is_refused c.loop-i.invariant.done one in
    record {
      done = subst Done (sym c.either-refused.ensures) done;
      room = c.check_file.ensures.room ∙ c.loop-i.invariant.room;
      source = c.check_file.ensures.source ∙ c.loop-i.invariant.source;
      source_works = c.in_ok-is_refused.ensures.source_failed;
      report_works = c.in_ok-is_refused.ensures.report_failed;
    }
