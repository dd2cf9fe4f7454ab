use Rattle.std.proofs.Common.{◌≡◌, ℕ, ◌+◌, ◌++◌, ◌||◌, ◌∙◌, Bool, List, Some, slice_get, map}
use Rattle.std.proofs.Common.{Contains, sym, subst, ap, refl}
use Rattle.std.specs.Option.{ForSome}
use Rattle.cine_ports.specs.Source.{File, Source, Reading}
use Rattle.cinema_run.specs.Progress.{FramesVisited, FrameVisited}
use Rattle.cinema_run.specs.Right.{Right, RightByName}
use Rattle.cinema_run.proofs.Progress.{none_visited, one_more_visited, none_broken}
use Rattle.cinema_run.proofs.FreshNames.{fresh_name}
use Rattle.cinema_run.proofs.frames.visit_frames.Goals as goal

pub returns-in-Err-clause-err : goal.returns-in-Err-clause-err
returns-in-Err-clause-err g c =
    none_broken (RightByName c.args.order.now c.args.suffix.now)
    (Right c.args.order.now c.args.suffix.now)
    (g.F.Frames.source c.list.new.self) (g.F.Frames.reading c.list.new.self).asked
    (g.O.Outputs.kept c.args.outputs.now) (g.S.Report.said c.args.report.now)
    (ap (λ (r : Reading). r.asked) c.list.ensures.reading
    ∙ (g.met.F.Frames.unlisted c.args.frames.now c.requires.unlisted).1) c.requires.kept
    c.requires.said

pub visit_frame-requires-clause-other_name : goal.visit_frame-requires-clause-other_name
visit_frame-requires-clause-other_name g c =
    let source = g.F.Frames.source in
    let suffix = c.args.suffix.now in
    let Fresh : Source → Type 0 = λ s. ForSome (g.O.Outputs.kept c.loop-i.outputs)
    (λ kept. (name : List ℕ) → slice_get s.names c.loop-i.i ≡ Some name →
    ¬ Contains (map (λ (file : File). file.name) kept.finished) (name ++ suffix)) in
    let fresh : Fresh (source c.list.new.self) =
    fresh_name c.args.order.now suffix (source c.list.new.self) c.loop-i.i
    (g.O.Outputs.kept c.args.outputs.now) (g.O.Outputs.kept c.loop-i.outputs)
    (g.S.Report.said c.args.report.now) (g.S.Report.said c.loop-i.report) c.loop-i.refused
    c.in-Ok.ensures.valid c.loop-i.invariant.done in
    subst Fresh (sym c.loop-i.invariant.source) fresh

pub loop-i-init : goal.loop-i-init
loop-i-init g c = record {
  done = none_visited (RightByName c.args.order.now c.args.suffix.now)
      (Right c.args.order.now c.args.suffix.now)
      (g.F.Frames.source c.list.new.self) (g.O.Outputs.kept c.args.outputs.now)
      (g.S.Report.said c.args.report.now) c.requires.kept c.requires.said;
  source = refl;
  closed = c.requires.closed;
  source_works = c.in-Ok.ensures.failed;
  outputs_work = c.requires.outputs_working;
  report_works = c.requires.report_working;
}

pub loop-i-preserved : goal.loop-i-preserved
loop-i-preserved g c =
    let source = g.F.Frames.source in
    let kept = g.O.Outputs.kept in
    let said = g.S.Report.said in
    let Q = RightByName c.args.order.now c.args.suffix.now in
    let R = Right c.args.order.now c.args.suffix.now in
    let listed = source c.list.new.self in
    let one : FrameVisited Q R listed c.loop-i.i (kept c.loop-i.outputs)
    (kept c.visit_frame.new.outputs) (said c.loop-i.report)
    (said c.visit_frame.new.report) c.in_ok-is_refused.is_refused =
    subst (λ (s : Source). FrameVisited Q R s c.loop-i.i (kept c.loop-i.outputs)
    (kept c.visit_frame.new.outputs) (said c.loop-i.report)
    (said c.visit_frame.new.report) c.in_ok-is_refused.is_refused)
    c.loop-i.invariant.source c.in_ok-is_refused.ensures.ok in
    let Done : Bool → Type 0 = FramesVisited Q R listed (c.loop-i.i + 1) (kept c.args.outputs.now)
    (kept c.visit_frame.new.outputs) (said c.args.report.now) (said c.visit_frame.new.report) in
    let done : Done (c.loop-i.refused || c.in_ok-is_refused.is_refused) =
    one_more_visited Q R listed c.loop-i.i (kept c.args.outputs.now) (kept c.loop-i.outputs)
    (kept c.visit_frame.new.outputs) (said c.args.report.now) (said c.loop-i.report)
    (said c.visit_frame.new.report)
    c.loop-i.refused c.in_ok-is_refused.is_refused c.loop-i.invariant.done one in
    record {
      done = subst Done (sym c.either-refused.ensures) done;
      source = c.visit_frame.ensures.source ∙ c.loop-i.invariant.source;
      closed = c.in_ok-is_refused.ensures.closed;
      source_works = c.in_ok-is_refused.ensures.source_failed;
      outputs_work = c.in_ok-is_refused.ensures.outputs_failed;
      report_works = c.in_ok-is_refused.ensures.report_failed;
    }
