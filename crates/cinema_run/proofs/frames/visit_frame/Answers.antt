use Rattle.std.proofs.Common.{◌≡◌, Option, Result, Ok, Err, refl, sym}
use Rattle.std.proofs.Common.{subst}
use Rattle.std.proofs.lemmas.Result.{IfOk-weaker}
use Rattle.cine_ports.specs.Outputs.{Kept}
use Rattle.pnm_frames.specs.declared.fault.FrameFault.{FrameFault}
use Rattle.pnm_frames.specs.declared.refusal.FrameRefusal.{FrameRefusal}
use Rattle.pnm_frames.specs.declared.refusal.FrameRefusal.TheVariants as refusals
use Rattle.pnm_frames.specs.Fault.{Fails}
use Rattle.pnm_frames.specs.Picture.{Picture}
use Rattle.pnm_frames.specs.View.{picture_of}
use Rattle.cinema_run.specs.Right.{refused}
use Rattle.cinema_run.specs.declared.refusal.Refusal.TheVariants.{File}
use Rattle.cinema_run.specs.Progress.{VisitBrokeOff}
use Rattle.cinema_run.proofs.Breaks.{none_added}
use Rattle.cinema_run.proofs.Known.{visit_at, breaks_at}
use Rattle.cinema_run.proofs.Outputs.{err_more, on_err}
use Rattle.cinema_run.proofs.frames.visit_frame.Goals as goal

-- the fault for which a file was refused
faulty : (refusal : FrameRefusal) (fault : FrameFault) (read : Result Picture FrameFault) →
    refusal ≡ refusals.Fault fault → Fails refusal read → read ≡ Err fault
faulty refusal fault read is fails = subst (λ (r : FrameRefusal). Fails r read) is fails

pub returns-in-Ok-read_frame-clause-err : goal.returns-in-Ok-read_frame-clause-err
returns-in-Ok-read_frame-clause-err g c =
    err_more c.visit_picture.result (breaks_at c.args.order.now c.args.suffix.now
    (g.F.Frames.source c.args.frames.now) (g.F.Frames.source c.begin.new.self)
    (g.F.Frames.source c.read_frame.new.f) c.args.i c.name-name.result.now
    (g.F.Frames.reading c.begin.new.self).left c.sizes_of.result
    (Ok (picture_of c.in-Ok-read_frame.frame))
    (g.O.Outputs.kept c.args.outputs.now) (g.O.Outputs.kept c.visit_picture.new.outputs)
    (g.S.Report.said c.args.report.now) (g.S.Report.said c.visit_picture.new.report)
    (record {
      begun_same = c.begin.ensures.source;
      read_same = c.read_frame.ensures.source;
      listed = c.requires.listed;
      whole = c.in-Ok.ensures.left;
      named = c.name-name.ensures;
      sizes = c.sizes_of.ensures.value;
      exact = c.in-Ok-read_frame.ensures.exact;
    })) c.visit_picture.ensures.err

pub returns-in-Ok-read_frame-clause-ok : goal.returns-in-Ok-read_frame-clause-ok
returns-in-Ok-read_frame-clause-ok g c =
    IfOk-weaker c.visit_picture.result _ _ (λ is_refused done. record {
      visit = done.0;
      is_visit = visit_at c.args.order.now c.args.suffix.now (g.F.Frames.source c.args.frames.now)
          (g.F.Frames.source c.begin.new.self) (g.F.Frames.source c.read_frame.new.f)
          c.args.i c.name-name.result.now
          (g.F.Frames.reading c.begin.new.self).left c.sizes_of.result
          (Ok (picture_of c.in-Ok-read_frame.frame)) done.0
          (record {
            begun_same = c.begin.ensures.source;
            read_same = c.read_frame.ensures.source;
            listed = c.requires.listed;
            whole = c.in-Ok.ensures.left;
            named = c.name-name.ensures;
            sizes = c.sizes_of.ensures.value;
            exact = c.in-Ok-read_frame.ensures.exact;
          }) done.1;
      kept = done.2;
      said = done.3;
      refused = done.4;
    }) c.visit_picture.ensures.ok

pub returns-in_err-refuse-in-Fault-clause-err : goal.returns-in_err-refuse-in-Fault-clause-err
returns-in_err-refuse-in-Fault-clause-err g c =
    let kept = g.O.Outputs.kept c.args.outputs.now in
    let said = g.S.Report.said c.args.report.now in
    let said_now = g.S.Report.said c.refuse.new.report in
    let name = c.name.result.now in
    let fault = c.in-Fault.fault in
    let broken : VisitBrokeOff (λ v. v ≡ refused name (File fault)) kept kept said said_now =
    subst (λ (k : Option Kept). VisitBrokeOff (λ v. v ≡ refused name (File fault)) k k said said_now)
    (none_added kept c.requires.at_rest) (c.in_err-refuse-in-Fault.ensures.err kept) in
    on_err c.from_residual.result
    (breaks_at c.args.order.now c.args.suffix.now (g.F.Frames.source c.args.frames.now)
    (g.F.Frames.source c.begin.new.self) (g.F.Frames.source c.read_frame.new.f)
    c.args.i name (g.F.Frames.reading c.begin.new.self).left c.sizes_of.result
    (Err fault) kept kept said said_now
    (record {
      begun_same = c.begin.ensures.source;
      read_same = c.read_frame.ensures.source;
      listed = c.requires.listed;
      whole = c.in-Ok.ensures.left;
      named = c.name.ensures;
      sizes = c.sizes_of.ensures.value;
      exact = λ known. faulty c.in-Err-read_frame.refusal fault _ c.in-Fault.is
          (c.in-Err-read_frame.ensures.exact known);
    }) broken)

pub returns-in_ok-refuse-in-Fault-clause-ok : goal.returns-in_ok-refuse-in-Fault-clause-ok
returns-in_ok-refuse-in-Fault-clause-ok g c =
    let name = c.name.result.now in
    let fault = c.in-Fault.fault in
    record {
      visit = refused name (File fault);
      is_visit = visit_at c.args.order.now c.args.suffix.now (g.F.Frames.source c.args.frames.now)
          (g.F.Frames.source c.begin.new.self) (g.F.Frames.source c.read_frame.new.f)
          c.args.i name (g.F.Frames.reading c.begin.new.self).left c.sizes_of.result (Err fault)
          (refused name (File fault))
          (record {
            begun_same = c.begin.ensures.source;
            read_same = c.read_frame.ensures.source;
            listed = c.requires.listed;
            whole = c.in-Ok.ensures.left;
            named = c.name.ensures;
            sizes = c.sizes_of.ensures.value;
            exact = λ known. faulty c.in-Err-read_frame.refusal fault _ c.in-Fault.is
                (c.in-Err-read_frame.ensures.exact known);
          }) refl;
      kept = sym (none_added (g.O.Outputs.kept c.args.outputs.now) c.requires.at_rest);
      said = c.in_ok-refuse-in-Fault.ensures.ok;
      refused = refl;
    }
