use Rattle.std.proofs.Common.{◌≡◌, ◌++◌, ◌∙◌, ℕ, List, Option, Ok, Err, inl, inr, refl, sym, ap}
use Rattle.std.proofs.Common.{subst}
use Rattle.cert_text.specs.declared.cert_line.CertLine.{CertLine}
use Rattle.cine_ports.specs.Outputs.{Kept}
use Rattle.cine_nums.specs.declared.budget.Budget.{Budget}
use Rattle.pnm_frames.specs.Picture.{Picture}
use Rattle.pnm_frames.specs.View.{picture_of}
use Rattle.frame_encoder.specs.Refused.{IsTooSmall}
use Rattle.frame_encoder.specs.declared.order.EncodeOrder.{EncodeOrder}
use Rattle.cinema_run.specs.Right.{accepted, refused, IsAccepted, RightFor}
use Rattle.cinema_run.specs.declared.refusal.Refusal.TheVariants.{Limit}
use Rattle.cinema_run.specs.Progress.{VisitBrokeOff}
use Rattle.cinema_run.specs.Visit.{Visit}
use Rattle.cinema_run.proofs.Breaks.{broken_for, none_added}
use Rattle.cinema_run.proofs.Outputs.{on_err}
use Rattle.cinema_run.proofs.frame.visit_picture.Goals as goal

-- a visit that is this right one is right
right_as : (order : EncodeOrder) (suffix name : List ℕ) (p : Picture) (made visit : Visit) →
    RightFor order suffix name (Ok p) made → visit ≡ made → RightFor order suffix name (Ok p) visit
right_as order suffix name p made visit right is =
    subst (λ (v : Visit). RightFor order suffix name (Ok p) v) (sym is) right

too_large : (order : EncodeOrder) (suffix name : List ℕ) (p : Picture) (budget : Budget)
    (needed : ℕ) → IsTooSmall order p budget needed →
    RightFor order suffix name (Ok p) (refused name (Limit budget needed))
too_large order suffix name p budget needed small =
    inr (record { budget = budget; needed = needed; too_small = small; is = refl })

-- the visit of a picture whose codestream and line were made
was_accepted : (order : EncodeOrder) (suffix name : List ℕ) (p : Picture) (bytes shown : List ℕ)
    (says : CertLine) → shown ≡ bytes →
    IsAccepted order suffix name p (accepted (name ++ suffix) bytes says) →
    RightFor order suffix name (Ok p) (accepted (name ++ suffix) shown says)
was_accepted order suffix name p bytes shown says same right =
    inl (subst (λ (b : List ℕ). IsAccepted order suffix name p (accepted (name ++ suffix) b says))
    (sym same) right)

pub returns-in_err-write_frame-in-Ok-clause-err :
    goal.returns-in_err-write_frame-in-Ok-clause-err
returns-in_err-write_frame-in-Ok-clause-err g c =
    let order = c.args.order.now in
    let suffix = c.args.suffix.now in
    let name = c.args.name.now in
    let p = picture_of c.args.frame.now in
    let made : Visit = accepted (name ++ suffix) c.as_slice.result.now c.in-Ok.says in
    on_err c.from_residual.result
    (broken_for (λ v. v ≡ made) (RightFor order suffix name (Ok p))
    (g.O.Outputs.kept c.args.outputs.now) (g.O.Outputs.kept c.write_frame.new.outputs)
    (g.S.Report.said c.args.report.now) (g.S.Report.said c.write_frame.new.report)
    (λ v is. right_as order suffix name p made v
    (was_accepted order suffix name p c.in-Ok.bytes.items c.as_slice.result.now c.in-Ok.says
    c.as_slice.ensures.value (c.in-Ok.ensures.accepted suffix)) is)
    c.in_err-write_frame-in-Ok.ensures.err)

pub returns-in_ok-write_frame-in-Ok-clause-ok :
    goal.returns-in_ok-write_frame-in-Ok-clause-ok
returns-in_ok-write_frame-in-Ok-clause-ok g c =
    let order = c.args.order.now in
    let suffix = c.args.suffix.now in
    let name = c.args.name.now in
    let p = picture_of c.args.frame.now in (
      accepted (name ++ suffix) c.as_slice.result.now c.in-Ok.says,
      was_accepted order suffix name p c.in-Ok.bytes.items c.as_slice.result.now c.in-Ok.says
          c.as_slice.ensures.value (c.in-Ok.ensures.accepted suffix),
      c.in_ok-write_frame-in-Ok.ensures.kept,
      c.in_ok-write_frame-in-Ok.ensures.said,
      refl,
    )

pub returns-in_err-refuse-in-LimitTooSmall-clause-err :
    goal.returns-in_err-refuse-in-LimitTooSmall-clause-err
returns-in_err-refuse-in-LimitTooSmall-clause-err g c =
    let order = c.args.order.now in
    let suffix = c.args.suffix.now in
    let name = c.args.name.now in
    let p = picture_of c.args.frame.now in
    let budget = c.in-LimitTooSmall.budget in
    let needed = c.in-LimitTooSmall.needed in
    let kept = g.O.Outputs.kept c.args.outputs.now in
    let said = g.S.Report.said c.args.report.now in
    let said_now = g.S.Report.said c.refuse.new.report in
    let broken : VisitBrokeOff (λ v. v ≡ refused name (Limit budget needed)) kept kept said
    said_now =
    subst (λ (k : Option Kept). VisitBrokeOff (λ v. v ≡ refused name (Limit budget needed)) k k said
    said_now) (none_added kept c.requires.at_rest) (c.in_err-refuse-in-LimitTooSmall.ensures.err kept) in
    on_err c.from_residual-in_err-refuse-in-LimitTooSmall.result
    (broken_for (λ v. v ≡ refused name (Limit budget needed)) (RightFor order suffix name (Ok p))
    kept kept said said_now
    (λ v is. right_as order suffix name p (refused name (Limit budget needed)) v
    (too_large order suffix name p budget needed
    (c.encode_and_certify.ensures.too_small budget needed
    (c.in-Err.is ∙ ap Err c.in-LimitTooSmall.is))) is) broken)

pub returns-in_ok-refuse-in-LimitTooSmall-clause-ok :
    goal.returns-in_ok-refuse-in-LimitTooSmall-clause-ok
returns-in_ok-refuse-in-LimitTooSmall-clause-ok g c =
    let order = c.args.order.now in
    let suffix = c.args.suffix.now in
    let name = c.args.name.now in
    let p = picture_of c.args.frame.now in
    let budget = c.in-LimitTooSmall.budget in
    let needed = c.in-LimitTooSmall.needed in (
      refused name (Limit budget needed),
      too_large order suffix name p budget needed
          (c.encode_and_certify.ensures.too_small budget needed
          (c.in-Err.is ∙ ap Err c.in-LimitTooSmall.is)),
      sym (none_added (g.O.Outputs.kept c.args.outputs.now) c.requires.at_rest),
      c.in_ok-refuse-in-LimitTooSmall.ensures.ok,
      refl,
    )
