use Rattle.std.proofs.Common.{◌≡◌, ◌++◌, ◌∙◌, ℕ, List, Option, Err, inl, inr, ap}
use Rattle.std.proofs.Common.{refl, subst, sym}
use Rattle.cert_text.specs.declared.cert_line.CertLine.{CertLine}
use Rattle.cine_nums.specs.declared.budget.Budget.{Budget}
use Rattle.cine_ports.specs.Outputs.{Kept}
use Rattle.demo_frames.specs.Demo.{demo_picture}
use Rattle.frame_encoder.specs.Refused.{IsTooSmall}
use Rattle.frame_encoder.specs.declared.order.EncodeOrder.{EncodeOrder}
use Rattle.pnm_frames.specs.Picture.{Picture}
use Rattle.pnm_frames.specs.View.{picture_of}
use Rattle.cinema_run.specs.Arguments.{codestream_suffix}
use Rattle.cinema_run.specs.Progress.{VisitBrokeOff}
use Rattle.cinema_run.specs.Right.{accepted, refused, IsAccepted, IsTooLarge}
use Rattle.cinema_run.specs.RightCheck.{IsReadable}
use Rattle.cinema_run.specs.RightDemo.{demo_name, RightFirst}
use Rattle.cinema_run.specs.Visit.{Visit, outputs_of}
use Rattle.cinema_run.specs.declared.refusal.Refusal.TheVariants.{Limit}
use Rattle.cinema_run.proofs.Breaks.{broken_for, none_added}
use Rattle.cinema_run.proofs.Demonstrated.{all_shown, at_rest, encoded_bytes, few_bytes}
use Rattle.cinema_run.proofs.Demonstrated.{first_broken, fits, meant, no_such_name, nothing_shown}
use Rattle.cinema_run.proofs.Demonstrated.{reading_broken, rest_after, too_large_said}
use Rattle.cinema_run.proofs.Outputs.{on_err}
use Rattle.cinema_run.proofs.demo.demonstrate.Goals as goal

-- the visit of the picture with these bytes and this line
abbrev demo_visit : List ℕ → CertLine → Visit
demo_visit bytes says = accepted (demo_name ++ codestream_suffix) bytes says

-- The visit of the made picture, from the one that the encoder accepted.
abbrev IsOf : EncodeOrder → Picture → List ℕ → CertLine → Type 0
IsOf order p bytes says =
    IsAccepted order codestream_suffix demo_name p (demo_visit bytes says)

accepted_as : (order : EncodeOrder) (p q : Picture) (bytes shown : List ℕ) (says : CertLine) →
    p ≡ q → shown ≡ bytes → IsOf order p bytes says → IsOf order q shown says
accepted_as order p q bytes shown says same is right =
    subst (λ (b : List ℕ). IsOf order q b says) (sym is)
    (subst (λ (pic : Picture). IsOf order pic bytes says) same right)

too_large : (order : EncodeOrder) (p q : Picture) (budget : Budget) (needed : ℕ) → p ≡ q →
    IsTooSmall order p budget needed →
    IsTooLarge order demo_name q (refused demo_name (Limit budget needed))
too_large order p q budget needed same small = record {
  budget = budget;
  needed = needed;
  too_small = subst (λ (pic : Picture). IsTooSmall order pic budget needed) same small;
  is = refl;
}

pub returns-in_err-frame-clause-err : goal.returns-in_err-frame-clause-err
returns-in_err-frame-clause-err g c =
    on_err c.from_residual.result
    (nothing_shown c.args.order.now (demo_picture c.args.number c.args.order.now.profile)
    (g.O.Outputs.kept c.args.outputs.now) (g.S.Report.said c.args.report.now) c.requires.kept
    c.requires.said)

pub encode_and_certify-requires-clause-some_width :
    goal.encode_and_certify-requires-clause-some_width
encode_and_certify-requires-clause-some_width g c =
    (fits (picture_of c.in_ok-frame.frame) c.args.number c.args.order.now.profile
    c.in_ok-frame.ensures).0

pub encode_and_certify-requires-clause-width : goal.encode_and_certify-requires-clause-width
encode_and_certify-requires-clause-width g c =
    (fits (picture_of c.in_ok-frame.frame) c.args.number c.args.order.now.profile
    c.in_ok-frame.ensures).1

pub encode_and_certify-requires-clause-some_height :
    goal.encode_and_certify-requires-clause-some_height
encode_and_certify-requires-clause-some_height g c =
    (fits (picture_of c.in_ok-frame.frame) c.args.number c.args.order.now.profile
    c.in_ok-frame.ensures).2

pub encode_and_certify-requires-clause-height : goal.encode_and_certify-requires-clause-height
encode_and_certify-requires-clause-height g c =
    (fits (picture_of c.in_ok-frame.frame) c.args.number c.args.order.now.profile
    c.in_ok-frame.ensures).3

pub write_frame-requires-clause-at_rest : goal.write_frame-requires-clause-at_rest
write_frame-requires-clause-at_rest g c =
    at_rest (g.O.Outputs.kept c.args.outputs.now) c.requires.kept

pub write_frame-requires-clause-other_name : goal.write_frame-requires-clause-other_name
write_frame-requires-clause-other_name g c =
    no_such_name (g.O.Outputs.kept c.args.outputs.now) (demo_name ++ codestream_suffix)
    c.requires.kept

pub read_back-requires-clause-few : goal.read_back-requires-clause-few
read_back-requires-clause-few g c =
    let order = c.args.order.now in
    let p = demo_picture c.args.number order.profile in
    few_bytes order codestream_suffix demo_name c.as_slice-bytes.result.now p c.in-Ok.says
    c.requires.limits
    (accepted_as order (picture_of c.in_ok-frame.frame) p c.in-Ok.codestream.items
    c.as_slice-bytes.result.now c.in-Ok.says c.in_ok-frame.ensures c.as_slice-bytes.ensures.value
    (c.in-Ok.ensures.accepted codestream_suffix))

pub read_back-requires-clause-readable : goal.read_back-requires-clause-readable
read_back-requires-clause-readable g c =
    let order = c.args.order.now in
    let p = demo_picture c.args.number order.profile in
    meant order codestream_suffix demo_name c.as_slice-bytes.result.now p c.in-Ok.says
    c.requires.limits
    (accepted_as order (picture_of c.in_ok-frame.frame) p c.in-Ok.codestream.items
    c.as_slice-bytes.result.now c.in-Ok.says c.in_ok-frame.ensures c.as_slice-bytes.ensures.value
    (c.in-Ok.ensures.accepted codestream_suffix))

pub returns-in_err-write_frame-in-Ok-clause-err :
    goal.returns-in_err-write_frame-in-Ok-clause-err
returns-in_err-write_frame-in-Ok-clause-err g c =
    let order = c.args.order.now in
    let p = demo_picture c.args.number order.profile in
    let kept = g.O.Outputs.kept in
    let said = g.S.Report.said in
    let made : Visit = demo_visit c.as_slice-bytes.result.now c.in-Ok.says in
    let is = accepted_as order (picture_of c.in_ok-frame.frame) p c.in-Ok.codestream.items
    c.as_slice-bytes.result.now c.in-Ok.says c.in_ok-frame.ensures c.as_slice-bytes.ensures.value
    (c.in-Ok.ensures.accepted codestream_suffix) in
    on_err c.from_residual-in_err-write_frame-in-Ok.result
    (first_broken order p (kept c.args.outputs.now) (kept c.write_frame.new.outputs)
    (said c.args.report.now) (said c.write_frame.new.report) c.requires.kept c.requires.said
    (broken_for (λ v. v ≡ made) (RightFirst order p) (kept c.args.outputs.now)
    (kept c.write_frame.new.outputs) (said c.args.report.now) (said c.write_frame.new.report)
    (λ v same. subst (λ (w : Visit). RightFirst order p w) (sym same) (inl is))
    c.in_err-write_frame-in-Ok.ensures.err))

pub returns-in_err-read_back-in-Ok-clause-err : goal.returns-in_err-read_back-in-Ok-clause-err
returns-in_err-read_back-in-Ok-clause-err g c =
    let order = c.args.order.now in
    let p = demo_picture c.args.number order.profile in
    let kept = g.O.Outputs.kept in
    let said = g.S.Report.said in
    let bytes = c.as_slice-bytes.result.now in
    let made : Visit = demo_visit bytes c.in-Ok.says in
    let is = accepted_as order (picture_of c.in_ok-frame.frame) p c.in-Ok.codestream.items bytes
    c.in-Ok.says c.in_ok-frame.ensures c.as_slice-bytes.ensures.value
    (c.in-Ok.ensures.accepted codestream_suffix) in
    let k1 = kept c.write_frame.new.outputs in
    let Broke : Option Kept → List ℕ → Type 0 = λ (k : Option Kept) (b : List ℕ).
    VisitBrokeOff (IsReadable demo_name b) k k (said c.write_frame.new.report)
    (said c.read_back.new.report) in
    on_err c.from_residual-in_err-read_back-in-Ok.result
    (reading_broken order p made (kept c.args.outputs.now) k1 k1 (said c.args.report.now)
    (said c.write_frame.new.report) (said c.read_back.new.report) is c.requires.kept
    c.requires.said c.in_ok-write_frame-in-Ok.ensures.kept
    c.in_ok-write_frame-in-Ok.ensures.said
    (subst (λ (b : List ℕ). Broke k1 b)
    (encoded_bytes order codestream_suffix demo_name bytes p c.in-Ok.says is)
    (subst (λ (k : Option Kept). Broke k bytes)
    (none_added k1 (rest_after (outputs_of made) (kept c.args.outputs.now) k1
    c.in_ok-write_frame-in-Ok.ensures.kept)) (c.in_err-read_back-in-Ok.ensures.err k1))))

pub returns-in-Ok-clause-ok : goal.returns-in-Ok-clause-ok
returns-in-Ok-clause-ok g c =
    let order = c.args.order.now in
    let p = demo_picture c.args.number order.profile in
    let kept = g.O.Outputs.kept in
    let said = g.S.Report.said in
    let bytes = c.as_slice-bytes.result.now in
    let made : Visit = demo_visit bytes c.in-Ok.says in
    let is = accepted_as order (picture_of c.in_ok-frame.frame) p c.in-Ok.codestream.items bytes
    c.in-Ok.says c.in_ok-frame.ensures c.as_slice-bytes.ensures.value
    (c.in-Ok.ensures.accepted codestream_suffix) in
    let read = c.in_ok-read_back-in-Ok.ensures.ok in
    all_shown order p made read.0 (kept c.args.outputs.now) (kept c.write_frame.new.outputs)
    (said c.args.report.now) (said c.write_frame.new.report) (said c.read_back.new.report) is
    (subst (λ (b : List ℕ). IsReadable demo_name b read.0)
    (encoded_bytes order codestream_suffix demo_name bytes p c.in-Ok.says is) read.1)
    c.requires.kept c.requires.said c.in_ok-write_frame-in-Ok.ensures.kept
    c.in_ok-write_frame-in-Ok.ensures.said read.2

pub returns-in_err-refuse-in-LimitTooSmall-clause-err :
    goal.returns-in_err-refuse-in-LimitTooSmall-clause-err
returns-in_err-refuse-in-LimitTooSmall-clause-err g c =
    let order = c.args.order.now in
    let p = demo_picture c.args.number order.profile in
    let budget = c.in-LimitTooSmall.budget in
    let needed = c.in-LimitTooSmall.needed in
    let made : Visit = refused demo_name (Limit budget needed) in
    let kept = g.O.Outputs.kept c.args.outputs.now in
    let said = g.S.Report.said c.args.report.now in
    let said_now = g.S.Report.said c.refuse.new.report in
    let large = too_large order (picture_of c.in_ok-frame.frame) p budget needed
    c.in_ok-frame.ensures (c.encode_and_certify.ensures.too_small budget needed
    (c.in-Err.is ∙ ap Err c.in-LimitTooSmall.is)) in
    let broken : VisitBrokeOff (λ v. v ≡ made) kept kept said said_now =
    subst (λ (k : Option Kept). VisitBrokeOff (λ v. v ≡ made) k k said said_now)
    (none_added kept (at_rest kept c.requires.kept))
    (c.in_err-refuse-in-LimitTooSmall.ensures.err kept) in
    on_err c.from_residual-in_err-refuse-in-LimitTooSmall.result
    (first_broken order p kept kept said said_now c.requires.kept c.requires.said
    (broken_for (λ v. v ≡ made) (RightFirst order p) kept kept said said_now
    (λ v same. subst (λ (w : Visit). RightFirst order p w) (sym same) (inr large)) broken))

pub returns-in-LimitTooSmall-clause-ok :
    goal.returns-in-LimitTooSmall-clause-ok
returns-in-LimitTooSmall-clause-ok g c =
    let order = c.args.order.now in
    let p = demo_picture c.args.number order.profile in
    let budget = c.in-LimitTooSmall.budget in
    let needed = c.in-LimitTooSmall.needed in
    let kept = g.O.Outputs.kept c.args.outputs.now in
    too_large_said order p (refused demo_name (Limit budget needed)) kept kept
    (g.S.Report.said c.args.report.now) (g.S.Report.said c.refuse.new.report)
    (too_large order (picture_of c.in_ok-frame.frame) p budget needed
    c.in_ok-frame.ensures (c.encode_and_certify.ensures.too_small budget needed
    (c.in-Err.is ∙ ap Err c.in-LimitTooSmall.is)))
    c.requires.kept c.requires.said (sym (none_added kept (at_rest kept c.requires.kept)))
    c.in_ok-refuse-in-LimitTooSmall.ensures.ok
