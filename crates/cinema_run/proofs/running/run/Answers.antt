use Rattle.std.proofs.Common.{◌≡◌, ◌∙◌, ℕ, List, Option, Some, IfSome, ap, if◌then◌else◌, subst}
use Rattle.command_words.specs.Demo.{IsDemo}
use Rattle.command_words.specs.Taken.{texts}
use Rattle.demo_frames.specs.Demo.{demo_picture}
use Rattle.frame_encoder.specs.declared.order.EncodeOrder.{EncodeOrder}
use Rattle.cinema_run.specs.Arguments.{codestream_suffix, IsOrder}
use Rattle.cinema_run.specs.declared.arguments.Order.{Order}
use Rattle.cinema_run.specs.declared.arguments.Order.TheVariants.{Demo}
use Rattle.cinema_run.proofs.Checked.{all_checked, check_broken}
use Rattle.cinema_run.proofs.DemoLimits.{demo_broken_short, demo_short}
use Rattle.cinema_run.proofs.Demonstrated.{unread_demo}
use Rattle.cinema_run.proofs.Words.{demo_allowed, unread_broken, unread_check}
use Rattle.cinema_run.proofs.running.run.Goals as goal

-- the words of an order that was found
of_words : (words : List (List ℕ)) (found : Option Order) (order : Order) (number : ℕ)
    (demo : EncodeOrder) → found ≡ Some order → order ≡ Demo number demo →
    IfSome found (λ o. IsOrder words o) → IsDemo words number demo.profile demo.limits
of_words words found order number demo some is command =
    subst (λ (f : Option Order). IfSome f (λ o. IsOrder words o)) (some ∙ ap Some is) command

pub returns-in-Err-clause-stopped : goal.returns-in-Err-clause-stopped
returns-in-Err-clause-stopped g c = λ are late.
    unread_broken _ codestream_suffix (g.F.Frames.source c.args.frames.now)
    (g.F.Frames.reading c.args.frames.now).asked (g.O.Outputs.kept c.args.outputs.now)
    (g.S.Report.said c.args.report.now)
    (g.met.F.Frames.unlisted c.args.frames.now c.requires.unlisted).1 c.requires.nothing_kept
    c.requires.nothing_said are

pub returns-in-Err-clause-check_stopped : goal.returns-in-Err-clause-check_stopped
returns-in-Err-clause-check_stopped g c = λ are late.
    unread_check (g.F.Frames.source c.args.frames.now)
    (g.F.Frames.reading c.args.frames.now).asked (g.O.Outputs.kept c.args.outputs.now)
    (g.S.Report.said c.args.report.now)
    (g.met.F.Frames.unlisted c.args.frames.now c.requires.unlisted).1 c.requires.nothing_kept
    c.requires.nothing_said

pub returns-in-Ok-check_files-clause-checked : goal.returns-in-Ok-check_files-clause-checked
returns-in-Ok-check_files-clause-checked g c = λ are low.
    all_checked (g.F.Frames.source c.check_files.new.frames) (g.O.Outputs.kept c.args.outputs.now)
    (g.S.Report.said c.args.report.now) (g.S.Report.said c.check_files.new.report)
    c.in-Ok-check_files.some_refused c.visited_status-in-Ok-check_files.result c.requires.nothing_kept
    c.in-Ok-check_files.ensures.listed c.in-Ok-check_files.ensures.ok
    c.visited_status-in-Ok-check_files.ensures

pub returns-in-Err-check_files-clause-check_stopped :
    goal.returns-in-Err-check_files-clause-check_stopped
returns-in-Err-check_files-clause-check_stopped g c = λ are late.
    check_broken (g.F.Frames.source c.check_files.new.frames)
    (g.F.Frames.reading c.check_files.new.frames).asked (g.O.Outputs.kept c.args.outputs.now)
    (g.S.Report.said c.args.report.now) (g.S.Report.said c.check_files.new.report)
    c.requires.nothing_kept c.in-Err-check_files.ensures.err

pub returns-in-Err-clause-demo_stopped : goal.returns-in-Err-clause-demo_stopped
returns-in-Err-clause-demo_stopped g c = λ are late.
    unread_demo _ (g.O.Outputs.kept c.args.outputs.now) (g.S.Report.said c.args.report.now)
    c.requires.nothing_kept c.requires.nothing_said are

pub returns-in-Ok-demonstrate-clause-limits : goal.returns-in-Ok-demonstrate-clause-limits
returns-in-Ok-demonstrate-clause-limits g c =
    let order = c.in-Demo.order in
    let number = c.in-Demo.number in
    demo_short order (demo_picture number order.profile)
    (g.O.Outputs.kept c.demonstrate.new.outputs) (g.S.Report.said c.demonstrate.new.report)
    (if c.in-Ok-demonstrate.is_refused then 1 else 0)
    (demo_allowed _ number order (of_words (texts c.args.words.now) c.in-Ok.found c.in-Some.order
    number order c.in-Some.is c.in-Demo.is c.in-Ok.ensures.command)) c.in-Ok-demonstrate.ensures.ok

pub returns-in-Err-demonstrate-clause-limits : goal.returns-in-Err-demonstrate-clause-limits
returns-in-Err-demonstrate-clause-limits g c =
    let order = c.in-Demo.order in
    let number = c.in-Demo.number in
    demo_broken_short order (demo_picture number order.profile)
    (g.O.Outputs.kept c.demonstrate.new.outputs) (g.S.Report.said c.demonstrate.new.report)
    (demo_allowed _ number order (of_words (texts c.args.words.now) c.in-Ok.found c.in-Some.order
    number order c.in-Some.is c.in-Demo.is c.in-Ok.ensures.command))
    c.in-Err-demonstrate.ensures.err
