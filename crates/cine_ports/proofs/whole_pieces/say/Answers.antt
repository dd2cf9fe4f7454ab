use Rattle.std.proofs.Common.{◌∙◌, ◌-◌, ap, length, take, drop, option_map}
use Rattle.cine_ports.specs.WholePieces.{said_with}
use Rattle.cine_ports.proofs.Appends.{part-within, said_with-step}
use Rattle.cine_ports.proofs.whole_pieces.say.Goals as goal

pub loop-done-preserved : goal.loop-done-preserved
loop-done-preserved g c =
    let i = c.loop-done.done in
    let n = c.in_ok-done.field-0 in
    let piece = c.args.piece.now in
    let more = c.in_ok-done.ensures.appended
    ∙ ap (λ said. option_map (said_with
    (take n (take (length piece - i) (drop i piece)))) said) c.loop-done.invariant.1
    ∙ said_with-step i n piece (g.S.Report.said c.args.report.now) in
    (part-within i n piece c.loop-done.invariant.0 c.in_ok-done.ensures.count, more, c.in_ok-done.ensures.failed)
