use Rattle.std.proofs.Common.{◌∙◌, ◌-◌, ap, length, take, drop, option_map}
use Rattle.cine_ports.specs.Outputs.{with_more}
use Rattle.cine_ports.proofs.Appends.{part-within, with_more-step}
use Rattle.cine_ports.proofs.whole_pieces.write_all.Goals as goal

pub loop-done-preserved : goal.loop-done-preserved
loop-done-preserved g c =
    let i = c.loop-done.done in
    let n = c.in_ok-done.field-0 in
    let piece = c.args.piece.now in
    let more = c.in_ok-done.ensures.appended
    ∙ ap (λ kept. option_map (with_more
    (take n (take (length piece - i) (drop i piece)))) kept) c.loop-done.invariant.1
    ∙ with_more-step i n piece (g.O.Outputs.kept c.args.outputs.now) in
    (part-within i n piece c.loop-done.invariant.0 c.in_ok-done.ensures.count, more, c.in_ok-done.ensures.open, c.in_ok-done.ensures.failed)
