use Rattle.std.proofs.Common.{◌∙◌, ap, option_map}
use Rattle.cine_ports.specs.WholePieces.{said_with}
use Rattle.cinema_run.proofs.Breaks.{refusal_broken}
use Rattle.cinema_run.proofs.frame.refuse.Goals as goal

pub returns-in-Ok-clause-ok : goal.returns-in-Ok-clause-ok
returns-in-Ok-clause-ok g c =
    c.in-Ok.ensures.ok ∙ ap (λ bytes. option_map (said_with bytes)
    (g.S.Report.said c.args.report.now)) (c.as_bytes.ensures.value ∙ c.in_ok-line.ensures)

pub returns-clause-err : goal.returns-clause-err
returns-clause-err g c = λ kept.
    refusal_broken c.args.name.now c.args.refusal c.as_bytes.result.now kept
    (g.S.Report.said c.args.report.now) (g.S.Report.said c.say.new.report)
    (c.as_bytes.ensures.value ∙ c.in_ok-line.ensures) c.in-Err.ensures.err
