use Rattle.cinema_run.proofs.Outputs.{on_err, whole_part}
use Rattle.cinema_run.proofs.output.write_output.Goals as goal

pub returns-in_err-finish-clause-err : goal.returns-in_err-finish-clause-err
returns-in_err-finish-clause-err g c =
    on_err c.from_residual-in_err-finish.result
    (whole_part c.args.name.now c.args.bytes.now (g.O.Outputs.kept c.args.outputs.now)
    (g.O.Outputs.kept c.begin.new.self) (g.O.Outputs.kept c.write_all.new.outputs)
    (g.O.Outputs.kept c.finish.new.self)
    c.in_ok-begin.ensures.ok c.in_ok-write_all.ensures.ok c.in_err-finish.ensures.err.0)
