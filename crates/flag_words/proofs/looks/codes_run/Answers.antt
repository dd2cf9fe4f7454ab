use Rattle.flag_words.proofs.Runs.{run_is, run_inside}
use Rattle.flag_words.proofs.looks.codes_run.Goals as goal

pub returns-clause-run : goal.returns-clause-run
returns-clause-run c = λ s p column stripe a b cc d cells at some is.
    run_is s p column stripe cells c.args.word some is a b cc d at

pub returns-clause-inside : goal.returns-clause-inside
returns-clause-inside c = λ s p i column stripe cells at some is t.
    run_inside s p column stripe cells c.args.word some is i at t
