use Rattle.cinema_run.proofs.Words.{allowed}
use Rattle.cinema_run.proofs.WrittenRead.{written_read}
use Rattle.cinema_run.proofs.laws.written_is_read.Goals as goal

pub returns : goal.returns
returns c = λ words order suffix name p visit is accepted file checked right.
    written_read order suffix name p visit (allowed words order is) accepted file checked right
