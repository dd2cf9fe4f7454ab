use Rattle.allocation_bound.proofs.Close.{walk_close}
use Rattle.allocation_bound.proofs.laws.closing.Goals as goal

pub returns : goal.returns
returns c = λ w steps front o s rest j n budgets stands closes. walk_close w budgets steps front o
    stands s rest j n closes
