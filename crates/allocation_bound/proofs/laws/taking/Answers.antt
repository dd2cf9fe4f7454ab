use Rattle.allocation_bound.proofs.Take.{walk_take}
use Rattle.allocation_bound.proofs.laws.taking.Goals as goal

pub returns : goal.returns
returns c = λ w steps front o s rest n budgets stands takes. walk_take w budgets steps front o
    stands s rest n takes
