use Rattle.allocation_bound.proofs.PassGaps.{pass_certified}
use Rattle.allocation_bound.proofs.laws.pass_certificate.Goals as goal

pub returns : goal.returns
returns c = λ w steps o points least budgets settled have. pass_certified w budgets steps o settled
    points least have
