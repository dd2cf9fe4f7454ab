use Rattle.allocation_bound.proofs.Certified.{certified}
use Rattle.allocation_bound.proofs.laws.certificate.Goals as goal

pub returns : goal.returns
returns c = certified
