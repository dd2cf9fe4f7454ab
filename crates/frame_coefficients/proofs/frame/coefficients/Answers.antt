use Rattle.frame_coefficients.specs.Frame.{coefficients_of}
use Rattle.frame_coefficients.proofs.frame.coefficients.Goals as goal

pub returns-clause-c0 : goal.returns-clause-c0
unfolding coefficients_of
returns-clause-c0 c = rw c.mix.ensures.cells0 at c.in_ok-c0.ensures.value

pub returns-clause-c1 : goal.returns-clause-c1
unfolding coefficients_of
returns-clause-c1 c = rw c.mix.ensures.cells1 at c.in_ok-c1.ensures.value

pub returns-clause-c2 : goal.returns-clause-c2
unfolding coefficients_of
returns-clause-c2 c = rw c.mix.ensures.cells2 at c.in_ok-c2.ensures.value
