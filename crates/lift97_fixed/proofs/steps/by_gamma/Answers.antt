use Rattle.std.proofs.lemmas.Int.{to_z-of_z}
use Rattle.lift97_fixed.proofs.Products.{IsGammaStep, gamma_step}
use Rattle.lift97_fixed.proofs.steps.by_gamma.Goals as goal

steps : (c : goal.After-fraction) → IsGammaStep c.args.sum c.fraction.result
steps c = gamma_step c.args.sum c.fraction.result c.ranges.sum c.fraction.ensures.value

pub overflow_add-result : goal.overflow_add-result
overflow_add-result c = let s = steps c in rw (s.fraction_is, s.sum_is) s.fits

pub returns : goal.returns
returns c = let s = steps c in rw (s.fraction_is, s.sum_is, to_z-of_z _ _ s.fits) s.value
