use Rattle.std.proofs.Common.{◌≡◌, arith}
use Rattle.std.proofs.lemmas.Int.{ints, clamps, to_z-of_z}
use Rattle.lift97_fixed.proofs.Products.{IsAlphaStep, alpha_step, cut}
use Rattle.lift97_fixed.proofs.steps.by_alpha.Goals as goal

steps : (c : goal.After-fraction) → IsAlphaStep c.args.sum c.min-sum.result c.fraction.result
steps c =
    let is : c.min-sum.result ≡ cut c.args.sum =
    omega (arith, ints, clamps, c.max.ensures.value, c.min-sum.ensures.value, c.ranges.sum) in
    alpha_step c.args.sum c.min-sum.result c.fraction.result is c.fraction.ensures.value

pub overflow_sub-result : goal.overflow_sub-result
overflow_sub-result c = let s = steps c in rw (s.cut_is, s.fraction_is) s.first

pub overflow_sub-result-2 : goal.overflow_sub-result-2
overflow_sub-result-2 c =
    let s = steps c in
    rw (s.cut_is, s.fraction_is, to_z-of_z _ _ s.first) s.second

pub returns : goal.returns
returns c = let s = steps c in
    rw (s.cut_is, s.fraction_is, to_z-of_z _ _ s.first, to_z-of_z _ _ s.second) s.value
