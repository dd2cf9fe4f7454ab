use Rattle.std.proofs.Common.{◌≡◌, ℤ, pos, negsuc, ◌+ℤ◌, ◌-ℤ◌, arith, ◌∙◌, ap}
use Rattle.std.specs.Int.{int_min, int_max}
use Rattle.std.proofs.lemmas.Int.{ints, clamps}
use Rattle.lift97_fixed.proofs.Casts.{passed}
use Rattle.lift97_fixed.proofs.Products.{limited}
use Rattle.lift97_fixed.proofs.steps.limited_sum.Goals as goal

cut : (c : goal.After-min) → c.min.result ≡
    int_min (int_max c.args.product (negsuc 1073741823 -ℤ c.args.cell)) (pos 1073741823 -ℤ c.args.cell)
cut c = omega (arith, ints, clamps, c.max.ensures.value, c.min.ensures.value, c.ranges.product, c.requires)

pub overflow_add-result : goal.overflow_add-result
overflow_add-result c = omega (arith, ints, clamps, cut c, c.requires)

pub returns-clause-value : goal.returns-clause-value
returns-clause-value c =
    let e = cut c in
    let sum : passed (passed c.args.cell +ℤ passed c.min.result) ≡ c.args.cell +ℤ c.min.result =
    omega (arith, ints, clamps, e, c.requires) in
    rw sum (ap (λ (z : ℤ). c.args.cell +ℤ z) e ∙ limited c.args.cell c.args.product c.requires)

pub returns-clause-within : goal.returns-clause-within
returns-clause-within c =
    let e = cut c in
    let sum : passed (passed c.args.cell +ℤ passed c.min.result) ≡ c.args.cell +ℤ c.min.result =
    omega (arith, ints, clamps, e, c.requires) in
    rw sum (omega (arith, ints, clamps, e, c.requires), omega (arith, ints, clamps, e, c.requires))
