use Rattle.std.proofs.Common.{◌≡◌, ℤ, pos, negsuc, ◌+ℤ◌, FitsSigned, w32, of_z, arith, ◌∙◌, ap, sym}
use Rattle.std.specs.Int.{int_min, int_max}
use Rattle.std.proofs.lemmas.Int.{ints, clamps}
use Rattle.cine_nums.specs.Fixed.{mul16, limit30}
use Rattle.lift97_fixed.specs.Line.{lifted, alpha, gamma}
use Rattle.lift97_fixed.proofs.Casts.{passed, passed_within, passed_fits, passed_sum}
use Rattle.lift97_fixed.proofs.Products.{IsSum, is_small, small_range, in_range, limit30_is}
use Rattle.lift97_fixed.proofs.steps.lifted.Goals as goal

fraction_is : (c : goal.After-fraction) →
    c.fraction.result ≡ mul16 c.args.c (c.args.left +ℤ c.args.right)
fraction_is c =
    rw (
      passed_sum c.args.left c.args.right c.requires.left c.requires.right,
      passed_fits c.args.c c.ranges.c,
    ) at c.fraction.ensures.value

sum : (c : goal.After-fraction) → IsSum c.args.cell c.fraction.result
sum c =
    let small = is_small c.args.c c.requires.parameter
    (λ e. c.if-c-eq-ALPHA.false (ap (of_z w32) e)) (λ e. c.if-c-eq-GAMMA.false (ap (of_z w32) e)) in
    let fits : FitsSigned w32 (c.args.left +ℤ c.args.right) =
    omega (arith, ints, c.requires.left, c.requires.right) in
    in_range c.args.cell c.fraction.result c.requires.cell
    (small_range c.args.c (c.args.left +ℤ c.args.right) c.fraction.result small fits (fraction_is c))

pub overflow_add-cell : goal.overflow_add-cell
overflow_add-cell c = let s = sum c in rw (s.cell_is, s.fraction_is) s.fits

cut : (c : goal.After-min) → c.min.result ≡
    int_min (int_max (c.args.cell +ℤ c.fraction.result) (negsuc 1073741823)) (pos 1073741823)
cut c = let s = sum c.before.before in
    omega (arith, ints, clamps, c.max.ensures.value, c.min.ensures.value, s.cell_is, s.fraction_is, s.fits)

pub returns-else-c-eq-GAMMA-clause-value : goal.returns-else-c-eq-GAMMA-clause-value
unfolding lifted
returns-else-c-eq-GAMMA-clause-value c =
    let e = cut c in
    let kept : passed c.min.result ≡ c.min.result = omega (arith, ints, clamps, e) in
    kept ∙ (e ∙ (sym (limit30_is (c.args.cell +ℤ c.fraction.result))
    ∙ ap (λ (z : ℤ). limit30 (c.args.cell +ℤ z)) (fraction_is c.before.before)))

pub returns-else-c-eq-GAMMA-clause-within : goal.returns-else-c-eq-GAMMA-clause-within
returns-else-c-eq-GAMMA-clause-within c = let e = cut c in
    (omega (arith, ints, clamps, e), omega (arith, ints, clamps, e))

pub returns-then-c-eq-ALPHA-clause-value : goal.returns-then-c-eq-ALPHA-clause-value
unfolding lifted
returns-then-c-eq-ALPHA-clause-value c =
    let is : c.args.c ≡ alpha = omega (arith, ints, c.if-c-eq-ALPHA.true, c.ranges.c) in
    let fits : FitsSigned w32 c.by_alpha.result = search in
    let factors = passed_sum c.args.left c.args.right c.requires.left c.requires.right in
    let product = rw factors at c.by_alpha.ensures c.args.cell c.requires.cell in
    passed_within c.limited_sum.result c.limited_sum.ensures.within
    ∙ (rw (passed_within c.args.cell c.requires.cell, passed_fits c.by_alpha.result fits) at
    c.limited_sum.ensures.value
    ∙ (product ∙ ap (λ (z : ℤ). limit30 (c.args.cell +ℤ mul16 z (c.args.left +ℤ c.args.right))) (sym is)))

pub returns-then-c-eq-GAMMA-clause-value : goal.returns-then-c-eq-GAMMA-clause-value
unfolding lifted
returns-then-c-eq-GAMMA-clause-value c =
    let is : c.args.c ≡ gamma = omega (arith, ints, c.if-c-eq-GAMMA.true, c.ranges.c) in
    let fits : FitsSigned w32 c.by_gamma.result = search in
    let factors = passed_sum c.args.left c.args.right c.requires.left c.requires.right in
    let product = rw factors at c.by_gamma.ensures in
    passed_within c.limited_sum-then-c-eq-GAMMA.result c.limited_sum-then-c-eq-GAMMA.ensures.within
    ∙ (rw (passed_within c.args.cell c.requires.cell, passed_fits c.by_gamma.result fits) at
    c.limited_sum-then-c-eq-GAMMA.ensures.value
    ∙ (ap (λ (z : ℤ). limit30 (c.args.cell +ℤ z)) product
    ∙ ap (λ (z : ℤ). limit30 (c.args.cell +ℤ mul16 z (c.args.left +ℤ c.args.right))) (sym is)))
