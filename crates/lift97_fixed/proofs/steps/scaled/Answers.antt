use Rattle.std.proofs.Common.{◌≡◌, pos, negsuc, ◌+ℤ◌, ◌-ℤ◌, w32, of_z, arith, ◌∙◌, ap, sym}
use Rattle.std.specs.Int.{int_min, int_max}
use Rattle.std.proofs.lemmas.Int.{ints, clamps, to_z-of_z}
use Rattle.cine_nums.specs.Fixed.{limit30}
use Rattle.lift97_fixed.specs.Line.{scaled, inverse_scaling}
use Rattle.lift97_fixed.proofs.Casts.{passed, passed_within}
use Rattle.lift97_fixed.proofs.Products.{IsScaled, IsSum, IsInverse, scaled_step, in_range, limit30_is}
use Rattle.lift97_fixed.proofs.Products.{is_inverse, inverse_step}
use Rattle.lift97_fixed.proofs.steps.scaled.Goals as goal

step : (c : goal.After-fraction) → IsScaled c.args.c c.args.cell c.fraction.result
step c =
    let above : passed (passed c.args.c -ℤ pos 65536) ≡ c.args.c -ℤ pos 65536 =
    omega (arith, ints, c.requires.factor) in
    scaled_step c.args.c c.args.cell c.fraction.result c.requires.factor c.requires.cell
    (rw (above, passed_within c.args.cell c.requires.cell) at c.fraction.ensures.value)

sum : (c : goal.After-fraction) → IsSum c.args.cell c.fraction.result
sum c = let s = step c in in_range c.args.cell c.fraction.result c.requires.cell s.range

pub overflow_add-product : goal.overflow_add-product
overflow_add-product c = let s = sum c in rw (s.cell_is, s.fraction_is) s.fits

product : (c : goal.After-fraction) →
    passed (passed c.args.cell +ℤ passed c.fraction.result) ≡ c.args.cell +ℤ c.fraction.result
product c = let s = sum c in rw (s.cell_is, s.fraction_is) (to_z-of_z _ _ s.fits)

cut : (c : goal.After-min) → c.min.result ≡
    int_min (int_max (c.args.cell +ℤ c.fraction.result) (negsuc 1073741823)) (pos 1073741823)
cut c = let p = product c.before.before.before in
    omega (arith, ints, clamps, c.max.ensures.value, c.min.ensures.value, p)

pub returns-then-c-eq-K-clause-value : goal.returns-then-c-eq-K-clause-value
unfolding scaled
returns-then-c-eq-K-clause-value c =
    let e = cut c in
    let s = step c.before.before.before in
    let kept : passed c.min.result ≡ c.min.result = omega (arith, ints, clamps, e) in
    kept ∙ (e ∙ (sym (limit30_is (c.args.cell +ℤ c.fraction.result)) ∙ ap limit30 s.value))

pub returns-then-c-eq-K-clause-within : goal.returns-then-c-eq-K-clause-within
returns-then-c-eq-K-clause-within c = let e = cut c in
    (omega (arith, ints, clamps, e), omega (arith, ints, clamps, e))

inverse : (c : goal.Else-c-eq-K) → IsInverse c.args.cell c.fraction.result
inverse c =
    let is : c.args.c ≡ inverse_scaling = is_inverse c.args.c c.requires.factor
    (λ e. c.if-c-eq-K.false (ap (of_z w32) e)) in
    let above : passed (passed c.args.c -ℤ pos 65536) ≡ negsuc 12261 = omega (arith, ints, is) in
    inverse_step c.args.cell c.fraction.result c.requires.cell
    (rw (above, passed_within c.args.cell c.requires.cell) at c.fraction.ensures.value)

pub returns-else-c-eq-K-clause-value : goal.returns-else-c-eq-K-clause-value
unfolding scaled
returns-else-c-eq-K-clause-value c =
    let s = step c.before in
    let i = inverse c in
    product c.before ∙ (i.value ∙ ap limit30 s.value)

pub returns-else-c-eq-K-clause-within : goal.returns-else-c-eq-K-clause-within
returns-else-c-eq-K-clause-within c = let i = inverse c in rw (product c.before) i.within
