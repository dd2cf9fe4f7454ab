use Rattle.std.proofs.Common.{◌<◌, ℤ, pos, List, length, arith, ap, ◌∙◌}
use Rattle.lift97_fixed.specs.Line.{at, lifted}
use Rattle.lift97_fixed.proofs.Casts.{passed, passed_fits}
use Rattle.lift97_fixed.proofs.ApartLemmas.{between, filled_more, stripped}
use Rattle.lift97_fixed.proofs.vertical.lift_between.Goals as goal

pub loop-x-preserved : goal.loop-x-preserved
loop-x-preserved c =
    let line : List ℤ = c.args.line.now in
    let above : List ℤ = c.args.above.now in
    let below : List ℤ = c.args.below.now in
    let now : List ℤ = c.loop-x.line in
    let size = c.loop-x.invariant.size in
    let factor : ℤ = passed c.args.c in
    let inside : c.loop-x.x < length now = omega (arith, c.loop-x-test.true, size) in
    filled_more (between factor line above below) c.loop-x.x line now c.lifted.result inside c.loop-x.invariant
    (stripped factor c.lifted.result (at now c.loop-x.x) (at above c.loop-x.x) (at below c.loop-x.x)
    (c.loop-x.invariant.within c.loop-x.x (pos 0) inside)
    (c.requires.above c.loop-x.x (pos 0) (omega (arith, inside, size, c.requires.above_count)))
    (c.requires.below c.loop-x.x (pos 0) (omega (arith, inside, size, c.requires.below_count)))
    c.lifted.ensures.value
    ∙ ap (λ v. lifted factor v (at above c.loop-x.x) (at below c.loop-x.x))
    (c.loop-x.invariant.left c.loop-x.x (omega arith)))
    c.lifted.ensures.within

pub returns-clause-value : goal.returns-clause-value
returns-clause-value c = λ x lt.
    let size = c.loop-x.invariant.size in
    c.loop-x.invariant.done x (omega (arith, lt, size, c.loop-x-test.false))
    ∙ ap (λ z. lifted z (at c.args.line.now x) (at c.args.above.now x) (at c.args.below.now x))
    (passed_fits c.args.c c.ranges.c)
