use Rattle.std.proofs.Common.{◌≡◌, ℤ, ◌∙◌, ap, sym, w32, of_z, arith}
use Rattle.std.proofs.lemmas.Int.{ints}
use Rattle.lift97_fixed.specs.Line.{at, lifted, alpha, beta, gamma, delta}
use Rattle.lift97_fixed.proofs.Products.{is_delta}
use Rattle.lift97_fixed.proofs.vertical.lift_line.Goals as goal

pub returns-then-c-eq-ALPHA-clause-value : goal.returns-then-c-eq-ALPHA-clause-value
returns-then-c-eq-ALPHA-clause-value c = λ x lt.
    let is : c.args.c ≡ alpha = omega (arith, ints, c.if-c-eq-ALPHA.true, c.ranges.c) in
    c.lift_between.ensures.value x lt
    ∙ ap (λ (z : ℤ). lifted z (at c.args.line.now x) (at c.args.above.now x) (at c.args.below.now x)) (sym is)

pub returns-then-c-eq-BETA-clause-value : goal.returns-then-c-eq-BETA-clause-value
returns-then-c-eq-BETA-clause-value c = λ x lt.
    let is : c.args.c ≡ beta = omega (arith, ints, c.if-c-eq-BETA.true, c.ranges.c) in
    c.lift_between-then-c-eq-BETA.ensures.value x lt
    ∙ ap (λ (z : ℤ). lifted z (at c.args.line.now x) (at c.args.above.now x) (at c.args.below.now x)) (sym is)

pub returns-then-c-eq-GAMMA-clause-value : goal.returns-then-c-eq-GAMMA-clause-value
returns-then-c-eq-GAMMA-clause-value c = λ x lt.
    let is : c.args.c ≡ gamma = omega (arith, ints, c.if-c-eq-GAMMA.true, c.ranges.c) in
    c.lift_between-then-c-eq-GAMMA.ensures.value x lt
    ∙ ap (λ (z : ℤ). lifted z (at c.args.line.now x) (at c.args.above.now x) (at c.args.below.now x)) (sym is)

pub returns-else-c-eq-GAMMA-clause-value : goal.returns-else-c-eq-GAMMA-clause-value
returns-else-c-eq-GAMMA-clause-value c = λ x lt.
    let is : c.args.c ≡ delta = is_delta c.args.c c.requires.parameter
    (λ e. c.if-c-eq-ALPHA.false (ap (of_z w32) e)) (λ e. c.if-c-eq-BETA.false (ap (of_z w32) e))
    (λ e. c.if-c-eq-GAMMA.false (ap (of_z w32) e)) in
    c.lift_between-else-c-eq-GAMMA.ensures.value x lt
    ∙ ap (λ (z : ℤ). lifted z (at c.args.line.now x) (at c.args.above.now x) (at c.args.below.now x)) (sym is)
