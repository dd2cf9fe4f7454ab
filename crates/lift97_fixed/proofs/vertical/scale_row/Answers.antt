use Rattle.std.proofs.Common.{◌≡◌, ℤ, ◌∙◌, ap, sym, w32, of_z, arith}
use Rattle.std.proofs.lemmas.Int.{ints}
use Rattle.lift97_fixed.specs.Line.{scaled, scaling, inverse_scaling}
use Rattle.lift97_fixed.specs.Plane.{cell}
use Rattle.lift97_fixed.proofs.Products.{is_inverse}
use Rattle.lift97_fixed.proofs.vertical.scale_row.Goals as goal

pub returns-then-c-eq-K-clause-done : goal.returns-then-c-eq-K-clause-done
returns-then-c-eq-K-clause-done c = λ x lt.
    let is : c.args.c ≡ scaling = omega (arith, ints, c.if-c-eq-K.true, c.ranges.c) in
    c.scale_cells.ensures.done x lt
    ∙ ap (λ (z : ℤ). scaled z (cell c.args.stride c.args.cells.now x c.args.y)) (sym is)

pub returns-else-c-eq-K-clause-done : goal.returns-else-c-eq-K-clause-done
returns-else-c-eq-K-clause-done c = λ x lt.
    let is : c.args.c ≡ inverse_scaling = is_inverse c.args.c c.requires.factor
    (λ e. c.if-c-eq-K.false (ap (of_z w32) e)) in
    c.scale_cells-else-c-eq-K.ensures.done x lt
    ∙ ap (λ (z : ℤ). scaled z (cell c.args.stride c.args.cells.now x c.args.y)) (sym is)
