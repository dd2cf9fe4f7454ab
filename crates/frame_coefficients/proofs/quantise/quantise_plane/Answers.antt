use Rattle.std.proofs.Common.{◌≡◌, ◌*◌, arith, sym, subst, ap, get_or, ◌+◌, ◌∙◌}
use Rattle.codeblock_views.specs.Magnitudes.{AreSmall}
use Rattle.frame_coefficients.specs.Planes.{AreBelow, ArePlain}
use Rattle.frame_coefficients.proofs.BandLaw.{coef_in_band, quantised-below, quantised-plain}
use Rattle.frame_coefficients.proofs.Rows.{quantised-from, quantised-small}
use Rattle.frame_coefficients.proofs.quantise.quantise_plane.Goals as goal

pub returns-clause-value : goal.returns-clause-value
returns-clause-value c =
    let last : c.loop-y.y ≡ c.args.geometry.now.height = omega arith in
    quantised-from c.args.geometry.now.levels c.args.geometry.now.width c.args.geometry.now.height c.args.steps.now c.args.cells.now c.loop-y.coefs (omega arith)
    (λ k d lt. c.loop-y.invariant.done k d (rw last (omega arith)))

pub returns-clause-magnitudes : goal.returns-clause-magnitudes
returns-clause-magnitudes c =
    subst AreSmall (sym (returns-clause-value c))
    (quantised-small c.args.geometry.now.levels c.args.geometry.now.width c.args.geometry.now.height c.args.steps.now c.args.cells.now c.requires.usable)

pub returns-clause-bands : goal.returns-clause-bands
returns-clause-bands c = λ r o x y d has place.
    ap (λ coefs. get_or coefs (y * c.args.geometry.now.width + x) d) (returns-clause-value c)
    ∙ coef_in_band c.args.geometry.now c.args.steps.now c.args.cells.now r o x y d c.requires.places has place

pub returns-clause-below : goal.returns-clause-below
returns-clause-below c =
    subst (AreBelow c.args.geometry.now c.args.steps.now) (sym (returns-clause-value c))
    (quantised-below c.args.geometry.now c.args.steps.now c.args.cells.now c.requires.places)

pub returns-clause-plain : goal.returns-clause-plain
returns-clause-plain c =
    subst ArePlain (sym (returns-clause-value c))
    (quantised-plain c.args.geometry.now.levels c.args.geometry.now.width c.args.geometry.now.height c.args.steps.now c.args.cells.now)
