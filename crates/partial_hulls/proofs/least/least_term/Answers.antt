-- One point more.
use Rattle.std.proofs.Common.{◌∙◌, ap, min}
use Rattle.partial_hulls.proofs.Terms.{next_least}
use Rattle.partial_hulls.proofs.least.least_term.Goals as goal

pub loop-point-preserved : goal.loop-point-preserved
loop-point-preserved c =
    next_least c.args.points.now c.args.multiplier c.loop-point.point-index c.loop-point.least
    c.min-least.result c.loop-point.invariant c.loop-point-test.true
    (c.min-least.ensures ∙ ap (λ n. min c.loop-point.least n) c.term.ensures)
