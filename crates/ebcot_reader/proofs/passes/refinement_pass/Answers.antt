use Rattle.std.proofs.Common.{◌≡◌, ◌*◌, arith}
use Rattle.ebcot_contexts.specs.Passes.{refinement}
use Rattle.ebcot_reader.proofs.Scans.{pass_done, same_count}
use Rattle.ebcot_reader.proofs.passes.refinement_pass.Goals as goal

pub loop-stripe-init : goal.loop-stripe-init
loop-stripe-init g = λ bytes s st wide high h.
    let none : 0 ≡ 0 * g.args.width = omega arith in
    same_count bytes refinement s g.args.p 0 (0 * g.args.width) st _ _ _ none h

pub loop-stripe-preserved : goal.loop-stripe-preserved
loop-stripe-preserved g = λ bytes s st wide high h.
    g.refinement_stripe.ensures bytes s st wide (omega arith)
    (g.loop-stripe.invariant bytes s st wide high h)

pub returns : goal.returns
returns g = λ bytes s st wide high h.
    pass_done bytes refinement s g.args.p g.args.width g.args.height g.loop-stripe.stripe st _ _ _
    wide
    high (omega arith) (g.loop-stripe.invariant bytes s st wide high h)
