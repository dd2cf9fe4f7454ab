use Rattle.std.proofs.Common.{suc, ◌≡◌, ◌+◌, ◌*◌, arith}
use Rattle.ebcot_contexts.specs.Passes.{refinement}
use Rattle.ebcot_reader.proofs.Scans.{stripe_on, same_count}
use Rattle.ebcot_reader.proofs.stripes.refinement_stripe.Goals as goal

pub loop-x-init : goal.loop-x-init
loop-x-init c = λ bytes s st same inside h.
    let none : c.args.stripe * c.args.width ≡ c.args.stripe * c.args.width + 0 = omega arith in
    same_count bytes refinement s c.args.p _ _ st _ _ _ none h

pub loop-x-preserved : goal.loop-x-preserved
loop-x-preserved c = λ bytes s st same inside h.
    stripe_on bytes refinement s c.args.p c.args.width c.args.stripe c.loop-x.x st _ _ _ same
    c.loop-x-test.true c.requires.width c.requires.stripe inside
    (λ is col. c.refinement_column.ensures bytes s (suc c.loop-x.x) (suc c.args.stripe) is _ col
    (c.loop-x.invariant bytes s st same inside h))

pub returns : goal.returns
returns c = λ bytes s st same inside h.
    let past = c.loop-x-test.false in
    let end = c.loop-x.auto.x-end in
    let whole : c.args.stripe * c.args.width + c.loop-x.x ≡ (c.args.stripe + 1) * c.args.width =
    omega arith in
    same_count bytes refinement s c.args.p _ _ st _ _ _ whole
    (c.loop-x.invariant bytes s st same inside h)
