use Rattle.std.proofs.Common.{suc, ◌≡◌, ◌+◌, ◌*◌, arith}
use Rattle.ebcot_contexts.specs.Passes.{significance}
use Rattle.ebcot_reader.proofs.Scans.{stripe_on, same_count}
use Rattle.ebcot_reader.proofs.stripes.significance_stripe.Goals as goal

pub loop-x-init : goal.loop-x-init
loop-x-init c = λ bytes s st same inside contexts h.
    let none : c.args.stripe * c.args.width ≡ c.args.stripe * c.args.width + 0 = omega arith in
    same_count bytes significance s c.args.p _ _ st _ _ _ none h

pub loop-x-preserved : goal.loop-x-preserved
loop-x-preserved c = λ bytes s st same inside contexts h.
    stripe_on bytes significance s c.args.p c.args.width c.args.stripe c.loop-x.x st _ _ _ same
    c.loop-x-test.true c.requires.width c.requires.stripe inside
    (λ is col. c.significance_column.ensures bytes s (suc c.loop-x.x) (suc c.args.stripe) is _ col
    contexts
    (c.loop-x.invariant bytes s st same inside contexts h))

pub returns : goal.returns
returns c = λ bytes s st same inside contexts h.
    let past = c.loop-x-test.false in
    let end = c.loop-x.auto.x-end in
    let whole : c.args.stripe * c.args.width + c.loop-x.x ≡ (c.args.stripe + 1) * c.args.width =
    omega arith in
    same_count bytes significance s c.args.p _ _ st _ _ _ whole
    (c.loop-x.invariant bytes s st same inside contexts h)
