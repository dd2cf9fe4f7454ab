use Rattle.std.proofs.Common.{suc, ◌+◌, ◌*◌, arith}
use Rattle.ebcot_contexts.specs.Passes.{significance}
use Rattle.ebcot_passes.proofs.Encoding.{then_on}
use Rattle.ebcot_passes.proofs.Scans.{stripe_on, stripe_done}
use Rattle.ebcot_passes.proofs.stripes.significance_stripe.Goals as goal

pub loop-x-preserved : goal.loop-x-preserved
loop-x-preserved c = record {
  codes = λ s coefs k cells same inside contexts a h.
      stripe_on significance s c.args.p coefs k c.args.width c.args.stripe c.loop-x.x cells _ _ same
      c.loop-x-test.true
      c.requires.width c.requires.stripe inside
      (λ is col. c.significance_column.ensures.codes s (suc c.loop-x.x)
      (suc c.args.stripe) is coefs _ _ col contexts a
      (c.loop-x.invariant.codes s coefs k cells same inside contexts a h));
  goes_on = then_on c.args.encoder.now c.loop-x.encoder c.significance_column.new.encoder
      (24 * c.loop-x.x) 24 (24 * (c.loop-x.x + 1)) (omega arith)
      c.loop-x.invariant.goes_on c.significance_column.ensures.goes_on;
}

pub returns-clause-codes : goal.returns-clause-codes
returns-clause-codes c = λ s coefs l cells same inside contexts a h.
    let past = c.loop-x-test.false in
    let end = c.loop-x.auto.x-end in
    stripe_done significance s c.args.p coefs l c.args.width c.args.stripe c.loop-x.x cells _ _
    (omega arith)
    (c.loop-x.invariant.codes s coefs l cells same inside contexts a h)
