use Rattle.std.proofs.Common.{take, suc, ◌+◌, ◌*◌, arith}
use Rattle.ebcot_contexts.specs.Passes.{cleanup, scan}
use Rattle.ebcot_passes.proofs.Encoding.{then_on}
use Rattle.ebcot_passes.proofs.Scans.{stripe_on, stripe_done}
use Rattle.ebcot_passes.proofs.Settling.{settled_after}
use Rattle.ebcot_passes.proofs.stripes.cleanup_stripe.Goals as goal

pub loop-x-preserved : goal.loop-x-preserved
loop-x-preserved c = record {
  codes = λ s coefs k cells same inside contexts a settled h.
      stripe_on cleanup s c.args.p coefs k c.args.width c.args.stripe c.loop-x.x cells _ _ same
      c.loop-x-test.true
      c.requires.width c.requires.stripe inside
      (λ is col. c.cleanup_column.ensures.codes s (suc c.loop-x.x)
      (suc c.args.stripe) is coefs _ _ col contexts a
      (settled_after coefs s c.args.p cleanup
      (take (c.args.stripe * c.args.width + c.loop-x.x)
      (scan s.width s.height)) cells settled)
      (c.loop-x.invariant.codes s coefs k cells same inside contexts a settled h));
  goes_on = then_on c.args.encoder.now c.loop-x.encoder c.cleanup_column.new.encoder
      (36 * c.loop-x.x) 36 (36 * (c.loop-x.x + 1)) (omega arith)
      c.loop-x.invariant.goes_on c.cleanup_column.ensures.goes_on;
}

pub returns-clause-codes : goal.returns-clause-codes
returns-clause-codes c = λ s coefs l cells same inside contexts a settled h.
    let past = c.loop-x-test.false in
    let end = c.loop-x.auto.x-end in
    stripe_done cleanup s c.args.p coefs l c.args.width c.args.stripe c.loop-x.x cells _ _
    (omega arith)
    (c.loop-x.invariant.codes s coefs l cells same inside contexts a settled h)
