use Rattle.std.proofs.Common.{◌+◌, ◌*◌, arith}
use Rattle.ebcot_contexts.specs.Passes.{significance}
use Rattle.ebcot_passes.proofs.Encoding.{then_on, stays}
use Rattle.ebcot_passes.proofs.Scans.{pass_begun, pass_done}
use Rattle.ebcot_passes.proofs.passes.significance_pass.Goals as goal

pub loop-stripe-init : goal.loop-stripe-init
loop-stripe-init g = record {
  codes = λ s coefs k cells wide high contexts a h. pass_begun significance s g.args.p coefs k
      g.args.width cells _ _ h;
  goes_on = stays g.args.encoder.now (768 * 0);
}

pub loop-stripe-preserved : goal.loop-stripe-preserved
loop-stripe-preserved g = record {
  codes = λ s coefs k cells wide high contexts a h.
      g.significance_stripe.ensures.codes s coefs k cells wide (omega arith) contexts a
      (g.loop-stripe.invariant.codes s coefs k cells wide high contexts a h);
  goes_on = then_on g.args.encoder.now g.loop-stripe.encoder g.significance_stripe.new.encoder
      (768 * g.loop-stripe.stripe) 768 (768 * (g.loop-stripe.stripe + 1)) (omega arith)
      g.loop-stripe.invariant.goes_on g.significance_stripe.ensures.goes_on;
}

pub returns-clause-codes : goal.returns-clause-codes
returns-clause-codes g = λ s coefs l cells wide high contexts a h.
    pass_done significance s g.args.p coefs l g.args.width g.args.height g.loop-stripe.stripe cells
    _ _ wide high (omega arith)
    (g.loop-stripe.invariant.codes s coefs l cells wide high contexts a h)
