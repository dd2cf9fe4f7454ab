use Rattle.std.proofs.Common.{◌+◌, ◌*◌, arith}
use Rattle.ebcot_contexts.specs.Passes.{cleanup}
use Rattle.ebcot_passes.proofs.Encoding.{then_on, stays}
use Rattle.ebcot_passes.proofs.Scans.{pass_begun, pass_done}
use Rattle.ebcot_passes.proofs.passes.cleanup_pass.Goals as goal

pub loop-stripe-init : goal.loop-stripe-init
loop-stripe-init g = record {
  codes = λ s coefs k cells wide high contexts a settled h. pass_begun cleanup s g.args.p coefs k
      g.args.width cells _ _ h;
  goes_on = stays g.args.encoder.now (1152 * 0);
}

pub loop-stripe-preserved : goal.loop-stripe-preserved
loop-stripe-preserved g = record {
  codes = λ s coefs k cells wide high contexts a settled h.
      g.cleanup_stripe.ensures.codes s coefs k cells wide (omega arith) contexts a settled
      (g.loop-stripe.invariant.codes s coefs k cells wide high contexts a settled h);
  goes_on = then_on g.args.encoder.now g.loop-stripe.encoder g.cleanup_stripe.new.encoder
      (1152 * g.loop-stripe.stripe) 1152 (1152 * (g.loop-stripe.stripe + 1)) (omega arith)
      g.loop-stripe.invariant.goes_on g.cleanup_stripe.ensures.goes_on;
}

pub returns-clause-codes : goal.returns-clause-codes
returns-clause-codes g = λ s coefs l cells wide high contexts a settled h.
    pass_done cleanup s g.args.p coefs l g.args.width g.args.height g.loop-stripe.stripe cells _ _
    wide high (omega arith)
    (g.loop-stripe.invariant.codes s coefs l cells wide high contexts a settled h)
