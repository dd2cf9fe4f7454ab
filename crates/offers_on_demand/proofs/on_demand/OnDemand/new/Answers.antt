-- All steps are left.
use Rattle.offers_on_demand.proofs.Taken.{all_left}
use Rattle.offers_on_demand.proofs.on_demand.OnDemand.new.Goals as goal

pub returns-clause-left : goal.returns-clause-left
returns-clause-left g c = λ b below.
    all_left (g.P.Passes.all c.args.passes) _ b (g.met.P.Passes.completes c.args.passes b below).are
    (c.in_ok-rows.ensures.none b below)
