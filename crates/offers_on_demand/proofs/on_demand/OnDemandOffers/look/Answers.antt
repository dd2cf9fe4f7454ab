-- The block learns; what was taken and what is left stays.
use Rattle.std.proofs.Common.{arith}
use Rattle.offers_on_demand.proofs.Taken.{stays_left, stays_done}
use Rattle.offers_on_demand.proofs.on_demand.OnDemandOffers.look.Goals as goal

pub returns-in-AtMost-clause-left : goal.returns-in-AtMost-clause-left
returns-in-AtMost-clause-left g c =
    let self = c.args.self.now in
    stays_left (g.P.Passes.all self.passes) (g.P.Passes.all c.code_more.new.self) self.rows.items
    c.renew.new.rows.items c.args.block c.index-row.result.now
    (omega (arith, self.rows_are.many, c.requires.block)) c.index-row.ensures
    c.code_more.ensures.all c.renew.ensures.taken c.renew.ensures.others

pub returns-in-AtMost-clause-done : goal.returns-in-AtMost-clause-done
returns-in-AtMost-clause-done g c =
    let self = c.args.self.now in
    stays_done (g.P.Passes.all self.passes) (g.P.Passes.all c.code_more.new.self) self.rows.items
    c.renew.new.rows.items c.args.block c.index-row.result.now
    (omega (arith, self.rows_are.many, c.requires.block)) c.index-row.ensures
    c.code_more.ensures.all c.renew.ensures.taken c.renew.ensures.others
