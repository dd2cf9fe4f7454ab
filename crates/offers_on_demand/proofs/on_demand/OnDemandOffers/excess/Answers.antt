-- What is above the multiplier at the present passes; what was taken and what is left stays.
use Rattle.std.proofs.Common.{arith, sym, ap, ◌∙◌}
use Rattle.offers_on_demand.specs.Rows.{row_at}
use Rattle.offers_on_demand.specs.declared.row.DemandRow.{DemandRow}
use Rattle.offers_on_demand.proofs.Renewed.{between}
use Rattle.offers_on_demand.proofs.Taken.{row_is, stays_left, stays_done}
use Rattle.offers_on_demand.proofs.on_demand.OnDemandOffers.excess.Goals as goal

pub returns-clause-excess : goal.returns-clause-excess
returns-clause-excess g c =
    let self = c.args.self.now in
    let p = self.passes in
    let b = c.args.block in
    let row = row_at self.rows.items b in
    let read = row_is self.rows.items b c.index-row.result.now
    (omega (arith, self.rows_are.many, c.requires.block)) c.index-row.ensures in
    let is = self.rows_are.each b c.requires.block in
    let split = between b (g.P.Passes.all p b) c.index-row.result.now.present row.taken
    (g.met.P.Passes.completes p b c.requires.block).are
    (is.ended ∙ ap (λ (r : DemandRow). r.present) (sym read)) in
    c.excess_coding_on-excess.ensures.excess _ _ split c.requires.agrees

pub returns-clause-left : goal.returns-clause-left
returns-clause-left g c =
    let self = c.args.self.now in
    stays_left (g.P.Passes.all self.passes) (g.P.Passes.all c.excess_coding_on-excess.new.passes)
    self.rows.items c.renew.new.rows.items c.args.block c.index-row.result.now
    (omega (arith, self.rows_are.many, c.requires.block)) c.index-row.ensures
    c.excess_coding_on-excess.ensures.all c.renew.ensures.taken c.renew.ensures.others

pub returns-clause-done : goal.returns-clause-done
returns-clause-done g c =
    let self = c.args.self.now in
    stays_done (g.P.Passes.all self.passes) (g.P.Passes.all c.excess_coding_on-excess.new.passes)
    self.rows.items c.renew.new.rows.items c.args.block c.index-row.result.now
    (omega (arith, self.rows_are.many, c.requires.block)) c.index-row.ensures
    c.excess_coding_on-excess.ensures.all c.renew.ensures.taken c.renew.ensures.others
