-- The step is the first of those that were left.
use Rattle.std.proofs.Common.{arith}
use Rattle.offers_on_demand.proofs.Taken.{fits_more, ended_more, left_more, done_more}
use Rattle.offers_on_demand.proofs.on_demand.OnDemandOffers.take.Goals as goal

pub overflow_add-taken : goal.overflow_add-taken
overflow_add-taken g c =
    let self = c.args.self.now in
    let p = self.passes in
    let b = c.args.step.now.block in
    let fits = fits_more (g.P.Passes.blocks p) (g.P.Passes.all p) (g.P.Passes.known p)
    (g.P.Passes.whole p) self.rows.items self.rows.items b c.index-row.result.now c.args.step.now
    c.requires.block self.rows_are c.index-row.ensures c.requires.offered
    (g.met.P.Passes.few p b c.requires.block) in
    omega (arith, fits)

pub renew-requires-clause-ended : goal.renew-requires-clause-ended
renew-requires-clause-ended g c =
    let self = c.args.self.now in
    let p = self.passes in
    let b = c.args.step.now.block in
    ended_more (g.P.Passes.blocks p) (g.P.Passes.all p) (g.P.Passes.known p) (g.P.Passes.whole p)
    self.rows.items self.rows.items b c.index-row.result.now c.args.step.now c.requires.block
    self.rows_are c.index-row.ensures c.requires.offered

pub returns-clause-left : goal.returns-clause-left
returns-clause-left g c =
    let self = c.args.self.now in
    let p = self.passes in
    let b = c.args.step.now.block in
    left_more (g.P.Passes.blocks p) (g.P.Passes.all p) (g.P.Passes.known p) (g.P.Passes.whole p)
    self.rows.items c.renew.new.rows.items b c.index-row.result.now c.args.step.now
    c.requires.block self.rows_are c.index-row.ensures c.requires.offered c.renew.ensures.taken

pub returns-clause-done : goal.returns-clause-done
returns-clause-done g c =
    let self = c.args.self.now in
    let p = self.passes in
    let b = c.args.step.now.block in
    done_more (g.P.Passes.blocks p) (g.P.Passes.all p) (g.P.Passes.known p) (g.P.Passes.whole p)
    self.rows.items c.renew.new.rows.items b c.index-row.result.now c.args.step.now
    c.requires.block self.rows_are c.index-row.ensures c.requires.offered c.renew.ensures.taken
