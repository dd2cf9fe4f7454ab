-- The distortion of no passes, less that of the present ones.
use Rattle.std.proofs.Common.{ℕ, List, ◌≡◌, arith, ap, ◌∙◌}
use Rattle.rd_hulls.specs.declared.point.Point.{Point}
use Rattle.rd_hulls.specs.Points.{point_at}
use Rattle.offers_on_demand.specs.Rows.{row_at}
use Rattle.offers_on_demand.specs.declared.row.DemandRow.{DemandRow}
use Rattle.offers_on_demand.proofs.Taken.{gained_known, row_is}
use Rattle.offers_on_demand.proofs.on_demand.OnDemandOffers.gained.Goals as goal

pub overflow_sub-result : goal.overflow_sub-result
overflow_sub-result g c =
    let self = c.args.self.now in
    let p = self.passes in
    let b = c.args.block in
    let row = row_at self.rows.items b in
    let read = row_is self.rows.items b c.index.result.now
    (omega (arith, self.rows_are.many, c.requires.block)) c.index.ensures in
    let all = gained_known b (g.P.Passes.all p b) (g.P.Passes.known p b) (g.P.Passes.least p b)
    (g.P.Passes.whole p b) row (g.met.P.Passes.completes p b c.requires.block)
    (g.met.P.Passes.begun p b c.requires.block) (self.rows_are.each b c.requires.block) in
    let first : (point_at c.deref.result.now 0).dist ≡ (point_at (g.P.Passes.known p b) 0).dist =
    ap (λ (l : List Point). (point_at l 0).dist) (c.deref.ensures.0 ∙ c.points-points.ensures) in
    let at : c.from.result ≡ row.present =
    c.from.ensures ∙ ap (λ (r : DemandRow). r.present) read in
    let here : (point_at c.deref-2.result.now c.from.result).dist
    ≡ (point_at (g.P.Passes.known p b) row.present).dist =
    ap (λ (l : List Point). (point_at l c.from.result).dist)
    (c.deref-2.ensures.0 ∙ c.points-points.ensures)
    ∙ ap (λ (k : ℕ). (point_at (g.P.Passes.known p b) k).dist) at in
    omega (arith, all, first, here)

pub returns : goal.returns
returns g c =
    let self = c.args.self.now in
    let p = self.passes in
    let b = c.args.block in
    let row = row_at self.rows.items b in
    let read = row_is self.rows.items b c.index.result.now
    (omega (arith, self.rows_are.many, c.requires.block)) c.index.ensures in
    let all = gained_known b (g.P.Passes.all p b) (g.P.Passes.known p b) (g.P.Passes.least p b)
    (g.P.Passes.whole p b) row (g.met.P.Passes.completes p b c.requires.block)
    (g.met.P.Passes.begun p b c.requires.block) (self.rows_are.each b c.requires.block) in
    let first : (point_at c.deref.result.now 0).dist ≡ (point_at (g.P.Passes.known p b) 0).dist =
    ap (λ (l : List Point). (point_at l 0).dist) (c.deref.ensures.0 ∙ c.points-points.ensures) in
    let at : c.from.result ≡ row.present =
    c.from.ensures ∙ ap (λ (r : DemandRow). r.present) read in
    let here : (point_at c.deref-2.result.now c.from.result).dist
    ≡ (point_at (g.P.Passes.known p b) row.present).dist =
    ap (λ (l : List Point). (point_at l c.from.result).dist)
    (c.deref-2.ensures.0 ∙ c.points-points.ensures)
    ∙ ap (λ (k : ℕ). (point_at (g.P.Passes.known p b) k).dist) at in
    omega (arith, all, first, here)
