-- One block more.
use Rattle.std.proofs.Common.{ℕ, ◌+◌, ◌<◌, List, refl, subst, sym}
use Rattle.offers_on_demand.specs.Hulls.{hull_steps}
use Rattle.offers_on_demand.specs.declared.row.DemandRow.{DemandRow}
use Rattle.offers_on_demand.proofs.Renewed.{AreFirst, first_row, more_first}
use Rattle.offers_on_demand.proofs.rows.first_rows.Goals as goal

pub loop-block-preserved : goal.loop-block-preserved
loop-block-preserved g c =
    let passes = c.args.passes.now in
    let b = c.loop-block.block in
    let below : b < g.P.Passes.blocks passes = subst (λ (n : ℕ). b < n) c.count-block-end.ensures
    c.loop-block-test.true in
    let offer = c.offer_now-offer.result in
    let row : DemandRow = record { present = 0; taken = 0; offer = offer } in
    subst (λ (l : List DemandRow). AreFirst (b + 1) (g.P.Passes.known passes)
    (g.P.Passes.whole passes) (λ k. hull_steps k (g.P.Passes.all passes k)) l)
    (sym c.in_ok-push.ensures.items)
    (more_first b (g.P.Passes.known passes) (g.P.Passes.whole passes)
    (λ k. hull_steps k (g.P.Passes.all passes k)) c.loop-block.rows.items row
    c.loop-block.invariant
    (first_row b (g.P.Passes.all passes b) (g.P.Passes.known passes b) (g.P.Passes.whole passes b)
    offer (g.met.P.Passes.completes passes b below).are (g.met.P.Passes.begun passes b below)
    c.offer_now-offer.ensures.offer c.offer_now-offer.ensures.more
    c.offer_now-offer.ensures.to_known)
    refl)
