-- The block's row is put, and the others stay.
use Rattle.offers_on_demand.specs.Hulls.{hull_steps}
use Rattle.offers_on_demand.proofs.Renewed.{put_row, renewed}
use Rattle.offers_on_demand.proofs.rows.renew.Goals as goal

pub returns-clause-rows : goal.returns-clause-rows
returns-clause-rows g c =
    let passes = c.args.passes.now in
    let b = c.args.block in
    put_row (g.P.Passes.blocks passes) (g.P.Passes.known passes) (g.P.Passes.whole passes)
    (λ k. hull_steps k (g.P.Passes.all passes k)) c.args.rows.now.items b _ c.requires.many
    c.requires.block
    (renewed b (g.P.Passes.all passes b) (g.P.Passes.known passes b) (g.P.Passes.whole passes b)
    c.args.present c.args.taken c.offer_now-offer.result
    (g.met.P.Passes.completes passes b c.requires.block).are c.requires.present c.requires.within
    c.requires.ended c.offer_now-offer.ensures.offer c.offer_now-offer.ensures.more
    c.offer_now-offer.ensures.to_known)
    c.requires.others
