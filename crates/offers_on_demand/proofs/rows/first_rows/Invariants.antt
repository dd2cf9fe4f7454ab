-- The rows of the blocks before.
use Rattle.offers_on_demand.specs.Hulls.{hull_steps}
use Rattle.offers_on_demand.proofs.Renewed.{AreFirst}
use Rattle.offers_on_demand.proofs.rows.first_rows.Given as goal

abbrev pub invariant-loop-block : goal.invariant-loop-block
invariant-loop-block g l =
    AreFirst l.block (g.P.Passes.known l.passes) (g.P.Passes.whole l.passes)
    (λ b. hull_steps b (g.P.Passes.all l.passes b)) l.rows.items
