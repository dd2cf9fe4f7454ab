-- The passes that the taken steps lead to are known.
use Rattle.std.proofs.Common.{ℕ, ◌<◌, length, sym, subst}
use Rattle.offers_on_demand.proofs.on_demand.OnDemand.into_passes.Goals as goal

pub returns-clause-coded : goal.returns-clause-coded
returns-clause-coded g c = λ b below.
    let p = c.args.self.passes in
    let row = c.args.self.rows_are.each b below in
    subst (λ (n : ℕ). n < length (g.P.Passes.known p b)) (sym row.ended) row.present_known
