-- A look changes only what is known.
use Rattle.std.proofs.Common.{ℕ, List, ◌<◌, rules, sym, subst}
use Rattle.rd_hulls.specs.declared.step.Step.{Step}
use Rattle.allocation_bound.specs.Settled.{Budgets}
use Rattle.budget_duals.specs.Offers.{IsAtMost}
use Rattle.budget_duals.specs.Tree.{budgets_of}
use Rattle.budget_duals.specs.Walking.{so_far, Walks, ahead}
use Rattle.budget_duals.proofs.MoveLemmas.{ahead_looked}
use Rattle.budget_duals.proofs.moves.visit.Goals as goal

pub returns-in-AtMost-clause-walks : goal.returns-in-AtMost-clause-walks
returns-in-AtMost-clause-walks g c = λ steps walks.
    let w : Budgets = budgets_of c.args.tree.now (g.O.Offers.blocks c.args.offers.now)
    (g.H.Holdings.node_of c.args.held.now) (g.H.Holdings.held_by c.args.held.now) in
    let counts : List ℕ = g.H.Holdings.chosen c.args.held.now in
    subst (λ (d : ℕ → List Step). Walks w steps
    (so_far counts d (g.O.Offers.left c.look.new.self) c.args.closed.now))
    (sym c.look.ensures.done)
    (subst (λ (l : ℕ → List Step). Walks w steps
    (so_far counts (g.O.Offers.done c.args.offers.now) l c.args.closed.now))
    (sym c.look.ensures.left) walks)

pub returns-in-AtMost-clause-ahead : goal.returns-in-AtMost-clause-ahead
returns-in-AtMost-clause-ahead g c =
    let blocks : ℕ = g.O.Offers.blocks c.args.offers.now in
    let left : ℕ → List Step = g.O.Offers.left c.args.offers.now in
    let bound : IsAtMost (g.O.Offers.offered c.args.offers.now c.args.entry.now.block) =
    subst IsAtMost c.requires.entry.offer (subst IsAtMost (sym c.in-AtMost.is) (search rules)) in
    subst (λ (l : ℕ → List Step). ahead blocks l c.args.closed.now
    (g.O.Offers.unknown c.look.new.self)
    < ahead blocks left c.args.closed.now (g.O.Offers.unknown c.args.offers.now))
    (sym c.look.ensures.left)
    (ahead_looked blocks left c.args.closed.now (g.O.Offers.unknown c.args.offers.now)
    (g.O.Offers.unknown c.look.new.self)
    c.args.entry.now.block c.requires.entry.inside (c.look.ensures.learns bound)
    c.look.ensures.keeps)
