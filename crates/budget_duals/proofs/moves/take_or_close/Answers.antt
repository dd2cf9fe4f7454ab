-- The step is taken where no budget breaks, else the outermost broken one is closed.
use Rattle.std.proofs.Common.{◌<◌, sym, subst}
use Rattle.allocation_bound.specs.Settled.{Budgets}
use Rattle.budget_duals.specs.Tree.{budgets_of}
use Rattle.budget_duals.specs.Walking.{so_far}
use Rattle.budget_duals.proofs.MoveLemmas.{takes, closes, close_opens, ahead_taken, ahead_closed}
use Rattle.budget_duals.proofs.MoveLemmas.{broken_inside, broken_open}
use Rattle.budget_duals.proofs.moves.take_or_close.Goals as goal

pub bounds-closed-budget : goal.bounds-closed-budget
bounds-closed-budget g c =
    let w : Budgets = budgets_of c.args.tree.now (g.O.Offers.blocks c.args.offers.now)
    (g.H.Holdings.node_of c.args.held.now) (g.H.Holdings.held_by c.args.held.now) in
    subst (λ n. c.in-Some.budget < n) (sym c.requires.closed)
    (broken_inside w _ c.args.step.now c.in-Some.budget _ c.requires.budgets c.requires.next
    (sym c.in-Some.ensures))

pub returns-in-None-clause-walks : goal.returns-in-None-clause-walks
returns-in-None-clause-walks g c =
    let w : Budgets = budgets_of c.args.tree.now (g.O.Offers.blocks c.args.offers.now)
    (g.H.Holdings.node_of c.args.held.now) (g.H.Holdings.held_by c.args.held.now) in
    takes w (g.H.Holdings.chosen c.args.held.now) (g.H.Holdings.chosen c.choose.new.self)
    (g.O.Offers.done c.args.offers.now) (g.O.Offers.left c.args.offers.now)
    (g.O.Offers.done c.take.new.self) (g.O.Offers.left c.take.new.self) c.args.closed.now
    c.args.step.now
    c.requires.budgets c.requires.next (sym c.in-None.ensures) c.choose.ensures.chosen
    c.take.ensures.left c.take.ensures.done c.take.ensures.other_left c.take.ensures.other_done

pub returns-in-None-clause-ahead : goal.returns-in-None-clause-ahead
returns-in-None-clause-ahead g c =
    ahead_taken (g.O.Offers.blocks c.args.offers.now) (g.O.Offers.left c.args.offers.now)
    (g.O.Offers.left c.take.new.self)
    c.args.closed.now (g.O.Offers.unknown c.args.offers.now) (g.O.Offers.unknown c.take.new.self)
    c.args.step.now
    c.requires.next.1.inside c.take.ensures.left c.take.ensures.other_left c.take.ensures.keeps

pub returns-in-Some-clause-walks : goal.returns-in-Some-clause-walks
returns-in-Some-clause-walks g c =
    let w : Budgets = budgets_of c.args.tree.now (g.O.Offers.blocks c.args.offers.now)
    (g.H.Holdings.node_of c.args.held.now) (g.H.Holdings.held_by c.args.held.now) in
    closes w (g.H.Holdings.chosen c.args.held.now) (g.O.Offers.done c.args.offers.now)
    (g.O.Offers.left c.args.offers.now)
    c.args.closed.now c.args.step.now c.in-Some.budget c.requires.budgets
    (subst (λ n. c.in-Some.budget < n) (sym c.requires.closed)
    (broken_inside w (so_far (g.H.Holdings.chosen c.args.held.now)
    (g.O.Offers.done c.args.offers.now) (g.O.Offers.left c.args.offers.now) c.args.closed.now)
    c.args.step.now c.in-Some.budget _ c.requires.budgets c.requires.next (sym c.in-Some.ensures)))
    c.requires.next (sym c.in-Some.ensures)

pub returns-in-Some-clause-opens : goal.returns-in-Some-clause-opens
returns-in-Some-clause-opens g c =
    let w : Budgets = budgets_of c.args.tree.now (g.O.Offers.blocks c.args.offers.now)
    (g.H.Holdings.node_of c.args.held.now) (g.H.Holdings.held_by c.args.held.now) in
    close_opens w (g.H.Holdings.chosen c.args.held.now) (g.O.Offers.done c.args.offers.now)
    (g.O.Offers.left c.args.offers.now)
    c.args.closed.now c.in-Some.budget c.args.step.now
    (subst (λ n. c.in-Some.budget < n) (sym c.requires.closed)
    (broken_inside w (so_far (g.H.Holdings.chosen c.args.held.now)
    (g.O.Offers.done c.args.offers.now) (g.O.Offers.left c.args.offers.now) c.args.closed.now)
    c.args.step.now c.in-Some.budget _ c.requires.budgets c.requires.next (sym c.in-Some.ensures)))

pub returns-in-Some-clause-ahead : goal.returns-in-Some-clause-ahead
returns-in-Some-clause-ahead g c =
    let w : Budgets = budgets_of c.args.tree.now (g.O.Offers.blocks c.args.offers.now)
    (g.H.Holdings.node_of c.args.held.now) (g.H.Holdings.held_by c.args.held.now) in
    let o = so_far (g.H.Holdings.chosen c.args.held.now) (g.O.Offers.done c.args.offers.now)
    (g.O.Offers.left c.args.offers.now) c.args.closed.now in
    ahead_closed (g.O.Offers.blocks c.args.offers.now) (g.O.Offers.left c.args.offers.now)
    c.args.closed.now (g.O.Offers.unknown c.args.offers.now)
    c.in-Some.budget c.args.step.now
    (subst (λ n. c.in-Some.budget < n) (sym c.requires.closed)
    (broken_inside w o c.args.step.now c.in-Some.budget _ c.requires.budgets c.requires.next
    (sym c.in-Some.ensures)))
    (broken_open w o c.args.step.now c.in-Some.budget _ c.requires.next (sym c.in-Some.ensures))
