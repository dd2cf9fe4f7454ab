-- The walk ends settled, and the sums are the definitions'.
use Rattle.std.proofs.Common.{ℕ, List, Option, ◌+◌, ◌-◌, ◌*◌, ◌<◌, ◌≤◌, ◌≡◌, ◌^◌, arith, sym, subst}
use Rattle.std.proofs.Common.{◌∙◌}
use Rattle.rd_hulls.specs.declared.step.Step.{Step}
use Rattle.allocation_bound.specs.Budgets.{base, chain}
use Rattle.allocation_bound.specs.Ledger.{rounded_up}
use Rattle.allocation_bound.specs.Laws.{AreSteps}
use Rattle.allocation_bound.specs.Settled.{Budgets, Outcome}
use Rattle.allocation_bound.specs.Steps.{Agrees, excess, lens}
use Rattle.allocation_bound.specs.Sums.{upto}
use Rattle.budget_duals.specs.Allocated.{IsAllocated}
use Rattle.budget_duals.specs.Sums.{rate_by}
use Rattle.budget_duals.specs.Tree.{budgets_of, number_at}
use Rattle.budget_duals.specs.Walking.{so_far}
use Rattle.budget_duals.proofs.DualLemmas.{walk_begins, are_steps, agrees_at, left_bytes, allocated}
use Rattle.budget_duals.proofs.WalkLemmas.{same_budgets}
use Rattle.budget_duals.proofs.duals.settle.Goals as goal

pub walk-requires-clause-going : goal.walk-requires-clause-going
walk-requires-clause-going g c =
    let w : Budgets = budgets_of c.args.tree.now (g.O.Offers.blocks c.args.offers.now)
    (g.H.Holdings.node_of c.args.held.now) (g.H.Holdings.held_by c.args.held.now) in
    record {
      walks = walk_begins w (g.H.Holdings.chosen c.args.held.now)
          (g.O.Offers.done c.args.offers.now) (g.O.Offers.left c.args.offers.now)
          c.args.closed.now c.requires.opens c.requires.long c.requires.within c.requires.counts
          c.requires.done;
      queue = c.first_entries.ensures.queue;
      covers = λ b inside is_open. c.first_entries.ensures.covers b inside;
      order = c.first_entries.ensures.order;
    }

pub gap_of-requires-clause-agree : goal.gap_of-requires-clause-agree
gap_of-requires-clause-agree g c = λ b inside.
    let w : Budgets = budgets_of c.args.tree.now (g.O.Offers.blocks c.args.offers.now)
    (g.H.Holdings.node_of c.args.held.now) (g.H.Holdings.held_by c.args.held.now) in
    let steps : ℕ → List Step = g.O.Offers.left c.args.offers.now in
    let o : Outcome = so_far (g.H.Holdings.chosen c.walk.new.held)
    (g.O.Offers.done c.walk.new.offers) (g.O.Offers.left c.walk.new.offers) c.walk.new.closed in
    let are : AreSteps w.blocks steps = are_steps (g.H.Holdings.most c.args.held.now) w.blocks steps
    c.requires.blocks c.requires.can in
    subst (λ (n : ℕ → ℕ). Agrees (rate_by c.args.tree.now c.walk.new.closed n b) (o.done b)
    (o.left b)) (sym c.walk.ensures.node)
    (agrees_at w steps o c.requires.budgets are c.walk.ensures.settled b
    (subst (λ n. b < n) c.walk.ensures.blocks inside))

pub gap_of-requires-clause-bytes : goal.gap_of-requires-clause-bytes
gap_of-requires-clause-bytes g c =
    let w : Budgets = budgets_of c.args.tree.now (g.O.Offers.blocks c.args.offers.now)
    (g.H.Holdings.node_of c.args.held.now) (g.H.Holdings.held_by c.args.held.now) in
    let steps : ℕ → List Step = g.O.Offers.left c.args.offers.now in
    let left : ℕ → List Step = g.O.Offers.left c.walk.new.offers in
    let o : Outcome = so_far (g.H.Holdings.chosen c.walk.new.held)
    (g.O.Offers.done c.walk.new.offers) left c.walk.new.closed in
    let fewer : upto w.blocks (λ b. lens (left b))
    ≤ upto w.blocks (λ b. lens (steps b)) = left_bytes w steps o c.walk.ensures.settled in
    let few : upto w.blocks (λ b. lens (steps b)) < 2 ^ 64 = c.requires.bytes in
    subst (λ (n : ℕ). upto n (λ b. lens (left b)) < 2 ^ 64) (sym c.walk.ensures.blocks)
    (omega arith)

pub returns-clause-allocated : goal.returns-clause-allocated
returns-clause-allocated g c =
    let w : Budgets = budgets_of c.args.tree.now (g.O.Offers.blocks c.args.offers.now)
    (g.H.Holdings.node_of c.args.held.now) (g.H.Holdings.held_by c.args.held.now) in
    let w1 : Budgets = budgets_of c.args.tree.now (g.O.Offers.blocks c.walk.new.offers)
    (g.H.Holdings.node_of c.walk.new.held) (g.H.Holdings.held_by c.walk.new.held) in
    let same : w1 ≡ w = same_budgets c.args.tree.now _ _ _ _ _ _ c.walk.ensures.blocks
    c.walk.ensures.node c.walk.ensures.held in
    let steps : ℕ → List Step = g.O.Offers.left c.args.offers.now in
    let counts : List ℕ = g.H.Holdings.chosen c.walk.new.held in
    let done : ℕ → List Step = g.O.Offers.done c.walk.new.offers in
    let left : ℕ → List Step = g.O.Offers.left c.walk.new.offers in
    let closed : List (Option Step) = c.walk.new.closed in
    let numbers : List ℕ = c.set_multipliers.new.out in
    let gap : ℕ = c.gap_of.result in
    let o : Outcome = so_far counts done left closed in
    let are : AreSteps w.blocks steps = are_steps (g.H.Holdings.most c.args.held.now) w.blocks steps
    c.requires.blocks c.requires.can in
    let is = subst (λ (v : Budgets). gap
    ≡ rounded_up (upto v.blocks
    (λ b. excess (base o.closed (chain v.around (v.node b))) (o.left b))
    + upto v.number (λ j. number_at numbers j * (v.limit j - v.held o.counts j)))) same
    c.gap_of.ensures.gap in
    let all : IsAllocated w steps o numbers gap =
    allocated w steps o numbers gap c.requires.budgets are c.walk.ensures.reached
    c.walk.ensures.settled
    (c.set_multipliers.ensures.len ∙ c.requires.multipliers) c.set_multipliers.ensures.each is in
    subst (λ (d : ℕ → List Step). IsAllocated w steps
    (so_far counts d (g.O.Offers.left c.gap_of.new.offers) closed) numbers gap)
    (sym c.gap_of.ensures.done)
    (subst (λ (l : ℕ → List Step). IsAllocated w steps (so_far counts done l closed) numbers gap)
    (sym c.gap_of.ensures.left) all)
