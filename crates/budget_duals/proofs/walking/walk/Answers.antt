-- The top of the heap is the next step, or a bound on it.
use Rattle.std.proofs.Common.{ℕ, List, ◌<◌, ◌≡◌, None, IsTrue, arith, sym, subst, ◌∙◌}
use Rattle.std.specs.BinaryHeap.{heap_items}
use Rattle.rd_hulls.specs.declared.step.Step.{Step}
use Rattle.allocation_bound.specs.Budgets.{chain, first}
use Rattle.allocation_bound.specs.Settled.{Budgets, Outcome, nearest}
use Rattle.budget_duals.specs.Price.{CanTake}
use Rattle.budget_duals.specs.Tree.{around_in, budgets_of, closed_by}
use Rattle.budget_duals.specs.Walking.{so_far, Walks, IsNextStep}
use Rattle.budget_duals.proofs.WalkLemmas.{same_budgets, top_entry, top_own, top_all, top_next}
use Rattle.budget_duals.proofs.WalkLemmas.{top_can}
use Rattle.budget_duals.proofs.WalkLemmas.{going_dropped, going_on}
use Rattle.budget_duals.proofs.walking.walk.Goals as goal

pub visit-requires-clause-own : goal.visit-requires-clause-own
visit-requires-clause-own g c =
    let w : Budgets = budgets_of c.args.tree.now (g.O.Offers.blocks c.args.offers.now)
    (g.H.Holdings.node_of c.args.held.now) (g.H.Holdings.held_by c.args.held.now) in
    let here : (b : ℕ) → b < w.blocks → b < g.O.Offers.blocks c.loop-entry.offers =
    λ b inside. subst (λ n. b < n) (sym c.loop-entry.invariant.blocks) inside in
    top_own w _ _ _ _ _ _ c.in-Some.entry c.loop-entry.invariant.going c.in-Some.ensures.permutation
    c.requires.can c.requires.blocks
    (λ b inside. g.met.O.Offers.true_offers c.loop-entry.offers b (here b inside))
    (λ b inside. g.met.O.Offers.own_steps c.loop-entry.offers b (here b inside))

pub visit-requires-clause-can : goal.visit-requires-clause-can
visit-requires-clause-can g c = λ s is.
    let w : Budgets = budgets_of c.args.tree.now (g.O.Offers.blocks c.args.offers.now)
    (g.H.Holdings.node_of c.args.held.now) (g.H.Holdings.held_by c.args.held.now) in
    let here : (b : ℕ) → b < w.blocks → b < g.O.Offers.blocks c.loop-entry.offers =
    λ b inside. subst (λ n. b < n) (sym c.loop-entry.invariant.blocks) inside in
    subst (λ (m : List ℕ). CanTake m (g.H.Holdings.chosen c.loop-entry.held) s)
    (sym c.loop-entry.invariant.most)
    (top_can w _ _ _ _ _ _ c.in-Some.entry c.loop-entry.invariant.going
    c.in-Some.ensures.permutation c.requires.can c.requires.blocks
    (λ b inside. g.met.O.Offers.true_offers c.loop-entry.offers b (here b inside))
    (λ b inside. g.met.O.Offers.own_steps c.loop-entry.offers b (here b inside)) s is)

pub visit-requires-clause-known : goal.visit-requires-clause-known
visit-requires-clause-known g c = λ s is.
    let w : Budgets = budgets_of c.args.tree.now (g.O.Offers.blocks c.args.offers.now)
    (g.H.Holdings.node_of c.args.held.now) (g.H.Holdings.held_by c.args.held.now) in
    let here : (b : ℕ) → b < w.blocks → b < g.O.Offers.blocks c.loop-entry.offers =
    λ b inside. subst (λ n. b < n) (sym c.loop-entry.invariant.blocks) inside in
    c.loop-entry.invariant.knows s
    (top_all w _ _ _ _ _ _ c.in-Some.entry c.loop-entry.invariant.going
    c.in-Some.ensures.permutation c.requires.can c.requires.blocks
    (λ b inside. g.met.O.Offers.true_offers c.loop-entry.offers b (here b inside))
    (λ b inside. g.met.O.Offers.own_steps c.loop-entry.offers b (here b inside)) s is
    (g.H.Holdings.knows c.args.held.now) c.requires.known)

pub visit-requires-clause-next : goal.visit-requires-clause-next
visit-requires-clause-next g c = λ s is.
    let w : Budgets = budgets_of c.args.tree.now (g.O.Offers.blocks c.args.offers.now)
    (g.H.Holdings.node_of c.args.held.now) (g.H.Holdings.held_by c.args.held.now) in
    let w1 : Budgets = budgets_of c.args.tree.now (g.O.Offers.blocks c.loop-entry.offers)
    (g.H.Holdings.node_of c.loop-entry.held) (g.H.Holdings.held_by c.loop-entry.held) in
    let same : w1 ≡ w = same_budgets c.args.tree.now _ _ _ _ _ _ c.loop-entry.invariant.blocks
    c.loop-entry.invariant.node c.loop-entry.invariant.held in
    let o : Outcome = so_far (g.H.Holdings.chosen c.loop-entry.held)
    (g.O.Offers.done c.loop-entry.offers) (g.O.Offers.left c.loop-entry.offers)
    c.loop-entry.closed in
    let here : (b : ℕ) → b < w.blocks → b < g.O.Offers.blocks c.loop-entry.offers =
    λ b inside. subst (λ n. b < n) (sym c.loop-entry.invariant.blocks) inside in
    let open_now : nearest w1 o c.in-Some.entry.block ≡ None =
    subst (λ (n : ℕ). first (closed_by c.loop-entry.closed) (chain (around_in c.args.tree.now) n)
    ≡ None) c.node.ensures
    (c.is_open.ensures.0 c.if-is_open.true) in
    subst (λ (v : Budgets). IsNextStep v o s) (sym same)
    (top_next w _ _ o _ _ _ c.in-Some.entry c.loop-entry.invariant.going
    c.in-Some.ensures.permutation c.requires.can c.requires.blocks
    (λ b inside. g.met.O.Offers.true_offers c.loop-entry.offers b (here b inside))
    (λ b inside. g.met.O.Offers.own_steps c.loop-entry.offers b (here b inside)) s is
    (c.in-Some.ensures.below_top c.loop-entry.invariant.going.order)
    (subst (λ (v : Budgets). nearest v o c.in-Some.entry.block ≡ None) same open_now))

pub loop-entry-preserved-then-is_open : goal.loop-entry-preserved-then-is_open
loop-entry-preserved-then-is_open g c =
    let w : Budgets = budgets_of c.args.tree.now (g.O.Offers.blocks c.args.offers.now)
    (g.H.Holdings.node_of c.args.held.now) (g.H.Holdings.held_by c.args.held.now) in
    let w1 : Budgets = budgets_of c.args.tree.now (g.O.Offers.blocks c.loop-entry.offers)
    (g.H.Holdings.node_of c.loop-entry.held) (g.H.Holdings.held_by c.loop-entry.held) in
    let same : w1 ≡ w = same_budgets c.args.tree.now _ _ _ _ _ _ c.loop-entry.invariant.blocks
    c.loop-entry.invariant.node c.loop-entry.invariant.held in
    let steps : ℕ → List Step = g.O.Offers.left c.args.offers.now in
    let o : Outcome = so_far (g.H.Holdings.chosen c.loop-entry.held)
    (g.O.Offers.done c.loop-entry.offers) (g.O.Offers.left c.loop-entry.offers)
    c.loop-entry.closed in
    let n : Outcome = so_far (g.H.Holdings.chosen c.visit.new.held)
    (g.O.Offers.done c.visit.new.offers) (g.O.Offers.left c.visit.new.offers) c.visit.new.closed
    in
    let blocks : g.O.Offers.blocks c.visit.new.offers ≡ g.O.Offers.blocks c.args.offers.now =
    c.visit.ensures.blocks ∙ c.loop-entry.invariant.blocks in
    let inside = (top_entry w steps (g.H.Holdings.most c.args.held.now) o _ _ _ c.in-Some.entry
    c.loop-entry.invariant.going c.in-Some.ensures.permutation).inside in
    let len = c.in-Some.ensures.len in
    let more = c.refill.ensures.len in
    let few = c.loop-entry.invariant.few in
    let room = c.loop-entry.invariant.room in
    let kept = c.in-Some.ensures.capacity in
    let grown = c.refill.ensures.capacity in
    record {
      blocks = blocks;
      closed = c.visit.ensures.closed ∙ c.loop-entry.invariant.closed;
      most = c.visit.ensures.most ∙ c.loop-entry.invariant.most;
      node = c.visit.ensures.node ∙ c.loop-entry.invariant.node;
      held = c.visit.ensures.held ∙ c.loop-entry.invariant.held;
      knows = λ s known. c.visit.ensures.knows s (c.loop-entry.invariant.knows s known);
      stays = g.met.H.Holdings.stays_on _ _ _ c.loop-entry.invariant.stays c.visit.ensures.stays;
      keeps = g.met.O.Offers.stays_on _ _ _ c.loop-entry.invariant.keeps c.visit.ensures.keeps;
      few = omega arith;
      room = omega arith;
      going = going_on w steps (g.H.Holdings.most c.args.held.now) o _ _ _ c.in-Some.entry
          c.loop-entry.invariant.going c.in-Some.ensures.permutation
          n (g.O.Offers.offered c.visit.new.offers) (heap_items c.refill.new.heap)
          (subst (λ (v : Budgets). Walks v steps o → Walks v steps n) same
          (c.visit.ensures.walks steps) c.loop-entry.invariant.going.walks)
          (subst (λ (v : Budgets). (b : ℕ) → nearest v n b ≡ None → nearest v o b ≡ None) same
          c.visit.ensures.opens)
          c.visit.ensures.lefts c.visit.ensures.others
          (g.met.O.Offers.true_offers c.visit.new.offers c.in-Some.entry.block
          (subst (λ k. c.in-Some.entry.block < k) (sym blocks) inside))
          c.refill.ensures.refilled c.refill.ensures.order;
    }

pub loop-entry-preserved : goal.loop-entry-preserved
loop-entry-preserved g c =
    let w : Budgets = budgets_of c.args.tree.now (g.O.Offers.blocks c.args.offers.now)
    (g.H.Holdings.node_of c.args.held.now) (g.H.Holdings.held_by c.args.held.now) in
    let w1 : Budgets = budgets_of c.args.tree.now (g.O.Offers.blocks c.loop-entry.offers)
    (g.H.Holdings.node_of c.loop-entry.held) (g.H.Holdings.held_by c.loop-entry.held) in
    let same : w1 ≡ w = same_budgets c.args.tree.now _ _ _ _ _ _ c.loop-entry.invariant.blocks
    c.loop-entry.invariant.node c.loop-entry.invariant.held in
    let steps : ℕ → List Step = g.O.Offers.left c.args.offers.now in
    let o : Outcome = so_far (g.H.Holdings.chosen c.loop-entry.held)
    (g.O.Offers.done c.loop-entry.offers) (g.O.Offers.left c.loop-entry.offers)
    c.loop-entry.closed in
    let len = c.in-Some.ensures.len in
    let few = c.loop-entry.invariant.few in
    let room = c.loop-entry.invariant.room in
    let kept = c.in-Some.ensures.capacity in
    record {
      blocks = c.loop-entry.invariant.blocks;
      closed = c.loop-entry.invariant.closed;
      most = c.loop-entry.invariant.most;
      node = c.loop-entry.invariant.node;
      held = c.loop-entry.invariant.held;
      knows = c.loop-entry.invariant.knows;
      stays = c.loop-entry.invariant.stays;
      keeps = c.loop-entry.invariant.keeps;
      few = omega arith;
      room = omega arith;
      going = going_dropped w steps (g.H.Holdings.most c.args.held.now) o _ _ _ c.in-Some.entry
          c.loop-entry.invariant.going c.in-Some.ensures.permutation
          (c.in-Some.ensures.heap_order c.loop-entry.invariant.going.order).0
          (λ none. (let now : nearest w1 o c.in-Some.entry.block
          ≡ None = subst (λ (v : Budgets). nearest v o c.in-Some.entry.block ≡ None) (sym same)
          none in
          let yes : IsTrue c.is_open.result = c.is_open.ensures.1
          (subst (λ (k : ℕ). first (closed_by c.loop-entry.closed)
          (chain (around_in c.args.tree.now) k) ≡ None) (sym c.node.ensures) now) in
          let not_open = c.if-is_open.false in
          let bad : ⊥ = cc in
          bad));
    }
