-- The tree has the budgets of the frame.
use Rattle.std.proofs.Common.{ℕ, ◌≡◌, ◌+◌, ◌<◌, ◌≤◌, ◌^◌, List, [], ◌∷◌, map, get_or}
use Rattle.std.proofs.Common.{slice_index_or, Option, arith, sym, subst}
use Rattle.rd_hulls.specs.declared.step.Step.{Step}
use Rattle.allocation_bound.specs.Settled.{Budgets, AreBudgets}
use Rattle.allocation_bound.specs.Steps.{gains, lens}
use Rattle.allocation_bound.specs.Sums.{upto}
use Rattle.budget_duals.specs.Allocated.{IsAllocated}
use Rattle.budget_duals.specs.Frame.{frame_budgets, AreMembers}
use Rattle.budget_duals.specs.Listing.{refused_all}
use Rattle.budget_duals.specs.Numbered.{bytes_in}
use Rattle.budget_duals.specs.Price.{CanTake, HasLaw}
use Rattle.budget_duals.specs.Walking.{so_far}
use Rattle.budget_duals.specs.declared.held.Held.{Held}
use Rattle.budget_duals.specs.declared.limits.Limits.{Limits}
use Rattle.budget_duals.specs.declared.members.Members.{Members}
use Rattle.budget_duals.proofs.CertifiedLemmas.{can_take_refused, all_refused, taken_gains}
use Rattle.budget_duals.proofs.CertifiedLemmas.{certified_frame}
use Rattle.budget_duals.proofs.FrameLemmas.{low_each, within_each, frame_are_budgets, budgets_by}
use Rattle.budget_duals.proofs.FrameLemmas.{budgets_are, numbers_are}
use Rattle.budget_duals.proofs.frame.allocate_around.Goals as goal

pub allocate_over-requires-clause-limits : goal.allocate_over-requires-clause-limits
allocate_over-requires-clause-limits g c = λ j below.
    subst (λ (l : List ℕ). get_or l j 0 < 2 ^ 25)
    (sym (numbers_are c.args.limits.now c.inner_limit.result c.inner_limit.ensures))
    (low_each c.args.limits.now c.requires.ready.low j below)

pub allocate_over-requires-clause-budgets : goal.allocate_over-requires-clause-budgets
allocate_over-requires-clause-budgets g c =
    let limits : Limits = c.args.limits.now in
    let blocks : ℕ = g.O.Offers.blocks c.args.offers.now in
    let inside : ℕ → Members = g.P.Price.inside_of c.args.price.now in
    let held : List ℕ → Held = g.P.Price.held_for c.args.price.now in
    let law : HasLaw blocks inside held = subst (λ n. HasLaw n inside held) (sym c.requires.blocks)
    (g.met.P.Price.has_law c.args.price.now) in
    let are : (b : ℕ) → b < blocks → AreMembers limits.inner (inside b) =
    λ b below. c.requires.ready.members b (subst (λ n. b < n) c.requires.blocks below) in
    subst AreBudgets
    (sym (budgets_are limits _ _ blocks inside held c.requires.around
    (numbers_are limits c.inner_limit.result c.inner_limit.ensures)))
    (frame_are_budgets limits blocks inside held law are)

pub allocate_over-requires-clause-within : goal.allocate_over-requires-clause-within
allocate_over-requires-clause-within g c = λ j below.
    subst (λ (l : List ℕ). bytes_in
    (g.P.Price.held_for c.args.price.now (g.P.Price.counts c.args.price.now)) j ≤ get_or l j 0)
    (sym (numbers_are c.args.limits.now c.inner_limit.result c.inner_limit.ensures))
    (within_each c.args.limits.now
    (g.P.Price.held_for c.args.price.now (g.P.Price.counts c.args.price.now)) c.requires.within
    c.requires.ready.none j below)

pub certificate_of-requires-clause-can : goal.certificate_of-requires-clause-can
certificate_of-requires-clause-can g c = λ j s e.
    let blocks : ℕ = g.O.Offers.blocks c.args.offers.now in
    let steps : ℕ → List Step = g.O.Offers.left c.args.offers.now in
    let most : List ℕ = g.P.Price.highest c.args.price.now in
    let w : Budgets = budgets_by (map (λ row. row.now) c.args.around.now)
    (c.args.limits.now.frame ∷ c.inner_limit.result ∷ slice_index_or c.args.limits.now.component 0 0
    ∷ slice_index_or c.args.limits.now.component 1 0
    ∷ slice_index_or c.args.limits.now.component 2 0 ∷ [])
    blocks (g.P.Price.inside_of c.args.price.now) (g.P.Price.held_for c.args.price.now) in
    let all : IsAllocated w steps
    (so_far (g.P.Price.counts c.allocate_over.new.held)
    (g.O.Offers.done c.allocate_over.new.offers)
    (g.O.Offers.left c.allocate_over.new.offers) c.in_ok-duals.duals.closed.items)
    c.in_ok-duals.duals.multipliers.items c.in_ok-duals.duals.gap =
    c.in_ok-duals.ensures.ok in
    subst (λ (l : List ℕ). CanTake l (g.P.Price.counts c.allocate_over.new.held) s)
    (sym (g.met.P.Price.same_highest c.args.price.now c.allocate_over.new.held
    c.in_ok-duals.ensures.stays))
    (can_take_refused w steps _ most all.settled all.certificate (sym c.requires.blocks)
    c.requires.ready.can_walk j s e)

pub certificate_of-requires-clause-known : goal.certificate_of-requires-clause-known
certificate_of-requires-clause-known g c = λ j s e.
    let blocks : ℕ = g.O.Offers.blocks c.args.offers.now in
    let steps : ℕ → List Step = g.O.Offers.left c.args.offers.now in
    let w : Budgets = budgets_by (map (λ row. row.now) c.args.around.now)
    (c.args.limits.now.frame ∷ c.inner_limit.result ∷ slice_index_or c.args.limits.now.component 0 0
    ∷ slice_index_or c.args.limits.now.component 1 0
    ∷ slice_index_or c.args.limits.now.component 2 0 ∷ [])
    blocks (g.P.Price.inside_of c.args.price.now) (g.P.Price.held_for c.args.price.now) in
    let all : IsAllocated w steps
    (so_far (g.P.Price.counts c.allocate_over.new.held)
    (g.O.Offers.done c.allocate_over.new.offers)
    (g.O.Offers.left c.allocate_over.new.offers) c.in_ok-duals.duals.closed.items)
    c.in_ok-duals.duals.multipliers.items c.in_ok-duals.duals.gap =
    c.in_ok-duals.ensures.ok in
    g.met.P.Price.same_knows c.args.price.now c.allocate_over.new.held s
    c.in_ok-duals.ensures.stays
    (all_refused w steps _ (g.P.Price.knows c.args.price.now) all.settled c.requires.known j s e)

pub certificate_of-requires-clause-gains : goal.certificate_of-requires-clause-gains
certificate_of-requires-clause-gains g c =
    let blocks : ℕ = g.O.Offers.blocks c.args.offers.now in
    let steps : ℕ → List Step = g.O.Offers.left c.args.offers.now in
    let done : ℕ → List Step = g.O.Offers.done c.allocate_over.new.offers in
    let taken : upto blocks (λ b. gains (done b)) ≤ upto blocks (λ b. gains (steps b)) =
    taken_gains _ steps _ c.in_ok-duals.ensures.ok.settled in
    let most : upto blocks (λ b. gains (steps b)) ≤ c.args.start =
    subst (λ (n : ℕ). upto n (λ b. gains (steps b)) ≤ c.args.start) (sym c.requires.blocks)
    c.requires.ready.gain in
    subst (λ (n : ℕ). upto n (λ b. gains (done b)) ≤ c.args.start)
    (sym c.in_ok-duals.ensures.blocks) (omega arith)

pub returns-clause-certified : goal.returns-clause-certified
returns-clause-certified g c =
    let limits : Limits = c.args.limits.now in
    let blocks : ℕ = g.O.Offers.blocks c.args.offers.now in
    let inside : ℕ → Members = g.P.Price.inside_of c.args.price.now in
    let held : List ℕ → Held = g.P.Price.held_for c.args.price.now in
    let steps : ℕ → List Step = g.O.Offers.left c.args.offers.now in
    let counts : List ℕ = g.P.Price.counts c.allocate_over.new.held in
    let done : ℕ → List Step = g.O.Offers.done c.allocate_over.new.offers in
    let left : ℕ → List Step = g.O.Offers.left c.allocate_over.new.offers in
    let closed : List (Option Step) = c.in_ok-duals.duals.closed.items in
    let numbers : List ℕ = c.in_ok-duals.duals.multipliers.items in
    let gap : ℕ = c.in_ok-duals.duals.gap in
    let same = budgets_are limits _ _ blocks inside held c.requires.around
    (numbers_are limits c.inner_limit.result c.inner_limit.ensures) in
    let all : IsAllocated (frame_budgets limits blocks inside held) steps
    (so_far counts done left closed) numbers gap =
    subst (λ (w : Budgets). IsAllocated w steps (so_far counts done left closed) numbers gap) same
    c.in_ok-duals.ensures.ok in
    let law : HasLaw blocks inside held =
    subst (λ n. HasLaw n inside held) (sym c.requires.blocks)
    (g.met.P.Price.has_law c.args.price.now) in
    let are : (b : ℕ) → b < blocks → AreMembers limits.inner (inside b) =
    λ b below. c.requires.ready.members b (subst (λ n. b < n) c.requires.blocks below) in
    let bytes : upto blocks (λ b. lens (steps b)) < 2 ^ 32 =
    subst (λ (n : ℕ). upto n (λ b. lens (steps b)) < 2 ^ 32) (sym c.requires.blocks)
    c.requires.ready.bytes in
    certified_frame limits blocks inside held steps counts done left closed numbers gap c.args.start
    c.certificate_of.result (frame_are_budgets limits blocks inside held law are) all bytes
    c.certificate_of.ensures.multipliers c.certificate_of.ensures.gap
    (subst (λ (n : ℕ). c.certificate_of.result.distortion + upto n (λ b. gains (done b))
    ≡ c.args.start) c.in_ok-duals.ensures.blocks
    c.certificate_of.ensures.distortion)
    (subst (λ (h : List ℕ → Held). c.certificate_of.result.refused.items
    ≡ refused_all (λ k j. bytes_in (h k) j) counts numbers closed)
    (g.met.P.Price.same_held c.args.price.now c.allocate_over.new.held c.in_ok-duals.ensures.stays)
    c.certificate_of.ensures.refused)
