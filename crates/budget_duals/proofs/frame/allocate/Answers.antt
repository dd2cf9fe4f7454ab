-- The blocks' lists are those of one list.
use Rattle.std.proofs.Common.{ℕ, ◌≡◌, ◌<◌, ◌^◌, List, Vec, Global, length, map, sym, subst, ap, ◌∙◌}
use Rattle.std.proofs.lemmas.Result.{IfOk-weaker}
use Rattle.std.specs.List.{AllByRecursion}
use Rattle.rd_hulls.specs.declared.step.Step.{Step}
use Rattle.budget_duals.specs.Certified.{IsReady, IsCertificate}
use Rattle.budget_duals.specs.Frame.{frame_budgets}
use Rattle.budget_duals.specs.Held.{held_in, IsWithin, IsOutermostBroken}
use Rattle.budget_duals.specs.Listed.{done_at, left_at, steps_of}
use Rattle.budget_duals.specs.declared.held.Held.{Held}
use Rattle.budget_duals.specs.declared.limits.Limits.{Limits}
use Rattle.budget_duals.specs.declared.members.Members.{Members}
use Rattle.budget_duals.proofs.SplitLemmas.{few_steps}
use Rattle.budget_duals.proofs.TooSmall.{too_small_at, not_too_small}
use Rattle.budget_duals.proofs.frame.allocate.Goals as goal

pub returns-in-Some-clause-too_small : goal.returns-in-Some-clause-too_small
returns-in-Some-clause-too_small g c =
    too_small_at c.args.limits.now
    (g.P.Price.held_for c.args.price.now (g.P.Price.counts c.args.price.now)) c.in-Some.budget
    c.bytes-needed.result
    (subst (λ (h : Held). IsOutermostBroken c.args.limits.now h c.in-Some.budget)
    c.held-held.ensures c.in-Some.ensures)
    (c.bytes-needed.ensures ∙ ap (λ (h : Held). held_in h c.in-Some.budget) c.held-held.ensures)

pub of_list-requires-clause-few : goal.of_list-requires-clause-few
of_list-requires-clause-few g c =
    subst (λ (l : List Step). length l < 2 ^ 32) (sym c.deref.ensures.value)
    (few_steps (length (g.P.Price.highest c.args.price.now)) c.args.steps.items c.requires.blocks
    c.requires.ready.bytes)

pub of_list-requires-clause-blocks : goal.of_list-requires-clause-blocks
of_list-requires-clause-blocks g c =
    subst (λ (l : List Step). AllByRecursion (λ (s : Step). s.block < c.count.result) l)
    (sym c.deref.ensures.value)
    (subst (λ (n : ℕ). AllByRecursion (λ (s : Step). s.block < n) c.args.steps.items)
    (sym c.count.ensures) c.requires.blocks)

pub allocate_offers-requires-clause-ready : goal.allocate_offers-requires-clause-ready
allocate_offers-requires-clause-ready g c =
    let f : Vec Step Global → List Step = λ v. v.items in
    let left : ℕ → List Step = λ b. left_at (map f c.in-Ok.offers.rows.items)
    c.in-Ok.offers.places.items b in
    let same : (b : ℕ) → steps_of b c.args.steps.items ≡ left b =
    λ b. sym (c.in-Ok.ensures.left b ∙ ap (steps_of b) c.deref.ensures.value) in
    subst (λ (h : ℕ → List Step). IsReady c.args.limits.now (g.P.Price.highest c.args.price.now)
    (g.P.Price.counts c.args.price.now)
    (g.P.Price.inside_of c.args.price.now) (g.P.Price.held_for c.args.price.now) h c.args.start)
    (λ i b. same b i) c.requires.ready

pub allocate_offers-requires-clause-known : goal.allocate_offers-requires-clause-known
allocate_offers-requires-clause-known g c = λ b inside.
    let blocks : length c.in-Ok.offers.places.items ≡ length (g.P.Price.highest c.args.price.now) =
    c.in-Ok.ensures.blocks ∙ c.count.ensures in
    let same = c.in-Ok.ensures.left b ∙ ap (steps_of b) c.deref.ensures.value in
    subst (AllByRecursion (g.P.Price.knows c.args.price.now)) (sym same)
    (c.requires.known b (subst (λ n. b < n) blocks inside))

pub returns-in-Ok-clause-certified : goal.returns-in-Ok-clause-certified
returns-in-Ok-clause-certified g c =
    let f : Vec Step Global → List Step = λ v. v.items in
    let limits : Limits = c.args.limits.now in
    let inside : ℕ → Members = g.P.Price.inside_of c.args.price.now in
    let held : List ℕ → Held = g.P.Price.held_for c.args.price.now in
    let steps : ℕ → List Step = λ b. steps_of b c.args.steps.items in
    let counts : List ℕ = g.P.Price.counts c.allocate_offers.new.price in
    let first : ℕ → List Step = λ b. left_at (map f c.in-Ok.offers.rows.items)
    c.in-Ok.offers.places.items b in
    let done : ℕ → List Step = λ b. done_at (map f c.allocate_offers.new.offers.rows.items)
    c.allocate_offers.new.offers.places.items b in
    let left : ℕ → List Step = λ b. left_at (map f c.allocate_offers.new.offers.rows.items)
    c.allocate_offers.new.offers.places.items b in
    let blocks : length c.in-Ok.offers.places.items ≡ length (g.P.Price.highest c.args.price.now) =
    c.in-Ok.ensures.blocks ∙ c.count.ensures in
    let same : (b : ℕ) → first b ≡ steps b =
    λ b. c.in-Ok.ensures.left b ∙ ap (steps_of b) c.deref.ensures.value in
    let alike : first ≡ steps = λ i b. same b i in
    IfOk-weaker c.allocate_offers.result
    (λ a. IsCertificate (frame_budgets limits (length c.in-Ok.offers.places.items) inside held)
    first counts done left c.args.start a)
    (λ a. (d : ℕ → List Step) × ((l : ℕ → List Step)
    × IsCertificate (frame_budgets limits (length (g.P.Price.highest c.args.price.now)) inside held)
    steps counts d l c.args.start a))
    (λ a is. (
      done,
      (
        left,
        subst (λ (n : ℕ). IsCertificate (frame_budgets limits n inside held) steps counts done left
            c.args.start a) blocks
            (subst (λ (h : ℕ → List Step). IsCertificate
            (frame_budgets limits (length c.in-Ok.offers.places.items) inside held) h counts done
            left
            c.args.start a) alike is),
      ),
    ))
    c.allocate_offers.ensures.certified

pub returns-clause-too_small : goal.returns-clause-too_small
returns-clause-too_small g c =
    not_too_small c.args.limits.now
    (g.P.Price.held_for c.args.price.now (g.P.Price.counts c.args.price.now)) _
    (subst (λ (h : Held). IsWithin c.args.limits.now h) c.held-held.ensures c.in_default.ensures)
    (λ budget needed e. let bad : ⊥ = cc in bad)
