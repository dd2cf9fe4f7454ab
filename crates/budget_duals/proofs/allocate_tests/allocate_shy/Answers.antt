-- The lists are those of the steps.
use Rattle.std.proofs.Common.{ℕ, ◌≡◌, List, [], ◌∷◌, Vec, Global, map, sym, subst}
use Rattle.rd_hulls.specs.declared.step.Step.{Step}
use Rattle.budget_duals.specs.Certified.{IsReady}
use Rattle.budget_duals.specs.Listed.{left_at, steps_of}
use Rattle.budget_duals.specs.TwoBlocks.{two_inside, two_held}
use Rattle.budget_duals.proofs.TwoReady.{two_ready, all_known}
use Rattle.budget_duals.proofs.allocate_tests.allocate_shy.Goals as goal

pub allocate_offers-requires-clause-ready : goal.allocate_offers-requires-clause-ready
allocate_offers-requires-clause-ready c =
    let f : Vec Step Global → List Step = λ v. v.items in
    let same : (b : ℕ) → steps_of b c.args.steps.now
    ≡ left_at (map f c.in-Ok.inner.rows.items) c.in-Ok.inner.places.items b =
    λ b. sym (c.in-Ok.ensures.left b) in
    subst (λ (h : ℕ → List Step). IsReady c.args.limits.now (3 ∷ 3 ∷ []) (0 ∷ 0 ∷ [])
    (two_inside c.args.inside.0 c.args.inside.1)
    (two_held c.args.base c.args.inside.0 c.args.inside.1 c.args.bytes.0 c.args.bytes.1) h
    c.args.start)
    (λ i b. same b i)
    (two_ready c.args.limits.now c.args.base c.args.inside.0 c.args.inside.1 c.args.bytes.0
    c.args.bytes.1
    c.args.steps.now c.args.start c.requires.fits)

pub allocate_offers-requires-clause-known : goal.allocate_offers-requires-clause-known
allocate_offers-requires-clause-known c = λ b inside. all_known _
