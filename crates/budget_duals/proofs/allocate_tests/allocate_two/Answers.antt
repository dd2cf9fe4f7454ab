-- The test of what is asked is right.
use Rattle.std.proofs.Common.{List, [], ◌∷◌, sym, subst}
use Rattle.rd_hulls.specs.declared.step.Step.{Step}
use Rattle.budget_duals.specs.Certified.{IsReady}
use Rattle.budget_duals.specs.Listed.{steps_of}
use Rattle.budget_duals.specs.TwoBlocks.{two_inside, two_held}
use Rattle.budget_duals.proofs.TwoReady.{two_ready, all_known}
use Rattle.budget_duals.proofs.allocate_tests.allocate_two.Goals as goal

pub allocate-requires-clause-ready : goal.allocate-requires-clause-ready
allocate-requires-clause-ready c =
    subst (λ (l : List Step). IsReady c.args.limits.now (3 ∷ 3 ∷ []) (0 ∷ 0 ∷ [])
    (two_inside c.args.inside.0 c.args.inside.1)
    (two_held c.args.base c.args.inside.0 c.args.inside.1 c.args.bytes.0 c.args.bytes.1)
    (λ b. steps_of b l) c.args.start)
    (sym c.in-Ok.ensures.items)
    (two_ready c.args.limits.now c.args.base c.args.inside.0 c.args.inside.1 c.args.bytes.0
    c.args.bytes.1 c.args.steps.now
    c.args.start c.requires.fits)

pub allocate-requires-clause-known : goal.allocate-requires-clause-known
allocate-requires-clause-known c = λ b inside. all_known _
