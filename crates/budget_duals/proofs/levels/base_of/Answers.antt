-- The budgets before the first closed one are open.
use Rattle.std.proofs.Common.{sym, ◌∙◌}
use Rattle.budget_duals.specs.Tree.{closed_by}
use Rattle.budget_duals.proofs.TreeLemmas.{first_more}
use Rattle.budget_duals.proofs.LevelLemmas.{first_found, not_some}
use Rattle.budget_duals.proofs.levels.base_of.Goals as goal

pub returns-in-Some-clause-value : goal.returns-in-Some-clause-value
returns-in-Some-clause-value c =
    c.level_of.ensures.value
    ∙ sym (first_found (closed_by c.args.closed.now) c.args.budgets.now c.loop-j.j-index
    c.in-Some.step c.loop-j-test.true
    c.loop-j.invariant (sym c.closed_at.ensures ∙ c.in-Some.is))

pub loop-j-preserved : goal.loop-j-preserved
loop-j-preserved c =
    first_more (closed_by c.args.closed.now) c.args.budgets.now c.loop-j.j-index c.loop-j-test.true
    c.loop-j.invariant
    (not_some _ (λ s is. c.in_default.not-Some s (c.closed_at.ensures ∙ is)))
