-- A closed budget is the first closed one, or there is one before it.
use Rattle.std.proofs.Common.{IsTrue, ◌∙◌, subst}
use Rattle.budget_duals.specs.Tree.{closed_by}
use Rattle.budget_duals.proofs.TreeLemmas.{first_at}
use Rattle.budget_duals.proofs.tree.none_closed.Goals as goal

pub returns-then-is_closed : goal.returns-then-is_closed
returns-then-is_closed c = (
  λ h. (let bad : ⊥ = cc in absurd bad),
  λ none. subst IsTrue (c.is_closed.ensures ∙ first_at (closed_by c.args.closed.now)
      c.args.budgets.now c.loop-j.j-index c.loop-j-test.true none)
      c.if-is_closed.true,
)
