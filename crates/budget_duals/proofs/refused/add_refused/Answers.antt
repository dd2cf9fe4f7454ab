-- The step closed a budget, so it can be taken.
use Rattle.std.proofs.Common.{sym, ◌∙◌}
use Rattle.budget_duals.proofs.refused.add_refused.Goals as goal

pub grow_of-grow-requires-clause-can : goal.grow_of-grow-requires-clause-can
grow_of-grow-requires-clause-can g c = c.requires.can c.place-number.result c.in-Some.step
    (sym c.closed_at.ensures ∙ c.in-Some.is)

pub grow_of-grow-requires-clause-known : goal.grow_of-grow-requires-clause-known
grow_of-grow-requires-clause-known g c = c.requires.known c.place-number.result c.in-Some.step
    (sym c.closed_at.ensures ∙ c.in-Some.is)
