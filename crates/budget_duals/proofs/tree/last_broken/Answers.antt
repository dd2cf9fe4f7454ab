-- One budget more.
use Rattle.std.proofs.Common.{sym, ap, ◌∙◌, if◌then◌else◌, nat_lt, get_or, Some, None}
use Rattle.budget_duals.specs.Tree.{number_at, last_of}
use Rattle.budget_duals.proofs.TreeLemmas.{outermost_more}
use Rattle.budget_duals.proofs.tree.last_broken.Goals as goal

pub loop-j-preserved : goal.loop-j-preserved
loop-j-preserved c =
    let l = c.args.budgets.now in
    let i = c.loop-j.j-index in
    c.broken_or-found.ensures ∙
    (ap (last_of (if nat_lt (number_at c.args.limits.now (get_or l i 0))
    (number_at c.args.held.now (get_or l i 0)) then Some (get_or l i 0) else None))
    c.loop-j.invariant
    ∙ sym (outermost_more (number_at c.args.limits.now) (number_at c.args.held.now) l i
    c.loop-j-test.true))
