-- The five numbers are what the budgets hold.
use Rattle.std.proofs.Common.{ℕ, List, [], ◌∷◌, slice_index_or, set, ap, ◌∙◌}
use Rattle.allocation_bound.specs.Budgets.{chain}
use Rattle.budget_duals.specs.Numbered.{node_in, bytes_in}
use Rattle.budget_duals.specs.Tree.{around_in, limit_at, number_at, outermost}
use Rattle.budget_duals.specs.declared.held.Held.{Held}
use Rattle.budget_duals.proofs.TreeLemmas.{outermost_same, listed_bytes}
use Rattle.budget_duals.proofs.price_holdings.AnyHoldings.breaks.Goals as goal

pub returns : goal.returns
returns g c =
    let h : Held = c.after-held.result in
    let limit : ℕ → ℕ = limit_at c.args.tree.now in
    let around : ℕ → List ℕ = around_in c.args.tree.now in
    let node : ℕ = c.node_number-node.result in
    let after : Held = g.P.Price.held_for c.args.self.now
    (set (g.P.Price.counts c.args.self.now) c.args.step.now.block c.args.step.now.to) in
    c.outermost_broken.ensures
    ∙ (outermost_same limit
    (number_at (h.frame ∷ h.inner ∷ slice_index_or h.component 0 0 ∷ slice_index_or h.component 1 0
    ∷ slice_index_or h.component 2 0 ∷ []))
    (bytes_in h) (listed_bytes h) (chain around node)
    ∙ (ap (λ (k : Held). outermost limit (bytes_in k) (chain around node)) c.after-held.ensures
    ∙ ap (λ (n : ℕ). outermost limit (bytes_in after) (chain around n))
    (c.node_number-node.ensures ∙ ap node_in c.inside.ensures)))
