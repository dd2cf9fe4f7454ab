-- The excess of all blocks together is at most the bytes that they leave.
use Rattle.std.proofs.Common.{ℕ, List, ◌+◌, ◌<◌, ◌≤◌, ◌≡◌, ◌^◌, arith, ap, subst, ◌∙◌}
use Rattle.rd_hulls.specs.declared.step.Step.{Step}
use Rattle.allocation_bound.specs.Budgets.{base, chain}
use Rattle.allocation_bound.specs.Steps.{excess, lens}
use Rattle.allocation_bound.specs.Sums.{upto}
use Rattle.budget_duals.specs.Sums.{rate_by}
use Rattle.budget_duals.specs.Tree.{around_in, closed_by}
use Rattle.budget_duals.proofs.SumLemmas.{excess_lens, sum_fits, part_fits}
use Rattle.budget_duals.proofs.sums.excess_sum.Goals as goal

pub overflow_add-sum : goal.overflow_add-sum
overflow_add-sum g c =
    let blocks : ℕ = g.O.Offers.blocks c.args.offers.now in
    let left : ℕ → List Step = g.O.Offers.left c.args.offers.now in
    let rate : ℕ → ℕ = rate_by c.args.tree.now c.args.closed.now
    (g.H.Holdings.node_of c.args.held.now) in
    let f : ℕ → ℕ = λ b. excess (rate b) (left b) in
    let k : ℕ = c.loop-block.block in
    let inside : k < blocks = subst (λ n. k < n) c.count-block-end.ensures c.loop-block-test.true in
    let value : c.rate_at.result ≡ rate k = c.rate_at.ensures.value
    ∙ ap (λ n. base (closed_by c.args.closed.now) (chain (around_in c.args.tree.now) n))
    c.node.ensures in
    let more : c.excess-sum.result ≡ f k = c.excess-sum.ensures.excess
    ∙ (ap (λ m. excess m (g.O.Offers.left c.loop-block.offers k)) value
    ∙ ap (λ (l : ℕ → List Step). excess (rate k) (l k)) c.loop-block.invariant.left) in
    let fits : upto k f + f k ≤ upto blocks (λ b. lens (left b)) =
    sum_fits blocks k f (λ b. lens (left b)) inside
    (λ b lt. excess_lens (rate b) (left b) (c.requires.agree b lt).untaken) in
    let sum : c.loop-block.sum ≡ upto k f = c.loop-block.invariant.sum in
    let few : upto blocks (λ b. lens (left b)) < 2 ^ 64 = c.requires.few in
    omega arith

pub returns-clause-small : goal.returns-clause-small
returns-clause-small g c =
    let blocks : ℕ = g.O.Offers.blocks c.args.offers.now in
    let left : ℕ → List Step = g.O.Offers.left c.args.offers.now in
    let rate : ℕ → ℕ = rate_by c.args.tree.now c.args.closed.now
    (g.H.Holdings.node_of c.args.held.now) in
    let f : ℕ → ℕ = λ b. excess (rate b) (left b) in
    let k : ℕ = c.loop-block.block in
    let end = c.loop-block.auto.block-end in
    let upto_end : k ≤ c.count-block-end.result = omega arith in
    let within : k ≤ blocks = subst (λ n. k ≤ n) c.count-block-end.ensures upto_end in
    let fits : upto k f ≤ upto blocks (λ b. lens (left b)) =
    part_fits blocks k f (λ b. lens (left b)) within
    (λ b lt. excess_lens (rate b) (left b) (c.requires.agree b lt).untaken) in
    let sum : c.loop-block.sum ≡ upto k f = c.loop-block.invariant.sum in
    let few : upto blocks (λ b. lens (left b)) < 2 ^ 64 = c.requires.few in
    omega arith
