-- A part of a sum is at most the whole.
use Rattle.std.proofs.Common.{ℕ, ◌+◌, ◌<◌, ◌≤◌, ◌≡◌, ◌^◌, arith, subst}
use Rattle.allocation_bound.specs.Steps.{gains}
use Rattle.allocation_bound.specs.Sums.{upto}
use Rattle.budget_duals.proofs.GainLemmas.{one_fits, next_fits}
use Rattle.budget_duals.proofs.refused.gained_sum.Goals as goal

pub gained-sum-requires-clause-small : goal.gained-sum-requires-clause-small
gained-sum-requires-clause-small g c =
    let blocks : ℕ = g.O.Offers.blocks c.args.offers.now in
    let f : ℕ → ℕ = λ b. gains (g.O.Offers.done c.args.offers.now b) in
    let inside : c.loop-block.block < blocks = subst (λ n. c.loop-block.block < n)
    c.count-block-end.ensures c.loop-block-test.true in
    let one : f c.loop-block.block ≤ upto blocks f = one_fits blocks c.loop-block.block f inside in
    let small : upto blocks f < 2 ^ 90 = c.requires.small in
    omega arith

pub overflow_add-sum : goal.overflow_add-sum
overflow_add-sum g c =
    let blocks : ℕ = g.O.Offers.blocks c.args.offers.now in
    let f : ℕ → ℕ = λ b. gains (g.O.Offers.done c.args.offers.now b) in
    let k : ℕ = c.loop-block.block in
    let inside : k < blocks = subst (λ n. k < n) c.count-block-end.ensures c.loop-block-test.true in
    let fits : upto k f + f k ≤ upto blocks f = next_fits blocks k f inside in
    let small : upto blocks f < 2 ^ 90 = c.requires.small in
    let sum : c.loop-block.sum ≡ upto k f = c.loop-block.invariant in
    let more : c.gained-sum.result ≡ f k = c.gained-sum.ensures in
    omega arith
