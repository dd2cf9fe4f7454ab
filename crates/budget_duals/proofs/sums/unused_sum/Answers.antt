-- Each budget adds at most 2^121.
use Rattle.std.proofs.Common.{ℕ, ◌-◌, ◌*◌, ◌<◌, ◌≤◌, ◌≡◌, ◌^◌, length, arith, subst}
use Rattle.allocation_bound.specs.Sums.{upto}
use Rattle.budget_duals.specs.Tree.{limit_at, number_at}
use Rattle.budget_duals.proofs.SumLemmas.{product_fits, worth_fits, upto_small}
use Rattle.budget_duals.proofs.sums.unused_sum.Goals as goal

pub overflow_add-sum : goal.overflow_add-sum
overflow_add-sum g c =
    let n : ℕ = length c.args.tree.now.limits.now in
    let m : ℕ → ℕ = number_at c.args.multipliers.now in
    let limit : ℕ → ℕ = limit_at c.args.tree.now in
    let held : ℕ → ℕ = g.H.Holdings.held_by c.args.held.now (g.H.Holdings.chosen c.args.held.now) in
    let k : ℕ = c.loop-j.j in
    let inside : k < n = subst (λ i. k < i) c.requires.multipliers c.loop-j-test.true in
    let unused = c.saturating_sub-unused.ensures in
    let few : limit k < 2 ^ 25 = c.requires.limits k inside in
    let here : m k * c.saturating_sub-unused.result ≤ 2 ^ 121 =
    product_fits (m k) c.saturating_sub-unused.result (c.requires.small k inside) (omega arith) in
    let before : upto k (λ j. m j * (limit j - held j)) ≤ k * 2 ^ 121 =
    upto_small k (λ j. m j * (limit j - held j))
    (λ j lt. worth_fits (m j) (limit j) (held j) (c.requires.small j (omega arith))
    (c.requires.limits j (omega arith))) in
    let sum : c.loop-j.sum ≡ upto k (λ j. m j * (limit j - held j)) = c.loop-j.invariant in
    let hundred = c.requires.few in
    omega arith

pub returns-clause-small : goal.returns-clause-small
returns-clause-small g c =
    let n : ℕ = length c.args.tree.now.limits.now in
    let m : ℕ → ℕ = number_at c.args.multipliers.now in
    let limit : ℕ → ℕ = limit_at c.args.tree.now in
    let held : ℕ → ℕ = g.H.Holdings.held_by c.args.held.now (g.H.Holdings.chosen c.args.held.now) in
    let k : ℕ = c.loop-j.j in
    let end = c.loop-j.auto.j-end in
    let upto_end : k ≤ length c.args.multipliers.now = omega arith in
    let within : k ≤ n = subst (λ i. k ≤ i) c.requires.multipliers upto_end in
    let before : upto k (λ j. m j * (limit j - held j)) ≤ k * 2 ^ 121 =
    upto_small k (λ j. m j * (limit j - held j))
    (λ j lt. worth_fits (m j) (limit j) (held j) (c.requires.small j (omega arith))
    (c.requires.limits j (omega arith))) in
    let sum : c.loop-j.sum ≡ upto k (λ j. m j * (limit j - held j)) = c.loop-j.invariant in
    let hundred = c.requires.few in
    omega arith
