-- The body bytes of a budget: those of the chains on which it stands are those of the blocks that
-- are in it.
use Rattle.std.proofs.Common.{ℕ, zero, suc, ◌≡◌, ◌+◌, ◌<◌, ◌≤◌, ◌↔◌, Bool, true, false, IsTrue}
use Rattle.std.proofs.Common.{if◌then◌else◌, List, [], ◌∷◌, get_or, slice_index_or, Option, Some}
use Rattle.std.proofs.Common.{None, refl, sym, subst, arith, inl, inr}
use Rattle.std.specs.List.{AllByRecursion}
use Rattle.cine_nums.specs.declared.budget.Budget.{Budget}
use Rattle.cine_nums.specs.declared.budget.Budget.TheVariants.{Frame, Inner, C0, C1, C2}
use Rattle.allocation_bound.specs.Budgets.{IsNested, IsChain, IsOn, body, chain}
use Rattle.allocation_bound.specs.Sums.{upto, total, only}
use Rattle.allocation_bound.proofs.Chains.{chain_is_chain, falls, on_below, only_other, only_same}
use Rattle.allocation_bound.proofs.SumLemmas.{upto_none, upto_same}
use Rattle.budget_duals.specs.Frame.{AreMembers, around_each, limit_each, or_none}
use Rattle.budget_duals.specs.Held.{held_in, limit_in, place_of}
use Rattle.budget_duals.specs.Members.{is_in}
use Rattle.budget_duals.specs.Numbered.{bytes_in, node_in}
use Rattle.budget_duals.specs.declared.held.Held.{Held}
use Rattle.budget_duals.specs.declared.limits.Limits.{Limits}
use Rattle.budget_duals.specs.declared.members.Members.{Members}
use Rattle.budget_duals.proofs.FrameLemmas.{named_on, nested_each, no_inner_in}

-- ---- one block, whose budgets stand on a chain

off_total : (j v : ℕ) (c : List ℕ) → ¬ IsOn j c → total (λ i. only i v j) c ≡ 0
off_total j v [] off = refl
off_total j v (i ∷ r) off =
    let here : only i v j ≡ 0 = only_other i v j (λ e. off (inl e)) in
    let rest : total (λ i. only i v j) r ≡ 0 = off_total j v r (λ on. off (inr on)) in
    omega arith

on_total : (around : ℕ → List ℕ) → IsNested around → (j v : ℕ) (c : List ℕ) → IsChain around c
    → IsOn j c → total (λ i. only i v j) c ≡ v
on_total around nested j v [] is on = absurd on
on_total around nested j v (i ∷ r) is (inl e) =
    let same : i ≡ j = e in
    let here : only i v j ≡ v = subst (λ k. only k v j ≡ v) (sym same) (only_same j v) in
    let lower : AllByRecursion (λ k. k < i) r =
    subst (AllByRecursion (λ k. k < i)) (sym is.0) (falls around nested i) in
    let rest : total (λ i. only i v j) r ≡ 0 =
    off_total j v r (λ on. let x : j < i = on_below i j r lower on in absurd (omega arith)) in
    omega arith
on_total around nested j v (i ∷ r) is (inr on) =
    let lower : AllByRecursion (λ k. k < i) r =
    subst (AllByRecursion (λ k. k < i)) (sym is.0) (falls around nested i) in
    let below : j < i = on_below i j r lower on in
    let here : only i v j ≡ 0 =
    only_other i v j (λ e. let same : i ≡ j = e in absurd (omega arith)) in
    let rest : total (λ i. only i v j) r ≡ v = on_total around nested j v r is.1 on in
    omega arith

not_true : IsTrue false → ⊥
not_true e = let bad : ⊥ = cc in bad

total_if : (around : ℕ → List ℕ) → IsNested around → (j v node : ℕ) (t : Bool)
    → IsTrue t ↔ IsOn j (chain around node)
    → total (λ i. only i v j) (chain around node) ≡ if t then v else 0
total_if around nested j v node true both =
    on_total around nested j v (chain around node) (chain_is_chain around nested node)
    (both.0 refl)
total_if around nested j v node false both =
    off_total j v (chain around node) (λ on. not_true (both.1 on))

abbrev around_of : Option ℕ → ℕ → List ℕ
around_of limit j = get_or (around_each limit) j []

in_budget : (limit : Option ℕ) (m : Members) (budget : Budget) (v : ℕ) → AreMembers limit m
    → total (λ i. only i v (place_of budget)) (chain (around_of limit) (node_in m))
    ≡ if is_in m budget then v else 0
in_budget limit m budget v are =
    total_if (around_of limit) (nested_each limit) (place_of budget) v (node_in m)
    (is_in m budget) (named_on limit m budget are)

-- ---- all blocks

-- what x has of each of the blocks of a budget
abbrev pub sum_in : (ℕ → Members) → (ℕ → ℕ) → ℕ → Budget → ℕ
sum_in inside x blocks budget = upto blocks (λ b. if is_in (inside b) budget then x b else 0)

module _ (limits : Limits) (blocks : ℕ) (inside : ℕ → Members)
    (are : (b : ℕ) → b < blocks → AreMembers limits.inner (inside b)) where
  abbrev body_at : (ℕ → ℕ) → ℕ → ℕ
  body_at x j = body (around_of limits.inner) (λ b. node_in (inside b)) x blocks j

  pub body_is : (x : ℕ → ℕ) (budget : Budget) →
      body_at x (place_of budget) ≡ sum_in inside x blocks budget
  body_is x budget =
      upto_same blocks
      (λ b. total (λ i. only i (x b) (place_of budget))
      (chain (around_of limits.inner) (node_in (inside b))))
      (λ b. if is_in (inside b) budget then x b else 0)
      (λ b below. in_budget limits.inner (inside b) budget (x b) (are b below))

  none_inside : (x : ℕ → ℕ) → limits.inner ≡ None → body_at x 1 ≡ 0
  none_inside x e =
      let same : body_at x 1 ≡ upto blocks (λ b. 0) =
      upto_same blocks
      (λ b. total (λ i. only i (x b) 1) (chain (around_of limits.inner) (node_in (inside b))))
      (λ b. 0)
      (λ b below. off_total 1 (x b) (chain (around_of limits.inner) (node_in (inside b)))
      (no_inner_in limits.inner (inside b) (are b below) e)) in
      let none : upto blocks (λ b. 0) ≡ 0 = upto_none blocks in
      omega arith

  module _ (held : Held) (x y : ℕ → ℕ)
      (fits : (budget : Budget) (n : ℕ) → limit_in limits budget ≡ Some n →
      sum_in inside x blocks budget + held_in held budget ≤ n + sum_in inside y blocks budget)
      (within : (j : ℕ) → j < 5 → bytes_in held j ≤ get_or (limit_each limits) j 0) where
    named_fits : (budget : Budget) (n : ℕ) → limit_in limits budget ≡ Some n →
        body_at x (place_of budget) + held_in held budget ≤ n + body_at y (place_of budget)
    named_fits budget n is =
        let own : body_at x (place_of budget) ≡ sum_in inside x blocks budget =
        body_is x budget in
        let other : body_at y (place_of budget) ≡ sum_in inside y blocks budget =
        body_is y budget in
        let f : sum_in inside x blocks budget + held_in held budget
        ≤ n + sum_in inside y blocks budget = fits budget n is in
        omega arith

    inner_fits : (inner : Option ℕ) → limits.inner ≡ inner →
        body_at x 1 + held.inner ≤ or_none inner + body_at y 1
    inner_fits None e =
        let own : body_at x 1 ≡ 0 = none_inside x e in
        let w : held.inner ≤ or_none limits.inner = within 1 (omega arith) in
        let none : held.inner ≤ 0 = subst (λ (o : Option ℕ). held.inner ≤ or_none o) e w in
        omega arith
    inner_fits (Some n) e = named_fits Inner n e

    -- bytes that fit in each budget fit in each budget by its number
    pub number_fits : (j : ℕ) → j < 5 →
        body_at x j + bytes_in held j ≤ get_or (limit_each limits) j 0 + body_at y j
    number_fits zero below = named_fits Frame limits.frame refl
    number_fits (suc zero) below = inner_fits limits.inner refl
    number_fits (suc (suc zero)) below =
        named_fits C0 (slice_index_or limits.component 0 0) refl
    number_fits (suc (suc (suc zero))) below =
        named_fits C1 (slice_index_or limits.component 1 0) refl
    number_fits (suc (suc (suc (suc zero)))) below =
        named_fits C2 (slice_index_or limits.component 2 0) refl
    number_fits (suc (suc (suc (suc (suc j))))) below = absurd (omega arith)
