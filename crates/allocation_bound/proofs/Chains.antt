-- Chains of nested budgets: each tail is the chain of its head, and numbers fall.
use Rattle.std.proofs.Common.{ℕ, zero, suc, ◌≡◌, ◌<◌, ◌≤◌, ◌⊎◌, List, [], ◌∷◌, refl, arith, inl}
use Rattle.std.proofs.Common.{inr}
use Rattle.std.proofs.lemmas.Bool.{cases_eq}
use Rattle.std.proofs.lemmas.Bool.Decides.{nat_tests}
use Rattle.std.specs.List.{AllByRecursion}
use Rattle.allocation_bound.specs.Sums.{only}
use Rattle.allocation_bound.specs.Budgets.{AreAround, IsNested, IsChain, chain, IsOn}

around_within : (around : ℕ → List ℕ) → IsNested around → (n j : ℕ) (r : List ℕ) → j ≤ n
    → AreAround around j r → IsChain around r
around_within around nested n j [] le h = tt
around_within around nested zero j (i ∷ r) le h = let lt : i < j = h.0 in absurd (omega arith)
around_within around nested (suc n) j (i ∷ r) le h =
    let lt : i < j = h.0 in
    (h.1, rw h.1 (around_within around nested n i (around i) (omega arith) (nested i)))

pub around_is_chain : (around : ℕ → List ℕ) → IsNested around → (j : ℕ) → IsChain around (around j)
around_is_chain around nested j = around_within around nested j j (around j) (omega arith)
    (nested j)

pub chain_is_chain : (around : ℕ → List ℕ) → IsNested around → (j : ℕ)
    → IsChain around (chain around j)
chain_is_chain around nested j = (refl, around_is_chain around nested j)

below_more : (i j : ℕ) (r : List ℕ) → i < j → AllByRecursion (λ k. k < i) r
    → AllByRecursion (λ k. k < j) r
below_more i j [] lt h = tt
below_more i j (k ∷ r) lt h = let b : k < i = h.0 in (omega arith, below_more i j r lt h.1)

falls_within : (around : ℕ → List ℕ) → IsNested around → (n j : ℕ) (r : List ℕ) → j ≤ n
    → AreAround around j r → AllByRecursion (λ k. k < j) r
falls_within around nested n j [] le h = tt
falls_within around nested zero j (i ∷ r) le h = let lt : i < j = h.0 in absurd (omega arith)
falls_within around nested (suc n) j (i ∷ r) le h =
    let lt : i < j = h.0 in
    let later : AllByRecursion (λ k. k < i) r =
    rw h.1 (falls_within around nested n i (around i) (omega arith) (nested i)) in
    (h.0, below_more i j r lt later)

-- the budgets around j have lower numbers
pub falls : (around : ℕ → List ℕ) → IsNested around → (j : ℕ)
    → AllByRecursion (λ k. k < j) (around j)
falls around nested j = falls_within around nested j j (around j) (omega arith) (nested j)

pub chain_below : (around : ℕ → List ℕ) → IsNested around → (j n : ℕ) → j < n
    → AllByRecursion (λ k. k < n) (chain around j)
chain_below around nested j n lt = (lt, below_more j n (around j) lt (falls around nested j))

-- a budget on a list below n is below n
pub on_below : (n j : ℕ) (c : List ℕ) → AllByRecursion (λ k. k < n) c → IsOn j c → j < n
on_below n j [] h on = absurd on
on_below n j (k ∷ r) h (inl e) = rw (← e) h.0
on_below n j (k ∷ r) h (inr on) = on_below n j r h.1 on

-- a budget stands on a list or not
pub cases_on : (j : ℕ) (c : List ℕ) → IsOn j c ⊎ (¬ IsOn j c)
cases_on j [] = inr (λ h. h)
cases_on j (i ∷ r) = elim (cases_eq i j) [
  | inl e ↦ inl (inl e)
  | inr ne ↦ elim (cases_on j r) [
    | inl on ↦ inl (inr on)
    | inr off ↦ inr (λ h. elim h [ inl e ↦ ne e | inr on ↦ off on ])
  ]
]

pub only_same : (j v : ℕ) → only j v j ≡ v
only_same j v = grind (arith, nat_tests)

pub only_other : (i v j : ℕ) → ¬ (i ≡ j) → only i v j ≡ 0
only_other i v j ne = grind (arith, nat_tests)
