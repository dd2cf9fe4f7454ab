-- Sums that fit.
use Rattle.std.proofs.Common.{ℕ, zero, suc, ◌≡◌, ◌+◌, ◌-◌, ◌*◌, ◌<◌, ◌≤◌, ◌^◌, inl, inr, List, []}
use Rattle.std.proofs.Common.{◌∷◌, length, set, arith, sym, subst, ◌∙◌}
use Rattle.std.proofs.Math.Nat.{mul-le-mul_right, mul-le-mul_left}
use Rattle.std.proofs.lemmas.Bool.{cases_eq}
use Rattle.std.proofs.lemmas.List.{get_or-set_same, get_or-set_other}
use Rattle.std.specs.List.{AllByRecursion}
use Rattle.rd_hulls.specs.declared.step.Step.{Step}
use Rattle.allocation_bound.specs.Steps.{scale, excess, lens}
use Rattle.allocation_bound.specs.Sums.{upto}
use Rattle.budget_duals.specs.Tree.{number_at}

excess_one : (m g n : ℕ) → scale * g < (m + 1) * n → scale * g - m * n ≤ n
excess_one m g n h = omega arith

-- steps below the next multiplier are above this one by less than their bytes
pub excess_lens : (m : ℕ) (left : List Step)
    → AllByRecursion (λ (s : Step). scale * s.gain < (m + 1) * s.len) left
    → excess m left ≤ lens left
excess_lens m [] all = omega arith
excess_lens m (s ∷ rest) all =
    let here : scale * s.gain - m * s.len ≤ s.len = excess_one m s.gain s.len all.0 in
    let later : excess m rest ≤ lens rest = excess_lens m rest all.1 in
    omega arith

pub upto_part : (n k : ℕ) (f : ℕ → ℕ) → k ≤ n → upto k f ≤ upto n f
upto_part zero k f le = let e : k
    ≡ 0 = omega arith in subst (λ i. upto i f ≤ 0) (sym e) (omega arith)
upto_part (suc n) k f le = elim (cases_eq k (suc n)) [
  | inl e ↦ subst (λ i. upto i f ≤ upto (suc n) f) (sym e) (omega arith)
  | inr ne ↦ (let h : upto k f ≤ upto n f = upto_part n k f (omega arith) in omega arith)
]

pub upto_each : (n : ℕ) (f g : ℕ → ℕ) → ((j : ℕ) → j < n → f j ≤ g j) → upto n f ≤ upto n g
upto_each zero f g h = omega arith
upto_each (suc n) f g h =
    let here : f n ≤ g n = h n (omega arith) in
    let later : upto n f ≤ upto n g = upto_each n f g (λ j lt. h j (omega arith)) in
    omega arith

-- a part of a sum, and the next one, are at most the whole of the larger ones
pub sum_fits : (n k : ℕ) (f g : ℕ → ℕ) → k < n → ((j : ℕ) → j < n → f j ≤ g j) → upto k f + f k
    ≤ upto n g
sum_fits n k f g below each =
    let a : upto k f ≤ upto k g = upto_each k f g (λ j lt. each j (omega arith)) in
    let b : f k ≤ g k = each k below in
    let c : upto (suc k) g ≤ upto n g = upto_part n (suc k) g (omega arith) in
    omega arith

pub product_fits : (m u : ℕ) → m < 2 ^ 96 → u < 2 ^ 25 → m * u ≤ 2 ^ 121
product_fits m u small few =
    let a : m * u ≤ 2 ^ 96 * u = mul-le-mul_right u (let l : m ≤ 2 ^ 96 = omega arith in l) in
    let b : 2 ^ 96 * u ≤ 2 ^ 96 * 2 ^ 25 = mul-le-mul_left (2 ^ 96)
    (let l : u ≤ 2 ^ 25 = omega arith in l) in
    omega arith

pub worth_fits : (m limit held : ℕ) → m < 2 ^ 96 → limit < 2 ^ 25 → m * (limit - held) ≤ 2 ^ 121
worth_fits m limit held small few = product_fits m (limit - held) small (omega arith)

pub upto_small : (n : ℕ) (f : ℕ → ℕ) → ((j : ℕ) → j < n → f j ≤ 2 ^ 121) → upto n f ≤ n * 2 ^ 121
upto_small zero f h = omega arith
upto_small (suc n) f h =
    let here : f n ≤ 2 ^ 121 = h n (omega arith) in
    let later : upto n f ≤ n * 2 ^ 121 = upto_small n f (λ j lt. h j (omega arith)) in
    omega arith

-- one number more is set
pub set_more : (out : List ℕ) (f : ℕ → ℕ) (k v : ℕ) → k < length out → v ≡ f k
    → ((j : ℕ) → j < k → number_at out j ≡ f j) → (j : ℕ) → j < k + 1 → number_at (set out k v) j
    ≡ f j
set_more out f k v inside is before j below = elim (cases_eq j k) [
  | inl e ↦ subst (λ i. number_at (set out k v) i ≡ f i) (sym e)
      (get_or-set_same out k v 0 inside ∙ is)
  | inr ne ↦ get_or-set_other out k j v 0 ne ∙ before j (omega arith)
]

-- a part of a sum is at most the whole of larger ones
pub part_fits : (n k : ℕ) (f g : ℕ → ℕ) → k ≤ n → ((j : ℕ) → j < n → f j ≤ g j) → upto k f
    ≤ upto n g
part_fits n k f g le each =
    let a : upto k f ≤ upto k g = upto_each k f g (λ j lt. each j (omega arith)) in
    let b : upto k g ≤ upto n g = upto_part n k g le in
    omega arith
