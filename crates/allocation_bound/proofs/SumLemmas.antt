-- Sums over budgets and over blocks change places.
use Rattle.std.proofs.Common.{ℕ, zero, suc, ◌≡◌, ◌+◌, ◌*◌, ◌<◌, ◌≤◌, List, [], ◌∷◌, refl, sym, ap}
use Rattle.std.proofs.Common.{◌∙◌, arith, inl, inr}
use Rattle.std.proofs.lemmas.Bool.{cases_eq}
use Rattle.std.specs.List.{AllByRecursion}
use Rattle.allocation_bound.specs.Steps.{scale}
use Rattle.allocation_bound.specs.Sums.{upto, total, only}
use Rattle.allocation_bound.specs.Budgets.{IsNested, chain, body, rate}
use Rattle.allocation_bound.proofs.Chains.{chain_below, only_same, only_other}

pub upto_same : (n : ℕ) (f g : ℕ → ℕ) → ((j : ℕ) → j < n → f j ≡ g j) → upto n f ≡ upto n g
upto_same zero f g h = refl
upto_same (suc n) f g h =
    let e : f n ≡ g n = h n (omega arith) in
    let r : upto n f ≡ upto n g = upto_same n f g (λ j lt. h j (omega arith)) in
    omega arith

pub upto_le : (n : ℕ) (f g : ℕ → ℕ) → ((j : ℕ) → j < n → f j ≤ g j) → upto n f ≤ upto n g
upto_le zero f g h = omega arith
upto_le (suc n) f g h =
    let e : f n ≤ g n = h n (omega arith) in
    let r : upto n f ≤ upto n g = upto_le n f g (λ j lt. h j (omega arith)) in
    omega arith

pub upto_add : (n : ℕ) (f g : ℕ → ℕ) → upto n (λ j. f j + g j) ≡ upto n f + upto n g
upto_add zero f g = refl
upto_add (suc n) f g = let h : upto n (λ j. f j + g j) ≡ upto n f
    + upto n g = upto_add n f g in omega arith

pub upto_scaled : (n : ℕ) (f : ℕ → ℕ) → upto n (λ j. scale * f j) ≡ scale * upto n f
upto_scaled zero f = refl
upto_scaled (suc n) f = let h : upto n (λ j. scale * f j)
    ≡ scale * upto n f = upto_scaled n f in omega arith

pub upto_none : (n : ℕ) → upto n (λ j. 0) ≡ 0
upto_none zero = refl
upto_none (suc n) = let h : upto n (λ j. 0) ≡ 0 = upto_none n in omega arith

-- at the multipliers m
worth_zero : (n : ℕ) (m : ℕ → ℕ) → upto n (λ j. m j * 0) ≡ 0
worth_zero zero m = refl
worth_zero (suc n) m = let h : upto n (λ j. m j * 0) ≡ 0 = worth_zero n m in omega arith

pub worth_add : (n : ℕ) (m f g : ℕ → ℕ)
    → upto n (λ j. m j * (f j + g j)) ≡ upto n (λ j. m j * f j) + upto n (λ j. m j * g j)
worth_add zero m f g = refl
worth_add (suc n) m f g =
    let h : upto n (λ j. m j * (f j + g j)) ≡ upto n (λ j. m j * f j) + upto n (λ j. m j * g j) =
    worth_add n m f g in
    let e : m n * (f n + g n) ≡ m n * f n + m n * g n = omega arith in
    omega arith

only_times : (m : ℕ → ℕ) (i v j : ℕ) → ¬ (i ≡ j) → m j * only i v j ≡ 0
only_times m i v j ne =
    let e : m j * only i v j ≡ m j * 0 = ap (λ x. m j * x) (only_other i v j ne) in
    omega arith

-- the sum over budgets meets one budget once
worth_past : (n : ℕ) (m : ℕ → ℕ) (i v : ℕ) → n ≤ i → upto n (λ j. m j * only i v j) ≡ 0
worth_past zero m i v le = refl
worth_past (suc n) m i v le =
    let o : m n * only i v n ≡ 0 =
    only_times m i v n (λ e. let g : i ≡ n = e in absurd (omega arith)) in
    let h : upto n (λ j. m j * only i v j) ≡ 0 = worth_past n m i v (omega arith) in
    omega arith

worth_only : (n : ℕ) (m : ℕ → ℕ) (i v : ℕ) → i < n → upto n (λ j. m j * only i v j) ≡ m i * v
worth_only zero m i v lt = absurd (omega arith)
worth_only (suc n) m i v lt = elim (cases_eq i n) [
  | inl e ↦ (let o : m n * only i v n ≡ m n * v = ap (λ x. m n * x) (rw e (only_same n v)) in
      let h : upto n (λ j. m j * only i v j) ≡ 0 = worth_past n m i v (omega arith) in
      let f : m i * v ≡ m n * v = ap (λ x. m x * v) e in
      omega arith)
  | inr ne ↦ (let o : m n * only i v n ≡ 0 = only_times m i v n ne in
      let h : upto n (λ j. m j * only i v j) ≡ m i * v = worth_only n m i v (omega arith) in
      omega arith)
]

-- over the budgets of one block
over_chain : (n : ℕ) (m : ℕ → ℕ) (v : ℕ) (c : List ℕ) → AllByRecursion (λ k. k < n) c
    → upto n (λ j. m j * total (λ i. only i v j) c) ≡ total m c * v
over_chain n m v [] h = let z : 0 ≡ 0 * v = omega arith in worth_zero n m ∙ z
over_chain n m v (i ∷ r) h =
    let s : upto n (λ j. m j * total (λ i. only i v j) (i ∷ r)) ≡
    upto n (λ j. m j * only i v j) + upto n (λ j. m j * total (λ i. only i v j) r) =
    worth_add n m (λ j. only i v j) (λ j. total (λ i. only i v j) r) in
    let a : upto n (λ j. m j * only i v j) ≡ m i * v = worth_only n m i v h.0 in
    let b : upto n (λ j. m j * total (λ i. only i v j) r)
    ≡ total m r * v = over_chain n m v r h.1 in
    omega arith

-- Bytes priced block by block, at the multipliers of each block's budgets together, are bytes
-- priced budget by budget.
pub exchange : (around : ℕ → List ℕ) → IsNested around → (n : ℕ) (node m x : ℕ → ℕ) (blocks : ℕ)
    → ((b : ℕ) → b < blocks → node b < n)
    → upto blocks (λ b. rate around m (node b) * x b)
    ≡ upto n (λ j. m j * body around node x blocks j)
exchange around nested n node m x zero inside = sym (worth_zero n m)
exchange around nested n node m x (suc b) inside =
    let one : ℕ → ℕ = λ j. total (λ i. only i (x b) j) (chain around (node b)) in
    let s : upto n (λ j. m j * (body around node x b j + one j)) ≡
    upto n (λ j. m j * body around node x b j) + upto n (λ j. m j * one j) =
    worth_add n m (λ j. body around node x b j) one in
    let a : upto n (λ j. m j * one j) ≡ total m (chain around (node b)) * x b =
    over_chain n m (x b) (chain around (node b))
    (chain_below around nested (node b) n (inside b (omega arith))) in
    let h : upto b (λ b. rate around m (node b) * x b)
    ≡ upto n (λ j. m j * body around node x b j) =
    exchange around nested n node m x b (λ k lt. inside k (omega arith)) in
    omega arith
