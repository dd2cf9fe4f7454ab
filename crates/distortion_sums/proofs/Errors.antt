-- The error of one index before and after a bit is known.
use Rattle.std.proofs.Common.{ℕ, zero, suc, ◌+◌, ◌-◌, ◌*◌, ◌/◌, ◌%◌, ◌^◌, ◌<◌, ◌≤◌, ◌≡◌, ◌⊎◌, inl}
use Rattle.std.proofs.Common.{inr, Bool, true, false, eqb, refl, sym, ap, ◌∙◌, arith, subst}
use Rattle.std.specs.Prelude.{if◌then◌else◌}
use Rattle.std.proofs.lemmas.Bool.{cases_lt, eqb-true, eqb-false}
use Rattle.std.proofs.lemmas.Nat.{shr-shr, pow_pos, mod_below, div-add-mod'}
use Rattle.dz_quantiser.specs.Error.{middle, distance, square, squared_error}
use Rattle.ebcot_contexts.specs.Cells.{bit_of}
use Rattle.distortion_sums.specs.Places.{offset}

halves : (m p : ℕ) → m / 2 ^ suc p ≡ m / 2 ^ p / 2
halves m p = let e : suc p ≡ p + 1 = omega arith in ap (λ (n : ℕ). m / 2 ^ n) e
    ∙ sym (shr-shr m p 1)

middle_some : (n u : ℕ) → 0 < n → middle n u ≡ (2 * n + 1) * 2 ^ u
middle_some zero u l = absurd (omega arith)
middle_some (suc n) u l = refl

pub middle_whole : (m : ℕ) → 0 < m → middle m 0 ≡ 2 * m + 1
middle_whole m l = middle_some m 0 l ∙ (let e : (2 * m + 1) * 1 ≡ 2 * m + 1 = omega arith in e)

square_sum : (d b : ℕ) → d * d + 2 * ((d + b) * b) ≡ (d + b) * (d + b) + b * b
square_sum d b = omega arith

square_sum' : (d a : ℕ) → d * d + 2 * (a * (d + a)) ≡ a * a + (d + a) * (d + a)
square_sum' d a = omega arith

-- the square of a difference
pub squares : (a b : ℕ) → square (distance a b) + 2 * (a * b) ≡ a * a + b * b
squares a b = elim (cases_lt a b) [
  | inl l ↦
      let d : ℕ = b - a in
      let e : distance a b ≡ d = omega arith in
      let f : b ≡ d + a = omega arith in
      subst (λ (x : ℕ). square x + 2 * (a * b) ≡ a * a + b * b) (sym e)
      (subst (λ (x : ℕ). d * d + 2 * (a * x) ≡ a * a + x * x) (sym f) (square_sum' d a))
  | inr l ↦
      let d : ℕ = a - b in
      let e : distance a b ≡ d = omega arith in
      let f : a ≡ d + b = omega arith in
      subst (λ (x : ℕ). square x + 2 * (a * b) ≡ a * a + b * b) (sym e)
      (subst (λ (x : ℕ). d * d + 2 * (x * b) ≡ x * x + b * b) (sym f) (square_sum d b))
]

-- while nothing but zeros is known, the whole index is the error
pub unknown_error : (m u : ℕ) → m / 2 ^ u ≡ 0 → squared_error m u ≡ middle m 0 * middle m 0
unknown_error m u z =
    ap (λ (n : ℕ). square (distance (middle m 0) (middle n u))) z
    ∙ ap square (let e : distance (middle m 0) 0 ≡ middle m 0 = omega arith in e)

-- a bit of 0 of an index of which nothing else is known changes nothing
pub zero_error : (m p : ℕ) → m / 2 ^ suc p ≡ 0 → bit_of m p ≡ false →
    squared_error m p ≡ squared_error m (suc p)
zero_error m p z b =
    let h : m / 2 ^ p / 2 ≡ 0 = sym (halves m p) ∙ z in
    let o : m / 2 ^ p % 2 ≡ 1 → ⊥ = eqb-false _ _ b in
    let n : m / 2 ^ p ≡ 0 = omega arith in
    unknown_error m p n ∙ sym (unknown_error m (suc p) z)

new_sum : (v t e m : ℕ) → e + 2 * (v * t) ≡ v * v + t * t → v ≡ 2 * m + 1 →
    v * v + t * t ≡ e + t * (4 * m + 2)
new_sum v t e m h f = sym h ∙ ap (λ (x : ℕ). e + 2 * (x * t)) f
    ∙ (let g : e + 2 * ((2 * m + 1) * t) ≡ e + t * (4 * m + 2) = omega arith in g)

-- an index that becomes significant in plane p
pub new_error : (m p : ℕ) → m / 2 ^ suc p ≡ 0 → bit_of m p ≡ true
    → squared_error m (suc p) + 3 * 2 ^ p * (3 * 2 ^ p)
    ≡ squared_error m p + 3 * 2 ^ p * (4 * m + 2)
new_error m p z b =
    let h : m / 2 ^ p / 2 ≡ 0 = sym (halves m p) ∙ z in
    let o : m / 2 ^ p % 2 ≡ 1 = eqb-true _ _ b in
    let one : m / 2 ^ p ≡ 1 = omega arith in
    let some : 0 < m = some_of m p one in
    let t : ℕ = 3 * 2 ^ p in
    ap (λ (x : ℕ). x + t * t) (unknown_error m (suc p) z)
    ∙ new_sum (middle m 0) t (squared_error m p) m
    (ap (λ (n : ℕ). square (distance (middle m 0) (middle n p)) + 2 * (middle m 0 * t)) one
    ∙ squares (middle m 0) t)
    (middle_whole m some)
  where
    some_of : (m p : ℕ) → m / 2 ^ p ≡ 1 → 0 < m
    some_of zero p e = absurd (let z : 0 / 2 ^ p ≡ 0 = omega arith in omega arith)
    some_of (suc m) p e = omega arith

up : (a b e : ℕ) → a ≡ b + e → distance a b ≡ e
up a b e f = omega arith

down : (a b e : ℕ) → b ≡ a + e → distance a b ≡ e
down a b e f = omega arith

-- both errors by how far the index is from the middle before its bit was known
refined_by : (v r r' t e : ℕ) → ((v ≡ r + e) × (r' ≡ r + t)) ⊎ ((r ≡ v + e) × (r ≡ r' + t))
    → square (distance v r) + t * t ≡ square (distance v r') + 2 * (t * e)
refined_by v r r' t e (inl h) =
    let d : distance v r ≡ e = up v r e h.0 in
    let f : distance v r' ≡ distance e t = let a : v ≡ r + e = h.0 in let b : r' ≡ r + t =
    h.1 in omega arith in
    ap (λ (x : ℕ). square x + t * t) d ∙ sym (squares e t)
    ∙ ap (λ (x : ℕ). square x + 2 * (e * t)) (sym f)
    ∙ (let g : square (distance v r') + 2 * (e * t) ≡ square (distance v r') + 2 * (t * e) =
    ap (λ (x : ℕ). square (distance v r') + 2 * x)
    (let c : e * t ≡ t * e = omega arith in c) in g)
refined_by v r r' t e (inr h) =
    let d : distance v r ≡ e = down v r e h.0 in
    let f : distance v r' ≡ distance e t = let a : r ≡ v + e = h.0 in let b : r ≡ r' + t =
    h.1 in omega arith in
    ap (λ (x : ℕ). square x + t * t) d ∙ sym (squares e t)
    ∙ ap (λ (x : ℕ). square x + 2 * (e * t)) (sym f)
    ∙ (let g : square (distance v r') + 2 * (e * t) ≡ square (distance v r') + 2 * (t * e) =
    ap (λ (x : ℕ). square (distance v r') + 2 * x)
    (let c : e * t ≡ t * e = omega arith in c) in g)

-- where v, r and r' lie, by the quotient n, the bit and the rest y
one_place : (m n y t : ℕ) → m ≡ (2 * n + 1) * t + y →
    (2 * m + 1 ≡ (2 * n + 1) * (2 * t) + (2 * y + 1)) ×
    ((2 * (2 * n + 1) + 1) * t ≡ (2 * n + 1) * (2 * t) + t)
one_place m n y t e = (omega arith, omega arith)

zero_place : (m n y t : ℕ) → y < t → m ≡ 2 * n * t + y →
    ((2 * n + 1) * (2 * t) ≡ 2 * m + 1 + (2 * (t - 1 - y) + 1)) ×
    ((2 * n + 1) * (2 * t) ≡ (2 * (2 * n) + 1) * t + t)
zero_place m n y t l e = (omega arith, omega arith)

-- an index that is refined in plane p
pub refined_error : (m p : ℕ) → 0 < m / 2 ^ suc p
    → squared_error m (suc p) + 2 ^ p * 2 ^ p
    ≡ squared_error m p + 2 * (2 ^ p * (2 * offset p m + 1))
refined_error m p some = by (bit_of m p) refl
  where
    twice : (p : ℕ) → 2 ^ suc p ≡ 2 * 2 ^ p
    twice p = omega arith

    pos : (m u : ℕ) → 0 < m / 2 ^ u → 0 < m
    pos zero u l = absurd (let z : 0 / 2 ^ u ≡ 0 = omega arith in omega arith)
    pos (suc m) u l = omega arith

    by : (b : Bool) → bit_of m p ≡ b →
        squared_error m (suc p) + 2 ^ p * 2 ^ p
        ≡ squared_error m p + 2 * (2 ^ p *
        (2 * (if b then m % 2 ^ p else 2 ^ p - 1 - m % 2 ^ p) + 1))
    by true e =
        let n : ℕ = m / 2 ^ suc p in
        let q : ℕ = m / 2 ^ p in
        let y : ℕ = m % 2 ^ p in
        let h : n ≡ q / 2 = halves m p in
        let o : q % 2 ≡ 1 = eqb-true _ _ e in
        let eq : q ≡ 2 * n + 1 = omega arith in
        let whole : m ≡ (2 * n + 1) * 2 ^ p + y = sym (div-add-mod' m (2 ^ p))
        ∙ ap (λ (x : ℕ). x * 2 ^ p + y) eq in
        let place = one_place m n y (2 ^ p) whole in
        let v : middle m 0 ≡ 2 * m + 1 = middle_whole m (pos m (suc p) some) in
        let r : middle n (suc p) ≡ (2 * n + 1) * (2 * 2 ^ p) = middle_some n (suc p) some
        ∙ ap (λ (x : ℕ). (2 * n + 1) * x) (twice p) in
        let r' : middle q p ≡ (2 * (2 * n + 1) + 1) * 2 ^ p = middle_some q p (omega arith)
        ∙ ap (λ (x : ℕ). (2 * x + 1) * 2 ^ p) eq in
        refined_by (middle m 0) (middle n (suc p)) (middle q p) (2 ^ p) (2 * y + 1)
        (inl (
          v ∙ place.0 ∙ ap (λ (x : ℕ). x + (2 * y + 1)) (sym r),
          r' ∙ place.1
              ∙ ap (λ (x : ℕ). x + 2 ^ p) (sym r),
        ))
    by false e =
        let n : ℕ = m / 2 ^ suc p in
        let q : ℕ = m / 2 ^ p in
        let y : ℕ = m % 2 ^ p in
        let h : n ≡ q / 2 = halves m p in
        let o : q % 2 ≡ 1 → ⊥ = eqb-false _ _ e in
        let eq : q ≡ 2 * n = omega arith in
        let whole : m ≡ 2 * n * 2 ^ p + y = sym (div-add-mod' m (2 ^ p))
        ∙ ap (λ (x : ℕ). x * 2 ^ p + y) eq in
        let place = zero_place m n y (2 ^ p) (mod_below m (2 ^ p) (pow_pos p)) whole in
        let v : middle m 0 ≡ 2 * m + 1 = middle_whole m (pos m (suc p) some) in
        let r : middle n (suc p) ≡ (2 * n + 1) * (2 * 2 ^ p) = middle_some n (suc p) some
        ∙ ap (λ (x : ℕ). (2 * n + 1) * x) (twice p) in
        let r' : middle q p ≡ (2 * (2 * n) + 1) * 2 ^ p = middle_some q p (omega arith)
        ∙ ap (λ (x : ℕ). (2 * x + 1) * 2 ^ p) eq in
        refined_by (middle m 0) (middle n (suc p)) (middle q p) (2 ^ p) (2 * (2 ^ p - 1 - y) + 1)
        (inr (
          r ∙ place.0 ∙ ap (λ (x : ℕ). x + (2 * (2 ^ p - 1 - y) + 1)) (sym v),
          r ∙ place.1
              ∙ ap (λ (x : ℕ). x + 2 ^ p) (sym r'),
        ))
