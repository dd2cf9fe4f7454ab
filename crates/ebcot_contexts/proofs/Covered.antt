-- The scan visits each place of a block.
use Rattle.std.proofs.Common.{ℕ, zero, suc, ◌+◌, ◌*◌, ◌/◌, ◌%◌, ◌<◌, ◌≤◌, ◌≡◌, ◌⊎◌, inl, inr, Bool}
use Rattle.std.proofs.Common.{true, false, ltb, List, [], ◌∷◌, map, refl, sym, ap, ◌∙◌, arith}
use Rattle.std.proofs.Common.{subst}
use Rattle.std.proofs.lemmas.Bool.{cases_eq, lt-ltb, false≢true}
use Rattle.std.proofs.lemmas.Nat.{mul-add-lt, mod_below, div_below, div-mul-add, mod-mul-add}
use Rattle.std.proofs.lemmas.Nat.{div-add-mod'}
use Rattle.ebcot_contexts.specs.Passes.{column_from, column_at, counted, scan}

-- a place is one of a column's, and of one of the columns
abbrev pub In : ℕ → List ℕ → Type 0
In i [] = ⊥
In i (j ∷ js) = (i ≡ j) ⊎ In i js

abbrev pub Member : ℕ → List (List ℕ) → Type 0
Member i [] = ⊥
Member i (is ∷ rest) = In i is ⊎ Member i rest

in_if : (i k w h x y : ℕ) (t : Bool) → ltb y h ≡ t → y < h →
    (i ≡ y * w + x) ⊎ In i (column_from k w h x (suc y))
    → In i (elim t [ true ↦ (y * w + x) ∷ column_from k w h x (suc y) | false ↦ [] ])
in_if i k w h x y true e l m = m
in_if i k w h x y false e l m = absurd (false≢true (sym e ∙ lt-ltb y h l))

in_column : (k w h x y r i : ℕ) → r < k → y + r < h → i ≡ (y + r) * w + x →
    In i (column_from k w h x y)
in_column zero w h x y r i l m e = absurd (omega arith)
in_column (suc k) w h x y zero i l m e =
    let z : y + 0 ≡ y = omega arith in
    in_if i k w h x y (ltb y h) refl (omega arith) (inl (e ∙ ap (λ (v : ℕ). v * w + x) z))
in_column (suc k) w h x y (suc r) i l m e =
    let z : y + suc r ≡ suc y + r = omega arith in
    in_if i k w h x y (ltb y h) refl (omega arith)
    (inr (in_column k w h x (suc y) r i (omega arith) (omega arith)
    (e ∙ ap (λ (v : ℕ). v * w + x) z)))

member_counted : (m b c i : ℕ) (f : ℕ → List ℕ) → b ≤ c → c < b + m → In i (f c) →
    Member i (map f (counted m b))
member_counted zero b c i f l u h = absurd (omega arith)
member_counted (suc m) b c i f l u h =
    elim (cases_eq b c) [
      | inl e ↦ inl (subst (λ (v : ℕ). In i (f v)) (sym e) h)
      | inr e ↦ inr (member_counted m (suc b) c i f (omega arith) (omega arith) h)
    ]

pub covered : (w h i : ℕ) → i < w * h → Member i (scan w h)
unfolding scan
covered w h i l =
    elim (cases_eq w 0) [
      | inl e ↦ absurd (let z : 0 * h ≡ 0 = omega arith in let f : w * h ≡ 0 =
          ap (λ (v : ℕ). v * h) e ∙ z in omega arith)
      | inr e ↦
          let pos : 0 < w = omega arith in
          let x : ℕ = i % w in
          let y : ℕ = i / w in
          let xl : x < w = mod_below i w pos in
          let flipped : w * h ≡ h * w = omega arith in
          let yl : y < h = div_below i w h pos (subst (λ (v : ℕ). i < v) flipped l) in
          let c : ℕ = y / 4 * w + x in
          let cm : c % w ≡ x = mod-mul-add (y / 4) w x xl in
          let cd : c / w ≡ y / 4 = div-mul-add (y / 4) w x xl in
          let below : y / 4 < (h + 3) / 4 = omega arith in
          let cl : c < w * ((h + 3) / 4) = mul-add-lt (y / 4) w x ((h + 3) / 4) below xl in
          let here : i ≡ (4 * (y / 4) + y % 4) * w + x =
          sym (div-add-mod' i w) ∙ ap (λ (v : ℕ). v * w + x)
          (let q : y ≡ 4 * (y / 4) + y % 4 = omega arith in q) in
          let at : In i (column_from 4 w h x (4 * (y / 4))) =
          in_column 4 w h x (4 * (y / 4)) (y % 4) i (omega arith) (omega arith) here in
          member_counted (w * ((h + 3) / 4)) 0 c i (column_at w h) (omega arith) (omega arith)
          (subst (λ (v : ℕ). In i (column_from 4 w h v (4 * (c / w)))) (sym cm)
          (subst (λ (v : ℕ). In i (column_from 4 w h x (4 * v))) (sym cd) at))
    ]
