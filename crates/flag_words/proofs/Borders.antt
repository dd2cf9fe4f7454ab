-- A block with its border, before and after one of its cells changes.
use Rattle.std.proofs.Common.{ℕ, zero, suc, ◌+◌, ◌*◌, ◌/◌, ◌%◌, ◌<◌, ◌≡◌, Bool, true, false, ltb}
use Rattle.std.proofs.Common.{List, length, set, refl, sym, ap, ◌∙◌, subst}
use Rattle.std.specs.Prelude.{if◌then◌else◌}
use Rattle.std.proofs.lemmas.Bool.{lt-ltb, ltb-true}
use Rattle.std.proofs.lemmas.Nat.{mod_below, div-mul-add, mod-mul-add, div-add-mod'}
use Rattle.std.proofs.lemmas.List.{get_or-set_same, get_or-set_other}
use Rattle.ebcot_contexts.specs.Cells.{Cell, fresh, cell_at}
use Rattle.ebcot_contexts.specs.Contexts.{bordered}

if_true : (t : Bool) (x y : Cell) → t ≡ true → (if t then x else y) ≡ x
if_true true x y e = refl
if_true false x y e = cc

-- the cell of a place
pub bordered_at : (w : ℕ) (cells : List Cell) (i bx by : ℕ) → 0 < w → bx ≡ suc (i % w) →
    by ≡ suc (i / w)
    → bordered w cells bx by ≡ cell_at cells i
bordered_at w cells i bx by some ex ey =
    subst (λ (x : ℕ). bordered w cells x by ≡ cell_at cells i) (sym ex)
    (subst (λ (y : ℕ). bordered w cells (suc (i % w)) y ≡ cell_at cells i) (sym ey)
    (if_true (ltb (i % w) w) (cell_at cells (i / w * w + i % w)) (fresh 0)
    (lt-ltb (i % w) w (mod_below i w some))
    ∙ ap (λ (n : ℕ). cell_at cells n) (div-add-mod' i w)))

pub bordered_same : (w : ℕ) (cells : List Cell) (i : ℕ) (d : Cell) (bx by : ℕ) → 0 < w →
    i < length cells
    → bx ≡ suc (i % w) → by ≡ suc (i / w) → bordered w (set cells i d) bx by ≡ d
bordered_same w cells i d bx by some l ex ey =
    bordered_at w (set cells i d) i bx by some ex ey ∙ get_or-set_same cells i d (fresh 0) l

other_if : (w : ℕ) (cells : List Cell) (i : ℕ) (d : Cell) (x y : ℕ) (t : Bool) → ltb x w ≡ t →
    (x ≡ i % w → y ≡ i / w → ⊥)
    → (if t then cell_at (set cells i d) (y * w + x) else fresh 0)
    ≡ (if t then cell_at cells (y * w + x) else fresh 0)
other_if w cells i d x y false e apart = refl
other_if w cells i d x y true e apart =
    let l : x < w = ltb-true x w e in
    get_or-set_other cells i (y * w + x) d (fresh 0) (λ same.
    apart (sym (mod-mul-add y w x l) ∙ ap (λ (n : ℕ). n % w) same)
    (sym (div-mul-add y w x l) ∙ ap (λ (n : ℕ). n / w) same))

pub bordered_other : (w : ℕ) (cells : List Cell) (i : ℕ) (d : Cell) (bx by : ℕ)
    → (bx ≡ suc (i % w) → by ≡ suc (i / w) → ⊥) →
    bordered w (set cells i d) bx by ≡ bordered w cells bx by
bordered_other w cells i d zero by apart = refl
bordered_other w cells i d (suc x) zero apart = refl
bordered_other w cells i d (suc x) (suc y) apart =
    other_if w cells i d x y (ltb x w) refl (λ ex ey. apart (ap suc ex) (ap suc ey))
