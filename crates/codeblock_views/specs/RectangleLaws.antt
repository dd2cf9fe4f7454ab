-- How many cells a rectangle has, and that they are small where those of the plane are.
use Rattle.std.proofs.Common.{◌≡◌, ℕ, ◌*◌, ◌/◌, ◌%◌, ◌^◌, ◌<◌, List, map, length, get_or, arith}
use Rattle.std.proofs.Common.{sym, subst, inl, inr}
use Rattle.std.specs.List.{All, range_with_len}
use Rattle.std.proofs.lemmas.Bool.{cases_lt}
use Rattle.std.proofs.lemmas.List.{get_or_past}
use Rattle.std.proofs.lemmas.List.Elements.{All-get_or, All-from_get_or}
use Rattle.std.proofs.lemmas.List.FromFn.{get_or-map-range_with_len, length-map-range_with_len}
use Rattle.band_geometry.specs.declared.places.Rect.{Rect}
use Rattle.dz_quantiser.specs.Coefficient.{Coefficient, zero_coefficient}
use Rattle.codeblock_views.specs.Magnitudes.{AreSmall}
use Rattle.codeblock_views.specs.Rectangles.{place_in, cells_in}

pub cells_in-length : {A : Type 0} (d : A) (width : ℕ) (r : Rect) (cells : List A) →
    length (cells_in d width r cells) ≡ r.height * r.width
unfolding cells_in
cells_in-length d width r cells =
    length-map-range_with_len (λ i. get_or cells (place_in width r (i % r.width) (i / r.width)) d) 0
    (r.height * r.width)

-- what is true of each cell of the plane and of d is true of each cell of the rectangle
get_or-meets : {A : Type 0} (P : A → Type 0) (d : A) (cells : List A) (k : ℕ) → P d → All P cells →
    P (get_or cells k d)
get_or-meets P d cells k other each = elim (cases_lt k (length cells)) [
  | inl lt ↦ All-get_or P cells k d lt each
  | inr le ↦ subst P (sym (get_or_past cells k d le)) other
]

pub cells_in-meet : {A : Type 0} (P : A → Type 0) (d : A) (width : ℕ) (r : Rect) (cells : List A) →
    P d → All P cells →
    All P (cells_in d width r cells)
unfolding cells_in
cells_in-meet {A = A} P d width r cells other each =
    let at : ℕ → A = λ i. get_or cells (place_in width r (i % r.width) (i / r.width)) d in
    All-from_get_or P (map at (range_with_len 0 (r.height * r.width))) d
    (λ i lt. subst P (sym (get_or-map-range_with_len at 0 (r.height * r.width) i i d
    (subst (λ n. i < n) (length-map-range_with_len at 0 (r.height * r.width)) lt) (omega arith)))
    (get_or-meets P d cells _ other each))

pub cells_in-small : (width : ℕ) (r : Rect) (cells : List Coefficient) → AreSmall cells →
    AreSmall (cells_in zero_coefficient width r cells)
cells_in-small width r cells small =
    cells_in-meet (λ q. q.magnitude < 2 ^ 20) zero_coefficient width r cells (omega arith) small
