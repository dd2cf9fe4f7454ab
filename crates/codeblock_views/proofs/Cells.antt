-- Where the cells of a rectangle stand in the plane.
use Rattle.std.proofs.Common.{◌≡◌, ℕ, ◌+◌, ◌*◌, ◌/◌, ◌%◌, ◌<◌, ◌≤◌, ◌≢◌, zero, suc, List, length}
use Rattle.std.proofs.Common.{get_or, set, take, drop, refl, arith, ap, sym, subst, ◌∙◌, inl, inr}
use Rattle.std.proofs.Math.Nat.{div-add-mod, div-lt_iff_lt-mul, mod-lt, mul-le-mul}
use Rattle.std.proofs.lemmas.List.{ext_get_or, get_or_default, get_or-drop, get_or-set_same}
use Rattle.std.proofs.lemmas.List.{get_or-set_other, get_or-take, length-set}
use Rattle.std.proofs.lemmas.Bool.{cases_eq}
use Rattle.std.proofs.lemmas.Nat.{div-mul-add, mod-mul-add}
use Rattle.std.proofs.lemmas.List.FromFn.{get_or-map-range_with_len}
use Rattle.band_geometry.specs.declared.places.Rect.{Rect}
use Rattle.codeblock_views.specs.RectangleLaws.{cells_in-length}
use Rattle.codeblock_views.specs.Rectangles.{place_in, cells_in, IsBlockIn}

-- row y of a list of rows of this width ends within the list
pub row_within : (y rows width : ℕ) → y < rows → (y + 1) * width ≤ rows * width
row_within y rows width lt =
    let more : y + 1 ≤ rows = omega (arith, lt) in
    let same : width ≤ width = omega arith in
    mul-le-mul more same

-- a place of the rectangle is one of the plane
pub place-within : (width height : ℕ) (r : Rect) (x y : ℕ) → IsBlockIn width height r →
    x < r.width → y < r.height →
    place_in width r x y < height * width
place-within width height r x y block column row =
    let inside : (r.y + y + 1) * width ≤ height * width =
    row_within (r.y + y) height width (omega (arith, block.bottom)) in
    omega (arith, inside, block.right)

pub cells_in-at : {A : Type 0} (d e : A) (width : ℕ) (r : Rect) (cells : List A) (x y : ℕ) →
    x < r.width → y < r.height →
    get_or (cells_in d width r cells) (y * r.width + x) e ≡ get_or cells (place_in width r x y) d
unfolding cells_in
cells_in-at d e width r cells x y column row =
    let inside = row_within y r.height r.width row in
    let across : (y * r.width + x) % r.width ≡ x = mod-mul-add y r.width x column in
    let down : (y * r.width + x) / r.width ≡ y = div-mul-add y r.width x column in
    get_or-map-range_with_len (λ i. get_or cells (place_in width r (i % r.width) (i / r.width)) d) 0
    (r.height * r.width)
    (y * r.width + x) (y * r.width + x) e (omega (arith, inside, column)) (omega arith)
    ∙ rw (across, down) refl

-- what the code reads at a place of the plane is the cell of the rectangle
pub cell_read : {A : Type 0} (d : A) (width height : ℕ) (r : Rect) (cells : List A) (x y : ℕ)
    (v : A) →
    IsBlockIn width height r → length cells ≡ height * width → x < r.width → y < r.height →
    v ≡ get_or cells (place_in width r x y) v →
    v ≡ get_or (cells_in d width r cells) (y * r.width + x) d
cell_read d width height r cells x y v block whole column row is =
    let within : place_in width r x y < length cells =
    omega (arith, whole, place-within width height r x y block column row) in
    is
    ∙ get_or_default cells (place_in width r x y) v d within
    ∙ sym (cells_in-at d d width r cells x y column row)

-- so is what it reads in a row
pub row_read : {A : Type 0} (d : A) (width height : ℕ) (r : Rect) (cells line : List A) (x y : ℕ)
    (v : A) →
    IsBlockIn width height r → length cells ≡ height * width → x < r.width → y < r.height →
    line ≡ take r.width (drop (place_in width r 0 y) cells) →
    v ≡ get_or line x v → v ≡ get_or (cells_in d width r cells) (y * r.width + x) d
row_read d width height r cells line x y v block whole column row line_is is =
    let start : ℕ = place_in width r 0 y in
    let place : start + x ≡ place_in width r x y = omega arith in
    cell_read d width height r cells x y v block whole column row
    (is
    ∙ ap (λ l. get_or l x v) line_is
    ∙ get_or-take r.width (drop start cells) x v column
    ∙ get_or-drop start cells x v
    ∙ ap (λ n. get_or cells n v) place)

-- place k of a list of rows of this width is in its column and row
pub record IsPlace (width height k : ℕ) : Type 0 where
  pub column : k % width < width
  pub row : k / width < height
  pub is : k / width * width + k % width ≡ k

pub place_of : (width height k : ℕ) → k < height * width → IsPlace width height k
place_of zero height k lt = absurd (omega (arith, lt))
place_of (suc w) height k lt =
    let step : 0 < suc w = omega arith in
    record {
      column = mod-lt k step;
      row = (div-lt_iff_lt-mul {k = suc w} {x = k} {y = height} step).1 lt;
      is = omega (arith, div-add-mod k (suc w));
    }

-- two places of a rectangle that stand at the same place of the plane are one
pub place-column : (width : ℕ) (r : Rect) (x y x' y' : ℕ) → r.x + x < width → r.x + x' < width →
    place_in width r x y ≡ place_in width r x' y' → x ≡ x'
place-column width r x y x' y' across across' same =
    let here : place_in width r x y % width ≡ r.x + x =
    mod-mul-add (r.y + y) width (r.x + x) across in
    let there : place_in width r x' y' % width ≡ r.x + x' =
    mod-mul-add (r.y + y') width (r.x + x') across' in
    let both : r.x + x ≡ r.x + x' = sym here ∙ ap (λ n. n % width) same ∙ there in
    omega (arith, both)

pub place-row : (width : ℕ) (r : Rect) (x y x' y' : ℕ) → r.x + x < width → r.x + x' < width →
    place_in width r x y ≡ place_in width r x' y' → y ≡ y'
place-row width r x y x' y' across across' same =
    let here : place_in width r x y / width ≡ r.y + y =
    div-mul-add (r.y + y) width (r.x + x) across in
    let there : place_in width r x' y' / width ≡ r.y + y' =
    div-mul-add (r.y + y') width (r.x + x') across' in
    let both : r.y + y ≡ r.y + y' = sym here ∙ ap (λ n. n / width) same ∙ there in
    omega (arith, both)

-- a cell of the rectangle that is set
pub cells_in-set : {A : Type 0} (d : A) (width height : ℕ) (r : Rect) (cells : List A) (x y : ℕ)
    (cell : A) →
    IsBlockIn width height r → length cells ≡ height * width → x < r.width → y < r.height →
    cells_in d width r (set cells (place_in width r x y) cell)
    ≡ set (cells_in d width r cells) (y * r.width + x) cell
cells_in-set {A = A} d width height r cells x y cell block whole column row =
    let here : ℕ = place_in width r x y in
    let inside = row_within y r.height r.width row in
    let within : here < length cells =
    omega (arith, whole, place-within width height r x y block column row) in
    let count : length (cells_in d width r cells) ≡ r.height * r.width =
    cells_in-length d width r cells in
    let new : List A = cells_in d width r (set cells here cell) in
    let old : List A = set (cells_in d width r cells) (y * r.width + x) cell in
    let new_count : length new ≡ r.height * r.width =
    cells_in-length d width r (set cells here cell) in
    let old_count : length old ≡ r.height * r.width =
    length-set (cells_in d width r cells) (y * r.width + x) cell ∙ count in
    ext_get_or d new old (new_count ∙ sym old_count)
    (λ k lt.
    let at = place_of r.width r.height k (subst (λ n. k < n) new_count lt) in
    let x' : ℕ = k % r.width in
    let y' : ℕ = k / r.width in
    let across : r.x + x < width = omega (arith, block.right, column) in
    let across' : r.x + x' < width = omega (arith, block.right, at.column) in
    ap (λ n. get_or new n d) (sym at.is)
    ∙ cells_in-at d d width r (set cells here cell) x' y' at.column at.row
    ∙ elim (cases_eq k (y * r.width + x)) [
      | inl same ↦
          let column_is : x' ≡ x = ap (λ n. n % r.width) same ∙ mod-mul-add y r.width x column in
          let row_is : y' ≡ y = ap (λ n. n / r.width) same ∙ div-mul-add y r.width x column in
          ap (λ n. get_or (set cells here cell) (place_in width r n y') d) column_is
          ∙ ap (λ n. get_or (set cells here cell) (place_in width r x n) d) row_is
          ∙ get_or-set_same cells here cell d within
          ∙ sym (get_or-set_same (cells_in d width r cells) (y * r.width + x) cell d
          (omega (arith, count, inside, column)))
          ∙ ap (λ n. get_or old n d) (sym same)
      | inr other ↦
          let apart : place_in width r x' y' ≢ here = λ same.
          let column_is = place-column width r x' y' x y across' across same in
          let row_is = place-row width r x' y' x y across' across same in
          other (sym at.is ∙ ap (λ n. y' * r.width + n) column_is
          ∙ ap (λ n. n * r.width + x) row_is) in
          get_or-set_other cells here (place_in width r x' y') cell d apart
          ∙ sym (cells_in-at d d width r cells x' y' at.column at.row)
          ∙ ap (λ n. get_or (cells_in d width r cells) n d) at.is
          ∙ sym (get_or-set_other (cells_in d width r cells) (y * r.width + x) k cell d other)
    ])
