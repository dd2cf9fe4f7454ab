-- A plane in raster order, cell by cell, and the transforms of its columns and rows.
use Rattle.std.proofs.Common.{◌≡◌, ℕ, ◌+◌, ◌*◌, ◌/◌, ◌%◌, ◌<◌, ◌≤◌, ℤ, pos, List, length, arith}
use Rattle.std.proofs.Common.{refl, sym, ◌∙◌, ap, cond, nat_lt, ◌&&◌, inl, inr, zero-add}
use Rattle.std.proofs.lemmas.List.FromFn.{fill_by_all, get_or-map-range_with_len}
use Rattle.std.proofs.lemmas.List.FromFn.{length-map-range_with_len}
use Rattle.std.proofs.lemmas.Bool.{cases_lt, lt-ltb, le-ltb}
use Rattle.std.proofs.lemmas.Nat.{div-mul-add, mod-mul-add, div-add-mod', mod_below, row_fits}
use Rattle.lift97_fixed.specs.Line.{at}
use Rattle.lift97_fixed.specs.Plane.{cell, column, row, each_place, columns, rows}

pub filled : (width : ℕ) (cells out : List ℤ) (f : ℕ → ℕ → ℤ) → 0 < width →
    length out ≡ length cells →
    ((x y : ℕ) → x < width → y * width + x < length cells → cell width out x y ≡ f x y) →
    out ≡ each_place width cells f
filled width cells out f w e h =
    fill_by_all (λ i. f (i % width) (i / width)) out (length cells) (pos 0) e (λ i lt.
    let apart : i / width * width + i % width ≡ i = div-add-mod' i width in
    ap (at out) (sym apart) ∙ h (i % width) (i / width) (mod_below i width w) (rw apart lt))

pub cell-each_place : (width : ℕ) (cells : List ℤ) (f : ℕ → ℕ → ℤ) (x y : ℕ) → x < width →
    y * width + x < length cells →
    cell width (each_place width cells f) x y ≡ f x y
cell-each_place width cells f x y h inside =
    get_or-map-range_with_len (λ i. f (i % width) (i / width)) 0 (length cells) (y * width + x)
    (y * width + x) (pos 0) inside (zero-add (y * width + x))
    ∙ rw (div-mul-add y width x h, mod-mul-add y width x h) refl

-- a cell of the rectangle lies in the plane
pub in_plane : (width w h n x y : ℕ) → w ≤ width → h * width ≤ n → x < w → y < h → y * width + x < n
in_plane width w h n x y le fits hx hy = omega (arith, row_fits y width h width hy (omega arith))

pub length-column : (width h : ℕ) (cells : List ℤ) (x : ℕ) → length (column width h cells x) ≡ h
length-column width h cells x = length-map-range_with_len (λ y. cell width cells x y) 0 h

pub at-column : (width h : ℕ) (cells : List ℤ) (x y : ℕ) → y < h →
    at (column width h cells x) y ≡ cell width cells x y
at-column width h cells x y lt =
    get_or-map-range_with_len (λ i. cell width cells x i) 0 h y y (pos 0) lt (zero-add y)

-- ---- the columns

columns-inside : (t : List ℤ → List ℤ) (width w h : ℕ) (cells : List ℤ) (x y : ℕ) → w ≤ width →
    h * width ≤ length cells → x < w → y < h →
    cell width (columns t width w h cells) x y ≡ at (t (column width h cells x)) y
unfolding columns
columns-inside t width w h cells x y le fits hx hy =
    cell-each_place width cells (λ (a b : ℕ). cond (nat_lt a w && nat_lt b h)
    (at (t (column width h cells a)) b) (cell width cells a b)) x y (omega arith)
    (in_plane width w h (length cells) x y le fits hx hy)
    ∙ rw (lt-ltb x w hx, lt-ltb y h hy) refl

outside : (w h x y : ℕ) (a b : ℤ) → (x < w → h ≤ y) → cond (nat_lt x w && nat_lt y h) a b ≡ b
outside w h x y a b out =
    elim (cases_lt x w) [
      | inl lt ↦ rw (lt-ltb x w lt, le-ltb y h (out lt)) refl
      | inr ge ↦ rw (le-ltb x w ge) refl
    ]

columns-outside : (t : List ℤ → List ℤ) (width w h : ℕ) (cells : List ℤ) (x y : ℕ) → x < width →
    y * width + x < length cells → (x < w → h ≤ y) →
    cell width (columns t width w h cells) x y ≡ cell width cells x y
unfolding columns
columns-outside t width w h cells x y hx inside out =
    cell-each_place width cells (λ (a b : ℕ). cond (nat_lt a w && nat_lt b h)
    (at (t (column width h cells a)) b) (cell width cells a b)) x y hx inside
    ∙ outside w h x y (at (t (column width h cells x)) y) (cell width cells x y) out

-- what shows that the columns of a plane were transformed
pub columns_from : (t : List ℤ → List ℤ) (width w h : ℕ) (cells out : List ℤ) → 0 < width →
    length out ≡ length cells →
    ((x y : ℕ) → x < w → y < h → cell width out x y ≡ at (t (column width h cells x)) y) →
    ((x y : ℕ) → x < width → y * width + x < length cells → (x < w → h ≤ y) →
    cell width out x y ≡ cell width cells x y) →
    out ≡ columns t width w h cells
unfolding columns
columns_from t width w h cells out some e inside beyond =
    filled width cells out (λ (a b : ℕ). cond (nat_lt a w && nat_lt b h)
    (at (t (column width h cells a)) b) (cell width cells a b)) some e (λ x y hx fits.
    elim (cases_lt x w) [
      | inl lt ↦ elim (cases_lt y h) [
        | inl below ↦ inside x y lt below ∙ sym (rw (lt-ltb x w lt, lt-ltb y h below) refl)
        | inr above ↦ beyond x y hx fits (λ q. above) ∙ sym (outside w h x y _ _ (λ q. above))
      ]
      | inr ge ↦ beyond x y hx fits (λ q. absurd (omega arith))
          ∙ sym (outside w h x y _ _ (λ q. absurd (omega arith)))
    ])

pub length-columns : (t : List ℤ → List ℤ) (width w h : ℕ) (cells : List ℤ) →
    length (columns t width w h cells) ≡ length cells
unfolding columns
length-columns t width w h cells = length-map-range_with_len _ 0 (length cells)

column-columns : (t : List ℤ → List ℤ) (width w h : ℕ) (cells : List ℤ) (x : ℕ) → w ≤ width →
    h * width ≤ length cells → x < w →
    length (t (column width h cells x)) ≡ h →
    column width h (columns t width w h cells) x ≡ t (column width h cells x)
column-columns t width w h cells x le fits hx e =
    sym (fill_by_all (λ y. cell width (columns t width w h cells) x y)
    (t (column width h cells x)) h (pos 0) e
    (λ y lt. sym (columns-inside t width w h cells x y le fits hx lt)))

-- two transforms of the columns, one after the other
pub columns-columns : (s t : List ℤ → List ℤ) (width w h : ℕ) (cells : List ℤ) → 0 < width →
    w ≤ width → h * width ≤ length cells →
    ((xs : List ℤ) → length (t xs) ≡ length xs) →
    columns s width w h (columns t width w h cells) ≡ columns (λ xs. s (t xs)) width w h cells
columns-columns s t width w h cells some le fits keeps =
    let fits' : h * width ≤ length (columns t width w h cells) =
    rw (length-columns t width w h cells) fits in
    columns_from (λ xs. s (t xs)) width w h cells
    (columns s width w h (columns t width w h cells)) some
    (length-columns s width w h (columns t width w h cells) ∙ length-columns t width w h cells)
    (λ x y hx hy. columns-inside s width w h (columns t width w h cells) x y le fits' hx hy
    ∙ ap (λ (xs : List ℤ). at (s xs) y)
    (column-columns t width w h cells x le fits hx
    (keeps (column width h cells x) ∙ length-column width h cells x)))
    (λ x y hx inside out. columns-outside s width w h (columns t width w h cells) x y hx
    (rw (length-columns t width w h cells) inside) out
    ∙ columns-outside t width w h cells x y hx inside out)

-- one transform of the columns after another
pub columns_after : (s t : List ℤ → List ℤ) (width w h : ℕ) (first second third : List ℤ) →
    0 < width → w ≤ width → h * width ≤ length first →
    ((xs : List ℤ) → length (t xs) ≡ length xs) → second ≡ columns t width w h first →
    third ≡ columns s width w h second →
    third ≡ columns (λ xs. s (t xs)) width w h first
columns_after s t width w h first second third some le fits keeps e f =
    f ∙ (ap (columns s width w h) e ∙ columns-columns s t width w h first some le fits keeps)

-- two transforms that agree on every column
pub columns_same : (s t : List ℤ → List ℤ) (width w h : ℕ) (cells : List ℤ) → 0 < width →
    w ≤ width → h * width ≤ length cells →
    ((xs : List ℤ) → length xs ≡ h → s xs ≡ t xs) →
    columns s width w h cells ≡ columns t width w h cells
columns_same s t width w h cells some le fits same =
    columns_from t width w h cells (columns s width w h cells) some
    (length-columns s width w h cells)
    (λ x y hx hy. columns-inside s width w h cells x y le fits hx hy
    ∙ ap (λ (xs : List ℤ). at xs y) (same (column width h cells x) (length-column width h cells x)))
    (λ x y hx inside out. columns-outside s width w h cells x y hx inside out)

-- a transform that changes no column
pub columns_unchanged : (t : List ℤ → List ℤ) (width w h : ℕ) (cells : List ℤ) → 0 < width →
    ((xs : List ℤ) → length xs ≡ h → xs ≡ t xs) → cells ≡ columns t width w h cells
columns_unchanged t width w h cells some same =
    columns_from t width w h cells cells some refl
    (λ x y hx hy. sym (at-column width h cells x y hy)
    ∙ ap (λ (xs : List ℤ). at xs y)
    (same (column width h cells x) (length-column width h cells x)))
    (λ x y hx inside out. refl)

-- ---- the rows

-- what shows that the rows of a plane were transformed
pub rows_from : (t : List ℤ → List ℤ) (width w h : ℕ) (cells out : List ℤ) → 0 < width →
    length out ≡ length cells →
    ((x y : ℕ) → x < w → y < h → cell width out x y ≡ at (t (row width w cells y)) x) →
    ((x y : ℕ) → x < width → y * width + x < length cells → (x < w → h ≤ y) →
    cell width out x y ≡ cell width cells x y) →
    out ≡ rows t width w h cells
unfolding rows
rows_from t width w h cells out some e inside beyond =
    filled width cells out (λ (a b : ℕ). cond (nat_lt a w && nat_lt b h)
    (at (t (row width w cells b)) a) (cell width cells a b)) some e (λ x y hx fits.
    elim (cases_lt x w) [
      | inl lt ↦ elim (cases_lt y h) [
        | inl below ↦ inside x y lt below ∙ sym (rw (lt-ltb x w lt, lt-ltb y h below) refl)
        | inr above ↦ beyond x y hx fits (λ q. above) ∙ sym (outside w h x y _ _ (λ q. above))
      ]
      | inr ge ↦ beyond x y hx fits (λ q. absurd (omega arith))
          ∙ sym (outside w h x y _ _ (λ q. absurd (omega arith)))
    ])
