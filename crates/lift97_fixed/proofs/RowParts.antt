-- A plane cut before and after one of its rows.
use Rattle.std.proofs.Common.{◌≡◌, ◌≢◌, ℕ, ◌+◌, ◌-◌, ◌*◌, ◌<◌, ◌≤◌, ℤ, pos, List, ◌++◌, length}
use Rattle.std.proofs.Common.{take, drop, arith, sym, ◌∙◌, ap, inl, inr}
use Rattle.std.proofs.Math.Nat.{mul-le-mul}
use Rattle.std.proofs.lemmas.Bool.{cases_lt}
use Rattle.std.proofs.lemmas.List.{get_or_append_left, get_or-append-add, get_or-drop, get_or-take}
use Rattle.std.proofs.lemmas.List.{take-append-drop, length-append, length-drop}
use Rattle.lift97_fixed.specs.Line.{at}
use Rattle.lift97_fixed.specs.Plane.{cell}

pub parts_are : (cells before rest here after : List ℤ) (s t : ℕ) → before ≡ take s cells →
    rest ≡ drop s cells →
    here ≡ take t rest → after ≡ drop t rest → before ++ (here ++ after) ≡ cells
parts_are cells before rest here after s t b r h a =
    let inner : here ++ after ≡ rest = rw (h, a) (take-append-drop t rest) in
    ap (λ l. before ++ l) inner ∙ rw (b, r) (take-append-drop s cells)

rows_within : (row y stride : ℕ) → row < y → (row + 1) * stride ≤ y * stride
rows_within row y stride lt =
    let more : row + 1 ≤ y = omega (arith, lt) in
    let same : stride ≤ stride = omega arith in
    mul-le-mul more same

pub rows_after : (row y stride : ℕ) → y < row →
    row * stride ≡ (row - y - 1) * stride + (y * stride + stride)
rows_after row y stride lt =
    let d : ℕ = row - y - 1 in
    let is : row ≡ d + (y + 1) = omega (arith, lt) in
    let sum : (d + (y + 1)) * stride ≡ d * stride + (y * stride + stride) = omega arith in
    ap (λ n. n * stride) is ∙ sum

before_at : (stride y row x : ℕ) (before rest : List ℤ) → row < y → x < stride →
    length before ≡ y * stride →
    cell stride (before ++ rest) x row ≡ cell stride before x row
before_at stride y row x before rest lt column count =
    get_or_append_left before rest (pos 0) (row * stride + x)
    (omega (arith, rows_within row y stride lt, column, count))

pub mid_at : (stride y x : ℕ) (before mid after : List ℤ) → x < length mid →
    length before ≡ y * stride →
    cell stride (before ++ (mid ++ after)) x y ≡ at mid x
mid_at stride y x before mid after column count =
    let place : y * stride + x ≡ length before + x = omega (arith, count) in
    ap (at (before ++ (mid ++ after))) place
    ∙ get_or-append-add before (mid ++ after) x (pos 0)
    ∙ get_or_append_left mid after (pos 0) x column

pub after_at : (stride y row x : ℕ) (before mid after : List ℤ) → y < row →
    length before ≡ y * stride → length mid ≡ stride →
    cell stride (before ++ (mid ++ after)) x row ≡ at after ((row - y - 1) * stride + x)
after_at stride y row x before mid after lt count whole =
    let k : ℕ = (row - y - 1) * stride + x in
    let place : row * stride + x ≡ length before + (length mid + k) =
    omega (arith, rows_after row y stride lt, count, whole) in
    ap (at (before ++ (mid ++ after))) place
    ∙ get_or-append-add before (mid ++ after) (length mid + k) (pos 0)
    ∙ get_or-append-add mid after k (pos 0)

-- another row than y is what it is whatever row y has
pub other_row : (stride y row x : ℕ) (before mid new after : List ℤ) → row ≢ y → x < stride →
    length before ≡ y * stride →
    length mid ≡ stride → length new ≡ stride →
    cell stride (before ++ (new ++ after)) x row ≡ cell stride (before ++ (mid ++ after)) x row
other_row stride y row x before mid new after other column count whole new_whole =
    elim (cases_lt row y) [
      | inl lt ↦
          before_at stride y row x before (new ++ after) lt column count
          ∙ sym (before_at stride y row x before (mid ++ after) lt column count)
      | inr ge ↦
          let lt : y < row = omega (arith, ge, other) in
          after_at stride y row x before new after lt count new_whole
          ∙ sym (after_at stride y row x before mid after lt count whole)
    ]

-- a row whose first cells are new: the new ones, and the rest
pub new_at : (width x : ℕ) (new here : List ℤ) → x < width → length new ≡ width →
    at (new ++ drop width here) x ≡ at new x
new_at width x new here lt count =
    get_or_append_left new (drop width here) (pos 0) x (omega (arith, lt, count))

pub rest_at : (width x : ℕ) (new here : List ℤ) → width ≤ x → length new ≡ width →
    at (new ++ drop width here) x ≡ at here x
rest_at width x new here ge count =
    let place : x ≡ length new + (x - width) = omega (arith, ge, count) in
    let back : width + (x - width) ≡ x = omega (arith, ge) in
    ap (at (new ++ drop width here)) place
    ∙ get_or-append-add new (drop width here) (x - width) (pos 0)
    ∙ get_or-drop width here (x - width) (pos 0)
    ∙ ap (at here) back

pub new_count : (width stride : ℕ) (new here : List ℤ) → width ≤ stride → length new ≡ width →
    length here ≡ stride →
    length (new ++ drop width here) ≡ stride
new_count width stride new here le count whole =
    omega (arith, le, count, whole, length-append new (drop width here), length-drop width here)

pub first_at : (width x : ℕ) (here : List ℤ) → x < width → at (take width here) x ≡ at here x
first_at width x here lt = get_or-take width here x (pos 0) lt
