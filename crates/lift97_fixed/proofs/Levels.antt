-- The steps along the columns together, the rows, and one level after another.
use Rattle.std.proofs.Common.{◌≡◌, ℕ, ◌+◌, ◌-◌, ◌*◌, ◌<◌, ◌≤◌, ℤ, pos, List, ◌++◌, take, drop}
use Rattle.std.proofs.Common.{length, All, arith, refl, sym, ◌∙◌, ap, suc, inl, inr}
use Rattle.std.proofs.lemmas.List.{length-take, length-drop, length-append, length-take-le}
use Rattle.std.proofs.lemmas.List.{get_or_append_left, get_or-append_right, get_or-take}
use Rattle.std.proofs.lemmas.List.{get_or-drop}
use Rattle.std.proofs.lemmas.List.Edits.{get_or-between, length-between}
use Rattle.std.proofs.lemmas.List.Elements.{All-append, All-take, All-drop}
use Rattle.std.proofs.lemmas.List.FromFn.{fill_by_all}
use Rattle.std.proofs.lemmas.Bool.{cases_lt, cases_eq}
use Rattle.std.proofs.lemmas.Nat.{row_fits}
use Rattle.std.specs.List.{between}
use borrow.Rule.Slice.PartMut.{put_mid}
use Rattle.cine_nums.specs.Division.{div_up}
use Rattle.cine_nums.specs.Fixed.{Within30}
use Rattle.lift97_fixed.specs.Line.{at, alpha, beta, gamma, delta, scaling, inverse_scaling, lift}
use Rattle.lift97_fixed.specs.Line.{scale, split, filtered, line_transform}
use Rattle.lift97_fixed.specs.Plane.{cell, row, columns, rows, one_level, levels_from}
use Rattle.lift97_fixed.proofs.Lines.{length-lift, length-scale, short_line, long_line}
use Rattle.lift97_fixed.proofs.Planes.{columns_after, columns_same, columns_unchanged, rows_from}

-- ---- the columns

pub short_columns : (width w h : ℕ) (cells : List ℤ) → 0 < width → h < 2 →
    cells ≡ columns line_transform width w h cells
short_columns width w h cells some lt =
    columns_unchanged line_transform width w h cells some (λ xs e. short_line xs (rw e lt))

-- what the seven steps of a transform of the columns leave
pub record Steps (width w h : ℕ) (a b c d e f g i : List ℤ) : Type 0 where
  pub first : b ≡ columns (lift alpha 1) width w h a
  pub second : c ≡ columns (lift beta 0) width w h b
  pub third : d ≡ columns (lift gamma 1) width w h c
  pub fourth : e ≡ columns (lift delta 0) width w h d
  pub fifth : f ≡ columns (scale scaling 1) width w h e
  pub sixth : g ≡ columns (scale inverse_scaling 0) width w h f
  pub last : i ≡ columns split width w h g

keeps_beta : (xs : List ℤ) → length (lift beta 0 (lift alpha 1 xs)) ≡ length xs
keeps_beta xs = length-lift beta 0 (lift alpha 1 xs) ∙ length-lift alpha 1 xs

keeps_gamma : (xs : List ℤ) → length (lift gamma 1 (lift beta 0 (lift alpha 1 xs))) ≡ length xs
keeps_gamma xs = length-lift gamma 1 (lift beta 0 (lift alpha 1 xs)) ∙ keeps_beta xs

keeps_delta : (xs : List ℤ) → length (lift delta 0 (lift gamma 1 (lift beta 0 (lift alpha 1 xs))))
    ≡ length xs
keeps_delta xs = length-lift delta 0 (lift gamma 1 (lift beta 0 (lift alpha 1 xs))) ∙ keeps_gamma xs

keeps_scaling : (xs : List ℤ) →
    length (scale scaling 1 (lift delta 0 (lift gamma 1 (lift beta 0 (lift alpha 1 xs)))))
    ≡ length xs
keeps_scaling xs = length-scale scaling 1
    (lift delta 0 (lift gamma 1 (lift beta 0 (lift alpha 1 xs)))) ∙ keeps_delta xs

keeps_all : (xs : List ℤ) → length (filtered xs) ≡ length xs
keeps_all xs = length-scale inverse_scaling 0
    (scale scaling 1 (lift delta 0 (lift gamma 1 (lift beta 0 (lift alpha 1 xs)))))
    ∙ keeps_scaling xs

pub long_columns : (width w h : ℕ) (a b c d e f g i : List ℤ) → 0 < width → w ≤ width →
    h * width ≤ length a → 2 ≤ h →
    Steps width w h a b c d e f g i → i ≡ columns line_transform width w h a
long_columns width w h a b c d e f g i some le fits two s =
    let to_c = columns_after (lift beta 0) (lift alpha 1) width w h a b c some le fits
    (length-lift alpha 1) s.first s.second in
    let to_d = columns_after (lift gamma 1)
    (λ xs. lift beta 0 (lift alpha 1 xs)) width w h a c d some le fits keeps_beta to_c s.third in
    let to_e = columns_after (lift delta 0)
    (λ xs. lift gamma 1 (lift beta 0
    (lift alpha 1 xs))) width w h a d e some le fits keeps_gamma to_d s.fourth in
    let to_f = columns_after (scale scaling 1)
    (λ xs. lift delta 0 (lift gamma 1
    (lift beta 0 (lift alpha 1 xs)))) width w h a e f some le fits keeps_delta to_e s.fifth in
    let to_g = columns_after (scale inverse_scaling 0)
    (λ xs. scale scaling 1 (lift delta 0
    (lift gamma 1 (lift beta 0
    (lift alpha 1 xs))))) width w h a f g some le fits keeps_scaling to_f s.sixth in
    let to_i = columns_after split filtered width w h a g i some le fits keeps_all to_g s.last in
    to_i ∙ columns_same (λ xs. split (filtered xs)) line_transform width w h a some le fits
    (λ xs same. long_line xs (rw same two))

-- ---- the rows

put_inside : (a k : ℕ) (xs ys : List ℤ) (i : ℕ) → a + k ≤ length xs → length ys ≡ k → i < k →
    at (put_mid a k xs ys) (a + i) ≡ at ys i
put_inside a k xs ys i fits e lt =
    get_or-append_right (take a xs) (ys ++ drop k (drop a xs)) a (a + i) (pos 0)
    (length-take-le a xs (omega arith)) (omega arith)
    ∙ (ap (at (ys ++ drop k (drop a xs))) (omega arith)
    ∙ get_or_append_left ys (drop k (drop a xs)) (pos 0) i (omega arith))

put_below : (a k : ℕ) (xs ys : List ℤ) (i : ℕ) → a + k ≤ length xs → i < a →
    at (put_mid a k xs ys) i ≡ at xs i
put_below a k xs ys i fits lt =
    get_or_append_left (take a xs) (ys ++ drop k (drop a xs)) (pos 0) i
    (omega (arith, length-take-le a xs (omega arith)))
    ∙ get_or-take a xs i (pos 0) lt

put_above : (a k : ℕ) (xs ys : List ℤ) (i : ℕ) → a + k ≤ length xs → length ys ≡ k → a + k ≤ i →
    at (put_mid a k xs ys) i ≡ at xs i
put_above a k xs ys i fits e ge =
    get_or-append_right (take a xs) (ys ++ drop k (drop a xs)) a i (pos 0)
    (length-take-le a xs (omega arith)) (omega arith)
    ∙ (get_or-append_right ys (drop k (drop a xs)) k (i - a) (pos 0) e (omega arith)
    ∙ (get_or-drop k (drop a xs) (i - a - k) (pos 0)
    ∙ (get_or-drop a xs (k + (i - a - k)) (pos 0) ∙ ap (at xs) (omega arith))))

pub put_within : (a k : ℕ) (xs ys : List ℤ) → All Within30 xs → All Within30 ys →
    All Within30 (put_mid a k xs ys)
put_within a k xs ys p q =
    All-append Within30 (take a xs) (ys ++ drop k (drop a xs)) (All-take Within30 a xs p)
    (All-append Within30 ys (drop k (drop a xs)) q
    (All-drop Within30 k (drop a xs) (All-drop Within30 a xs p)))

-- The first n rows are transformed.
pub record RowsDone (width w n : ℕ) (old cur : List ℤ) : Type 0 where
  pub size : length cur ≡ length old
  pub within : All Within30 cur
  pub done : (x y : ℕ) → x < w → y < n →
      cell width cur x y ≡ at (line_transform (row width w old y)) x
  pub kept : (x y : ℕ) → x < width → (x < w → n ≤ y) → cell width cur x y ≡ cell width old x y

pub rows_none : (width w : ℕ) (cells : List ℤ) → All Within30 cells → RowsDone width w 0 cells cells
rows_none width w cells p = record {
  size = refl;
  within = p;
  done = λ x y hx lt. absurd (omega arith);
  kept = λ x y hx out. refl;
}

part_is : (width w n : ℕ) (old cur : List ℤ) → 0 < w → w ≤ width → n * width + w ≤ length cur →
    RowsDone width w n old cur →
    between (n * width) (n * width + w) cur ≡ row width w old n
part_is width w n old cur some le fits r =
    fill_by_all (λ x. cell width old x n) (between (n * width) (n * width + w) cur) w (pos 0)
    (length-between cur (n * width) (n * width + w) fits ∙ omega arith)
    (λ x lt. get_or-between cur (n * width) (n * width + w) x (pos 0) (omega arith)
    ∙ r.kept x n (omega arith) (λ q. omega arith))

length-put : (a k : ℕ) (xs ys : List ℤ) → a + k ≤ length xs → length ys ≡ k →
    length (put_mid a k xs ys) ≡ length xs
length-put a k xs ys fits e =
    omega (
      arith,
      length-append (take a xs) (ys ++ drop k (drop a xs)),
      length-append ys
          (drop k (drop a xs)),
      length-take a xs,
      length-drop k (drop a xs),
      length-drop a xs,
    )

rows_kept : (width w n : ℕ) (old cur line : List ℤ) (x y : ℕ) → w ≤ width →
    n * width + w ≤ length cur → length line ≡ w →
    RowsDone width w n old cur → x < width → (x < w → n + 1 ≤ y) →
    cell width (put_mid (n * width) w cur line) x y ≡ cell width old x y
rows_kept width w n old cur line x y le fits e r hx out =
    elim (cases_lt y n) [
      | inl below ↦
          put_below (n * width) w cur line (y * width + x) fits
          (omega (arith, row_fits y width n width below (omega arith)))
          ∙ r.kept x y hx (λ q. omega (arith, out q))
      | inr above ↦ elim (cases_eq y n) [
        | inl same ↦ elim (cases_lt x w) [
          | inl lt ↦ absurd (omega (arith, out lt))
          | inr ge ↦
              rw same (put_above (n * width) w cur line (n * width + x) fits e (omega arith)
              ∙ r.kept x n hx (λ q. omega arith))
        ]
        | inr ne ↦
            put_above (n * width) w cur line (y * width + x) fits e
            (omega (arith, row_fits n width y width (omega arith) (omega arith)))
            ∙ r.kept x y hx (λ q. omega arith)
      ]
    ]

rows_done : (width w n : ℕ) (old cur line : List ℤ) (x y : ℕ) → w ≤ width →
    n * width + w ≤ length cur → length line ≡ w →
    line ≡ line_transform (row width w old n) → RowsDone width w n old cur → x < w → y < n + 1 →
    cell width (put_mid (n * width) w cur line) x y ≡ at (line_transform (row width w old y)) x
rows_done width w n old cur line x y le fits e value r hx lt =
    elim (cases_eq y n) [
      | inl same ↦ rw same (put_inside (n * width) w cur line x fits e hx
          ∙ ap (λ (xs : List ℤ). at xs x) value)
      | inr ne ↦
          let below : y < n = omega arith in
          put_below (n * width) w cur line (y * width + x) fits
          (omega (arith, row_fits y width n width below (omega arith)))
          ∙ r.done x y hx below
    ]

pub rows_step : (width w h n k : ℕ) (old cur line : List ℤ) → 0 < w → w ≤ width → n < h →
    h * width ≤ length cur → k ≡ w →
    RowsDone width w n old cur → line ≡ line_transform (between (n * width) (n * width + w) cur) →
    length line ≡ length (between (n * width) (n * width + w) cur) → All Within30 line →
    RowsDone width w (n + 1) old (put_mid (n * width) k cur line)
rows_step width w h n k old cur line some le lt fits ek r value el in30 =
    let room : n * width + w ≤ length cur =
    omega (arith, row_fits n width h width lt (omega arith)) in
    let e : length line ≡ w = el ∙
    (length-between cur (n * width) (n * width + w) room ∙ omega arith) in
    let whole : line ≡ line_transform (row width w old n) = value
    ∙ ap line_transform (part_is width w n old cur some le room r) in
    rw ek (record {
      size = length-put (n * width) w cur line room e ∙ r.size;
      within = put_within (n * width) w cur line r.within in30;
      done = λ x y hx q. rows_done width w n old cur line x y le room e whole r hx q;
      kept = λ x y hx out. rows_kept width w n old cur line x y le room e r hx out;
    })

pub rows_all : (width w h n : ℕ) (old cur : List ℤ) → 0 < width → w ≤ width → h ≡ n →
    RowsDone width w n old cur → cur ≡ rows line_transform width w h old
rows_all width w h n old cur some le e r =
    rows_from line_transform width w h old cur some r.size
    (λ x y hx hy. r.done x y hx (omega arith))
    (λ x y hx fits out. r.kept x y hx (λ q. omega (arith, out q)))

-- ---- one level after another

pub levels_more : (l k width w h : ℕ) (cells : List ℤ) → l ≡ suc k →
    levels_from l width w h cells ≡ levels_from k width (div_up w 2) (div_up h 2)
    (one_level width w h cells)
unfolding levels_from
levels_more l k width w h cells e = rw e refl

pub levels_end : (l width w h : ℕ) (cells : List ℤ) → l ≡ 0 → levels_from l width w h cells ≡ cells
unfolding levels_from
levels_end l width w h cells e = rw e refl

-- n levels of `levels` are done, and the LL part has w columns and h rows
pub record LevelsDone (levels n width height w h : ℕ) (old cur : List ℤ) : Type 0 where
  pub size : length cur ≡ length old
  pub within : All Within30 cur
  pub wide : 1 ≤ w × w ≤ width
  pub high : 1 ≤ h × h ≤ height
  pub rest : levels_from (levels - n) width w h cur ≡ levels_from levels width width height old

pub levels_none : (levels width height : ℕ) (cells : List ℤ) → 1 ≤ width → 1 ≤ height →
    All Within30 cells →
    LevelsDone levels 0 width height width height cells cells
levels_none levels width height cells hw hh p = record {
  size = refl;
  within = p;
  wide = (hw, omega arith);
  high = (hh, omega arith);
  rest = let e : levels - 0 ≡ levels = omega arith in rw e refl;
}

pub levels_step : (levels n width height w h w' h' : ℕ) (old cur mid new : List ℤ) → n < levels →
    w' ≡ div_up w 2 → h' ≡ div_up h 2 →
    LevelsDone levels n width height w h old cur → length new ≡ length cur → All Within30 new →
    mid ≡ columns line_transform width w h cur → new ≡ rows line_transform width w h mid →
    LevelsDone levels (n + 1) width height w' h' old new
levels_step levels n width height w h w' h' old cur mid new lt ew eh l e in30 em en =
    let value : new ≡ one_level width w h cur = en ∙ ap (rows line_transform width w h) em in
    record {
      size = e ∙ l.size;
      within = in30;
      wide = (omega arith, omega arith);
      high = (omega arith, omega arith);
      rest = rw (ew, eh, value) (sym
          (levels_more (levels - n) (levels - (n + 1)) width w h cur (omega arith)) ∙ l.rest);
    }

pub levels_all : (levels n width height w h : ℕ) (old cur : List ℤ) → levels ≤ n →
    LevelsDone levels n width height w h old cur →
    cur ≡ levels_from levels width width height old
levels_all levels n width height w h old cur le l =
    sym (levels_end (levels - n) width w h cur (omega arith)) ∙ l.rest
