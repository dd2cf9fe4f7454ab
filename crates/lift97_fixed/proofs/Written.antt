-- The steps along the columns, row by row.
use Rattle.std.proofs.Common.{◌≡◌, ◌≢◌, ℕ, ◌+◌, ◌*◌, ◌%◌, ◌<◌, ◌≤◌, ℤ, pos, List, length, All}
use Rattle.std.proofs.Common.{arith, sym, ◌∙◌, ap, inl, inr}
use Rattle.std.proofs.lemmas.List.{get_or-set_same, get_or-set_other, length-set}
use Rattle.std.proofs.lemmas.List.Elements.{All-set}
use Rattle.std.proofs.lemmas.Bool.{cases_lt, cases_eq}
use Rattle.std.proofs.lemmas.Nat.{row_fits, same_from_place}
use Rattle.std.proofs.Math.ListN.{set}
use Rattle.cine_nums.specs.Fixed.{Within30}
use Rattle.lift97_fixed.specs.Line.{at, left_of, right_of, lifted, scaled, lifted_at, lift}
use Rattle.lift97_fixed.specs.Line.{scaled_at, scale}
use Rattle.lift97_fixed.specs.Plane.{cell, column, columns}
use Rattle.lift97_fixed.proofs.Casts.{passed, passed_within}
use Rattle.lift97_fixed.proofs.Lines.{on_parity, off_parity, left_parity, right_parity, left_inside}
use Rattle.lift97_fixed.proofs.Lines.{right_inside, on_scale, off_scale, at-lift, at-scale}
use Rattle.lift97_fixed.proofs.Planes.{columns_from, at-column, length-column}

-- The first n cells of row y are written, with f x in column x.
pub record Written (width y n : ℕ) (f : ℕ → ℤ) (old cur : List ℤ) : Type 0 where
  pub size : length cur ≡ length old
  pub within : All Within30 cur
  pub done : (x : ℕ) → x < n → cell width cur x y ≡ f x
  pub kept : (x row : ℕ) → x < width → (row ≡ y → n ≤ x) →
      cell width cur x row ≡ cell width old x row

pub written_more : (width y n : ℕ) (f : ℕ → ℤ) (old cur : List ℤ) (v : ℤ) → n < width →
    y * width + n < length cur →
    Written width y n f old cur → v ≡ f n → Within30 v →
    Written width y (n + 1) f old (set cur (y * width + n) v)
written_more width y n f old cur v inside fits w e in30 = record {
  size = length-set cur (y * width + n) v ∙ w.size;
  within = All-set Within30 cur (y * width + n) v in30 w.within;
  done = λ x lt. elim (cases_eq x n) [
    | inl same ↦ rw same (get_or-set_same cur (y * width + n) v (pos 0) fits ∙ e)
    | inr other ↦
        let ne : y * width + x ≢ y * width + n = omega arith in
        get_or-set_other cur (y * width + n) (y * width + x) v (pos 0) ne ∙ w.done x (omega arith)
  ];
  kept = λ x row hx out.
      let ne : row * width + x ≢ y * width + n = λ q.
      let same = same_from_place row x y n width hx inside q in
      let far : n + 1 ≤ x = out same.0 in
      let near : x ≡ n = same.1 in omega arith in
      get_or-set_other cur (y * width + n) (row * width + x) v (pos 0) ne
      ∙ w.kept x row hx (λ q. omega (arith, out q));
}

-- a cell that the loop over row y hasn't reached, as the code passes it
passed_cell : (width y n : ℕ) (f : ℕ → ℤ) (old cur : List ℤ) (row : ℕ) → n < width →
    row * width + n < length cur → Written width y n f old cur →
    passed (cell width cur n row) ≡ cell width old n row
passed_cell width y n f old cur row inside fits w =
    passed_within _ (w.within (row * width + n) (pos 0) fits)
    ∙ w.kept n row inside (λ q. omega arith)

-- the row y after a lifting step from the rows above and below
abbrev pub lifted_row : ℤ → ℕ → ℕ → ℕ → ℕ → List ℤ → ℕ → ℤ
lifted_row c width y above below cells x =
    lifted c (cell width cells x y) (cell width cells x above) (cell width cells x below)

-- the row y after the scaling
abbrev pub scaled_row : ℤ → ℕ → ℕ → List ℤ → ℕ → ℤ
scaled_row c width y cells x = scaled c (cell width cells x y)

pub scale_row_step : (c : ℤ) (width y n : ℕ) (old cur : List ℤ) (r : ℤ) → n < width →
    y * width + width ≤ length cur →
    Written width y n (scaled_row c width y old) old cur →
    r ≡ scaled c (passed (cell width cur n y)) → Within30 r →
    Written width y (n + 1) (scaled_row c width y old) old (set cur (y * width + n) (passed r))
scale_row_step c width y n old cur r inside hy w e in30 =
    let f0 = passed_cell width y n (scaled_row c width y old) old cur y inside (omega arith) w in
    let value : r ≡ scaled_row c width y old n = e ∙ ap (scaled c) f0 in
    rw (passed_within r in30) (written_more width y n (scaled_row c width y old) old cur r inside
    (omega arith) w value in30)

-- ---- a step along the columns

-- The first n of h rows are written: f x y stands in row y of column x, for the first w columns.
pub record RowsWritten (width w h n : ℕ) (f : ℕ → ℕ → ℤ) (old cur : List ℤ) : Type 0 where
  pub size : length cur ≡ length old
  pub within : All Within30 cur
  pub done : (x y : ℕ) → x < w → y < n → y < h → cell width cur x y ≡ f x y
  pub kept : (x y : ℕ) → x < width → (x < w → y < h → n ≤ y) →
      cell width cur x y ≡ cell width old x y

-- What one call of a step leaves: g x in row y, and all else as it was.
pub record OneRow (width w y : ℕ) (g : ℕ → ℤ) (cur new : List ℤ) : Type 0 where
  pub size : length new ≡ length cur
  pub within : All Within30 new
  pub done : (x : ℕ) → x < w → cell width new x y ≡ g x
  pub kept : (x row : ℕ) → x < width → (row ≡ y → w ≤ x) →
      cell width new x row ≡ cell width cur x row

rows_written_more : (width w h n : ℕ) (f : ℕ → ℕ → ℤ) (g : ℕ → ℤ) (old cur new : List ℤ) →
    w ≤ width → n < h →
    RowsWritten width w h n f old cur → OneRow width w n g cur new →
    ((x : ℕ) → x < w → g x ≡ f x n) →
    ((x : ℕ) → x < w → n + 1 < h → cell width old x (n + 1) ≡ f x (n + 1)) →
    RowsWritten width w h (n + 2) f old new
rows_written_more width w h n f g old cur new le inside r o here next = record {
  size = o.size ∙ r.size;
  within = o.within;
  done = λ x y hx lt hy. elim (cases_eq y n) [
    | inl same ↦ rw same (o.done x hx ∙ here x hx)
    | inr other ↦ o.kept x y (omega arith) (λ q. absurd (other q)) ∙ (elim (cases_lt y n) [
      | inl below ↦ r.done x y hx below hy
      | inr above ↦
          let last : y ≡ n + 1 = omega arith in
          r.kept x y (omega arith) (λ p q. above) ∙ rw last (next x hx (omega arith))
    ])
  ];
  kept = λ x y hx out. elim (cases_lt x w) [
    | inl lt ↦ o.kept x y hx (λ q. absurd (omega (arith, out lt (omega arith))))
        ∙ r.kept x y hx (λ p q. omega (arith, out p q))
    | inr ge ↦ o.kept x y hx (λ q. ge) ∙ r.kept x y hx (λ p q. omega arith)
  ];
}

-- ---- the lifting step

abbrev pub lifted_place : ℤ → ℕ → ℕ → ℕ → List ℤ → ℕ → ℕ → ℤ
lifted_place c p width h cells x y = lifted_at c p (column width h cells x) y

off_lifted : (c : ℤ) (p width h : ℕ) (cells : List ℤ) (x y : ℕ) → y < h → y % 2 ≢ p →
    lifted_place c p width h cells x y ≡ cell width cells x y
off_lifted c p width h cells x y hy ne = off_parity c p (column width h cells x) y ne
    ∙ at-column width h cells x y hy

other_row : (c : ℤ) (p width w h n : ℕ) (old cur : List ℤ) (x y : ℕ) → w ≤ width → x < w → y < h →
    y % 2 ≢ p →
    RowsWritten width w h n (lifted_place c p width h old) old cur →
    cell width cur x y ≡ cell width old x y
other_row c p width w h n old cur x y le hx hy ne r =
    elim (cases_lt y n) [
      | inl below ↦ r.done x y hx below hy ∙ off_lifted c p width h old x y hy ne
      | inr above ↦ r.kept x y (omega arith) (λ q s. above)
    ]

on_lifted : (c : ℤ) (p width w h n : ℕ) (old cur : List ℤ) (x : ℕ) → w ≤ width → 2 ≤ h → n < h →
    x < w → n % 2 ≡ p →
    RowsWritten width w h n (lifted_place c p width h old) old cur →
    lifted_row c width n (left_of n) (right_of h n) cur x ≡ lifted_place c p width h old x n
on_lifted c p width w h n old cur x le two inside hx parity r =
    let here : cell width cur x n ≡ at (column width h old x) n =
    r.kept x n (omega arith) (λ q s. omega arith) ∙ sym (at-column width h old x n inside) in
    let li : left_of n < h = left_inside h n two inside in
    let ri : right_of h n < h = right_inside h n two inside in
    let before : cell width cur x (left_of n) ≡ at (column width h old x) (left_of n) =
    other_row c p width w h n old cur x (left_of n) le hx li (λ q. left_parity n (q ∙ sym parity)) r
    ∙ sym (at-column width h old x (left_of n) li) in
    let behind : cell width cur x (right_of h n) ≡ at (column width h old x) (right_of h n) =
    other_row c p width w h n old cur x (right_of h n) le hx ri
    (λ q. right_parity h n two inside (q ∙ sym parity)) r
    ∙ sym (at-column width h old x (right_of h n) ri) in
    let size : right_of h n ≡ right_of (length (column width h old x)) n =
    ap (λ (m : ℕ). right_of m n) (sym (length-column width h old x)) in
    ap (λ (z : ℤ). lifted c z (cell width cur x (left_of n)) (cell width cur x (right_of h n))) here
    ∙ (ap (λ (z : ℤ). lifted c (at (column width h old x) n) z
    (cell width cur x (right_of h n))) before
    ∙ (ap (λ (z : ℤ). lifted c (at (column width h old x) n)
    (at (column width h old x) (left_of n)) z) (behind ∙ ap (at (column width h old x)) size)
    ∙ sym (on_parity c p (column width h old x) n parity)))

pub lift_rows_step : (c : ℤ) (p width w h k : ℕ) (old cur new : List ℤ) (above below : ℕ) →
    w ≤ width → 2 ≤ h → p < 2 → 2 * k + p < h →
    above ≡ left_of (2 * k + p) → below ≡ right_of h (2 * k + p) →
    RowsWritten width w h (2 * k + p) (lifted_place c p width h old) old cur →
    OneRow width w (2 * k + p) (lifted_row c width (2 * k + p) above below cur) cur new →
    RowsWritten width w h (2 * (k + 1) + p) (lifted_place c p width h old) old new
lift_rows_step c p width w h k old cur new above below le two hp inside ea eb r o =
    let n : ℕ = 2 * k + p in
    let parity : n % 2 ≡ p = omega arith in
    let next : 2 * (k + 1) + p ≡ n + 2 = omega arith in
    rw next (rows_written_more width w h n (lifted_place c p width h old)
    (lifted_row c width n above below cur) old cur new le inside r o
    (λ x hx. rw (ea, eb) (on_lifted c p width w h n old cur x le two inside hx parity r))
    (λ x hx hy. sym (off_lifted c p width h old x (n + 1) hy
    (λ (e : (n + 1) % 2 ≡ p). omega arith))))

pub lift_rows_all : (c : ℤ) (p width w h n : ℕ) (old cur : List ℤ) → 0 < width → h ≤ n →
    RowsWritten width w h n (lifted_place c p width h old) old cur →
    cur ≡ columns (lift c p) width w h old
lift_rows_all c p width w h n old cur some le r =
    columns_from (lift c p) width w h old cur some r.size
    (λ x y hx hy. r.done x y hx (omega arith) hy
    ∙ sym (at-lift c p (column width h old x) y (rw (length-column width h old x) hy)))
    (λ x y hx fits out. r.kept x y hx (λ q s. absurd (omega (arith, out q))))

-- ---- the scaling

abbrev pub scaled_place : ℤ → ℕ → ℕ → ℕ → List ℤ → ℕ → ℕ → ℤ
scaled_place c p width h cells x y = scaled_at c p (column width h cells x) y

off_scaled : (c : ℤ) (p width h : ℕ) (cells : List ℤ) (x y : ℕ) → y < h → y % 2 ≢ p →
    scaled_place c p width h cells x y ≡ cell width cells x y
off_scaled c p width h cells x y hy ne = off_scale c p (column width h cells x) y ne
    ∙ at-column width h cells x y hy

pub scale_rows_step : (c : ℤ) (p width w h k : ℕ) (old cur new : List ℤ) → w ≤ width → p < 2 →
    2 * k + p < h →
    RowsWritten width w h (2 * k + p) (scaled_place c p width h old) old cur →
    OneRow width w (2 * k + p) (scaled_row c width (2 * k + p) cur) cur new →
    RowsWritten width w h (2 * (k + 1) + p) (scaled_place c p width h old) old new
scale_rows_step c p width w h k old cur new le hp inside r o =
    let n : ℕ = 2 * k + p in
    let parity : n % 2 ≡ p = omega arith in
    let next : 2 * (k + 1) + p ≡ n + 2 = omega arith in
    rw next (rows_written_more width w h n (scaled_place c p width h old)
    (scaled_row c width n cur) old cur new le inside r o
    (λ x hx. ap (scaled c) (r.kept x n (omega arith) (λ q s. omega arith)
    ∙ sym (at-column width h old x n inside))
    ∙ sym (on_scale c p (column width h old x) n parity))
    (λ x hx hy. sym (off_scaled c p width h old x (n + 1) hy
    (λ (e : (n + 1) % 2 ≡ p). omega arith))))

pub scale_rows_all : (c : ℤ) (p width w h n : ℕ) (old cur : List ℤ) → 0 < width → h ≤ n →
    RowsWritten width w h n (scaled_place c p width h old) old cur →
    cur ≡ columns (scale c p) width w h old
scale_rows_all c p width w h n old cur some le r =
    columns_from (scale c p) width w h old cur some r.size
    (λ x y hx hy. r.done x y hx (omega arith) hy
    ∙ sym (at-scale c p (column width h old x) y (rw (length-column width h old x) hy)))
    (λ x y hx fits out. r.kept x y hx (λ q s. absurd (omega (arith, out q))))

-- a row of the rectangle lies in the plane
pub row_in : (y h width n : ℕ) → y < h → h * width ≤ n → y * width + width ≤ n
row_in y h width n lt fits = omega (arith, row_fits y width h width lt (omega arith))

pub left_row_in : (y above h width n : ℕ) → above ≡ left_of y → 2 ≤ h → y < h → h * width ≤ n →
    above * width + width ≤ n
left_row_in y above h width n e two lt fits =
    row_in above h width n (rw e (left_inside h y two lt)) fits

pub right_row_in : (y below h width n : ℕ) → below ≡ right_of h y → 2 ≤ h → y < h → h * width ≤ n →
    below * width + width ≤ n
right_row_in y below h width n e two lt fits =
    row_in below h width n (rw e (right_inside h y two lt)) fits

pub left_apart : (y above : ℕ) → above ≡ left_of y → above ≢ y
left_apart y above e q = left_parity y (ap (λ (m : ℕ). m % 2) (sym e ∙ q))

pub right_apart : (y below h : ℕ) → below ≡ right_of h y → 2 ≤ h → y < h → below ≢ y
right_apart y below h e two lt q = right_parity h y two lt (ap (λ (m : ℕ). m % 2) (sym e ∙ q))

-- ---- the exchange of two rows

-- The first n cells of rows y and other are exchanged.
pub record Swapped (width y other n : ℕ) (old cur : List ℤ) : Type 0 where
  pub size : length cur ≡ length old
  pub within : All Within30 cur
  pub here : (x : ℕ) → x < n → cell width cur x y ≡ cell width old x other
  pub there : (x : ℕ) → x < n → cell width cur x other ≡ cell width old x y
  pub kept : (x row : ℕ) → x < width → (row ≡ y → n ≤ x) → (row ≡ other → n ≤ x) →
      cell width cur x row ≡ cell width old x row

-- two cells of one plane stand at two places unless row and column agree
place_apart : (width a x b n : ℕ) → x < width → n < width → (a ≡ b → x ≡ n → ⊥) →
    a * width + x ≢ b * width + n
place_apart width a x b n hx hn out q = let same =
    same_from_place a x b n width hx hn q in out same.0 same.1

twice : (cur : List ℤ) (i j k : ℕ) (a b : ℤ) → k ≢ i → k ≢ j →
    at (set (set cur i a) j b) k ≡ at cur k
twice cur i j k a b ni nj = get_or-set_other (set cur i a) j k b (pos 0) nj
    ∙ get_or-set_other cur i k a (pos 0) ni

swapped_here : (width y other n : ℕ) (old cur : List ℤ) (a b : ℤ) (x : ℕ) → n < width →
    y * width + n < length cur → (y ≡ other → ⊥) →
    Swapped width y other n old cur → a ≡ cell width old n other → x < n + 1 →
    cell width (set (set cur (y * width + n) a) (other * width + n) b) x y ≡ cell width old x other
swapped_here width y other n old cur a b x inside fits apart s ea lt =
    let far : y * width + x ≢ other * width + n =
    place_apart width y x other n (omega arith) inside (λ q r. apart q) in
    elim (cases_eq x n) [
      | inl same ↦
          let far' : y * width + n ≢ other * width + n =
          place_apart width y n other n inside inside (λ q r. apart q) in
          rw same (get_or-set_other (set cur (y * width + n) a) (other * width + n)
          (y * width + n) b (pos 0) far'
          ∙ (get_or-set_same cur (y * width + n) a (pos 0) fits ∙ ea))
      | inr ne ↦
          twice cur (y * width + n) (other * width + n) (y * width + x) a b
          (place_apart width y x y n (omega arith) inside (λ q r. ne r)) far
          ∙ s.here x (omega arith)
    ]

swapped_there : (width y other n : ℕ) (old cur : List ℤ) (a b : ℤ) (x : ℕ) → n < width →
    other * width + n < length cur → (y ≡ other → ⊥) →
    Swapped width y other n old cur → b ≡ cell width old n y → x < n + 1 →
    cell width (set (set cur (y * width + n) a) (other * width + n) b) x other ≡ cell width old x y
swapped_there width y other n old cur a b x inside fits apart s eb lt =
    elim (cases_eq x n) [
      | inl same ↦
          rw same (get_or-set_same (set cur (y * width + n) a) (other * width + n) b (pos 0)
          (rw (length-set cur (y * width + n) a) fits) ∙ eb)
      | inr ne ↦
          twice cur (y * width + n) (other * width + n) (other * width + x) a b
          (place_apart width other x y n (omega arith) inside (λ q r. apart (sym q)))
          (place_apart width other x other n (omega arith) inside (λ q r. ne r))
          ∙ s.there x (omega arith)
    ]

pub swap_step : (width y other n : ℕ) (old cur : List ℤ) (a b : ℤ) → n < width →
    y * width + width ≤ length cur → other * width + width ≤ length cur →
    (y ≡ other → ⊥) → Swapped width y other n old cur → a ≡ cell width cur n other →
    b ≡ cell width cur n y →
    Swapped width y other (n + 1) old
    (set (set cur (y * width + n) (passed a)) (other * width + n) (passed b))
swap_step width y other n old cur a b inside hy ho apart s ea eb =
    let wa : Within30 a = rw ea (s.within (other * width + n) (pos 0) (omega arith)) in
    let wb : Within30 b = rw eb (s.within (y * width + n) (pos 0) (omega arith)) in
    let va : a ≡ cell width old n other = ea
    ∙ s.kept n other inside (λ q. omega arith) (λ q. omega arith) in
    let vb : b ≡ cell width old n y = eb
    ∙ s.kept n y inside (λ q. omega arith) (λ q. omega arith) in
    rw (passed_within a wa, passed_within b wb) (record {
      size = length-set (set cur (y * width + n) a) (other * width + n) b
          ∙ (length-set cur (y * width + n) a ∙ s.size);
      within = All-set Within30 (set cur (y * width + n) a) (other * width + n) b wb
          (All-set Within30 cur (y * width + n) a wa s.within);
      here = λ x lt. swapped_here width y other n old cur a b x inside (omega arith) apart s va lt;
      there = λ x lt. swapped_there width y other n old cur a b x inside
          (omega arith) apart s vb lt;
      kept = λ x row hx p q.
          twice cur (y * width + n) (other * width + n) (row * width + x) a b
          (place_apart width row x y n hx inside (λ r e. absurd (omega (arith, p r))))
          (place_apart width row x other n hx inside (λ r e. absurd (omega (arith, q r))))
          ∙ s.kept x row hx (λ r. omega (arith, p r)) (λ r. omega (arith, q r));
    })
