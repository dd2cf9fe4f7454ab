-- The split of the rows by exchanges.
use Rattle.std.proofs.Common.{◌≡◌, ℕ, ◌+◌, ◌<◌, ◌≤◌, ℤ, pos, List, length, All, arith, refl, sym}
use Rattle.std.proofs.Common.{◌∙◌, ap, inl, inr, w32, w64, to_z, Fits, FitsSigned, subst}
use Rattle.std.proofs.lemmas.List.{get_or-set_same, get_or-set_other, length-set}
use Rattle.std.proofs.lemmas.Bool.{cases_lt, cases_eq}
use Rattle.std.proofs.lemmas.Int.{ints}
use Rattle.std.proofs.Math.ListN.{set}
use Rattle.cine_nums.specs.Fixed.{Within30}
use Rattle.lift97_fixed.specs.Line.{at, split, source_of}
use Rattle.lift97_fixed.specs.Plane.{cell, column, columns}
use lib.Dec.{T}
use lib.IntN.{nat_abs}
use lib.Signed.{non_neg}
use Rattle.lift97_fixed.proofs.Casts.{passed}
use Rattle.lift97_fixed.proofs.Lines.{split-at, source_below, source_apart}
use Rattle.lift97_fixed.proofs.Planes.{columns_from, at-column, length-column}
use Rattle.lift97_fixed.proofs.Written.{Swapped}

pub small : (n : ℕ) → n < 4096 → to_z w32 n ≡ pos n
small n h = omega (arith, ints)

same_number : (a b : ℕ) (z : ℤ) → z ≡ pos a → z ≡ pos b → a ≡ b
same_number a b z p q = let e : pos a ≡ pos b = sym p ∙ q in cc

-- the first n rows are numbered
pub record Numbered (n : ℕ) (held placed : List ℤ) : Type 0 where
  pub rows : (j : ℕ) → j < n → at held j ≡ pos j
  pub places : (j : ℕ) → j < n → at placed j ≡ pos j

number : (xs : List ℤ) (n : ℕ) → n < 4096 → n < length xs → ((j : ℕ) → j < n → at xs j ≡ pos j) →
    (j : ℕ) → j < n + 1 → at (set xs n (to_z w32 n)) j ≡ pos j
number xs n h inside f j lt = elim (cases_eq j n) [
  | inl same ↦ rw same (get_or-set_same xs n (to_z w32 n) (pos 0) inside ∙ small n h)
  | inr ne ↦ get_or-set_other xs n j (to_z w32 n) (pos 0) ne ∙ f j (omega arith)
]

-- which row stands at place p, and where row r stands
pub record Held (h p : ℕ) (held placed : List ℤ) : Type 0 where
  pub row : ℕ
  pub below : row < h
  pub is : at held p ≡ pos row
  pub back : at placed row ≡ pos p

pub record Placed (h r : ℕ) (held placed : List ℤ) : Type 0 where
  pub place : ℕ
  pub below : place < h
  pub is : at placed r ≡ pos place
  pub back : at held place ≡ pos r

-- `held` and `placed` number the h rows and their places, each the inverse of the other
pub record Tracks (h : ℕ) (held placed : List ℤ) : Type 0 where
  pub hold : (p : ℕ) → p < h → Held h p held placed
  pub place : (r : ℕ) → r < h → Placed h r held placed

-- The first n places hold the rows that the split puts there; every place holds the row that `held`
-- tells.
pub record RowsMoved (width w h n : ℕ) (old cur held placed : List ℤ) : Type 0 where
  pub size : length cur ≡ length old
  pub within : All Within30 cur
  pub tracks : Tracks h held placed
  pub done : (p : ℕ) → p < n → at held p ≡ pos (source_of h p)
  pub moved : (x p r : ℕ) → x < w → p < h → at held p ≡ pos r →
      cell width cur x p ≡ cell width old x r
  pub kept : (x row : ℕ) → x < width → (x < w → h ≤ row) →
      cell width cur x row ≡ cell width old x row

pub moved_none : (width w h n : ℕ) (cells held placed : List ℤ) → h ≤ n → All Within30 cells →
    Numbered n held placed →
    RowsMoved width w h 0 cells cells held placed
moved_none width w h n cells held placed le in30 r = record {
  size = refl;
  within = in30;
  tracks = record {
    hold = λ p lt. record {
      row = p;
      below = lt;
      is = r.rows p (omega arith);
      back =
          r.places p (omega arith);
    };
    place = λ p lt. record {
      place = p;
      below = lt;
      is = r.places p (omega arith);
      back =
          r.rows p (omega arith);
    };
  };
  done = λ p lt. absurd (omega arith);
  moved = λ x p q hx hp e. ap (cell width cells x)
      (same_number p q (at held p) (r.rows p (omega arith)) e);
  kept = λ x row hx out. refl;
}

-- what the numbers are after row `wanted`, which stood at place `from`, and row `here`, which stood
-- at place y, change places
at_last : (xs : List ℤ) (i j : ℕ) (a b : ℤ) → j < length xs → at (set (set xs i a) j b) j ≡ b
at_last xs i j a b lt = get_or-set_same (set xs i a) j b (pos 0) (rw (length-set xs i a) lt)

at_first : (xs : List ℤ) (i j : ℕ) (a b : ℤ) → i < length xs → (i ≡ j → ⊥) →
    at (set (set xs i a) j b) i ≡ a
at_first xs i j a b lt ne = get_or-set_other (set xs i a) j i b (pos 0) ne
    ∙ get_or-set_same xs i a (pos 0) lt

at_neither : (xs : List ℤ) (i j k : ℕ) (a b : ℤ) → (k ≡ i → ⊥) → (k ≡ j → ⊥) →
    at (set (set xs i a) j b) k ≡ at xs k
at_neither xs i j k a b ni nj = get_or-set_other (set xs i a) j k b (pos 0) nj
    ∙ get_or-set_other xs i k a (pos 0) ni

-- One exchange, seen from either list: places p and rows r change their parts when `held` and
-- `placed` do.
exchanged_held : (h : ℕ) (held placed : List ℤ) (y from here wanted : ℕ) → h ≤ length held →
    h ≤ length placed → y < h → from < h → here < h → wanted < h →
    at held y ≡ pos here → at held from ≡ pos wanted → at placed here ≡ pos y →
    at placed wanted ≡ pos from →
    ((p : ℕ) → p < h → Held h p held placed) →
    (p : ℕ) → p < h → Held h p (set (set held from (pos here)) y (pos wanted))
    (set (set placed here (pos from)) wanted (pos y))
exchanged_held h held placed y from here wanted lh lp hy hf hh hw ey ef eh ew hold p lt =
    elim (cases_eq p y) [
      | inl same ↦ record {
        row = wanted;
        below = hw;
        is = rw same (at_last held from y (pos here) (pos wanted) (omega arith));
        back = rw same (at_last placed here wanted (pos from) (pos y) (omega arith));
      }
      | inr ny ↦ elim (cases_eq p from) [
        | inl same ↦
            let apart : here ≡ wanted → ⊥ =
            λ e. ny (same ∙ sym (same_number y from (at placed wanted)
            (ap (at placed) (sym e) ∙ eh) ew)) in
            record {
              row = here;
              below = hh;
              is = rw same (at_first held from y (pos here) (pos wanted) (omega arith)
                  (λ e. ny (same ∙ e)));
              back = rw same (at_first placed here wanted (pos from) (pos y) (omega arith) apart);
            }
        | inr nf ↦
            let was = hold p lt in
            let nh : was.row ≡ here → ⊥ = λ e. ny
            (same_number p y (at placed here) (ap (at placed) (sym e) ∙ was.back) eh) in
            let nw : was.row ≡ wanted → ⊥ =
            λ e. nf (same_number p from (at placed wanted)
            (ap (at placed) (sym e) ∙ was.back) ew) in
            record {
              row = was.row;
              below = was.below;
              is = at_neither held from y p (pos here) (pos wanted) nf ny ∙ was.is;
              back = at_neither placed here wanted was.row (pos from) (pos y) nh nw ∙ was.back;
            }
      ]
    ]

exchanged_place : (h : ℕ) (held placed : List ℤ) (y from here wanted : ℕ) → h ≤ length held →
    h ≤ length placed → y < h → from < h → here < h → wanted < h →
    at held y ≡ pos here → at held from ≡ pos wanted → at placed here ≡ pos y →
    at placed wanted ≡ pos from →
    ((r : ℕ) → r < h → Placed h r held placed) →
    (r : ℕ) → r < h → Placed h r (set (set held from (pos here)) y (pos wanted))
    (set (set placed here (pos from)) wanted (pos y))
exchanged_place h held placed y from here wanted lh lp hy hf hh hw ey ef eh ew place r lt =
    elim (cases_eq r wanted) [
      | inl same ↦ record {
        place = y;
        below = hy;
        is = rw same (at_last placed here wanted (pos from) (pos y) (omega arith));
        back = rw same (at_last held from y (pos here) (pos wanted) (omega arith));
      }
      | inr nw ↦ elim (cases_eq r here) [
        | inl same ↦
            let apart : from ≡ y → ⊥ = λ e. nw
            (same ∙ sym (same_number wanted here (at held y) (ap (at held) (sym e) ∙ ef) ey)) in
            record {
              place = from;
              below = hf;
              is = rw same (at_first placed here wanted (pos from) (pos y) (omega arith)
                  (λ e. nw (same ∙ e)));
              back = rw same (at_first held from y (pos here) (pos wanted) (omega arith) apart);
            }
        | inr nh ↦
            let was = place r lt in
            let nf : was.place ≡ from → ⊥ =
            λ e. nw (same_number r wanted (at held from)
            (ap (at held) (sym e) ∙ was.back) ef) in
            let ny : was.place ≡ y → ⊥ = λ e. nh
            (same_number r here (at held y) (ap (at held) (sym e) ∙ was.back) ey) in
            record {
              place = was.place;
              below = was.below;
              is = at_neither placed here wanted r (pos from) (pos y) nh nw ∙ was.is;
              back = at_neither held from y was.place (pos here) (pos wanted) nf ny ∙ was.back;
            }
      ]
    ]

moved_done : (width w h y : ℕ) (old cur held placed : List ℤ) (from here wanted p : ℕ) → y < h →
    h ≤ length held → wanted ≡ source_of h y →
    at held from ≡ pos wanted → RowsMoved width w h y old cur held placed → p < y + 1 →
    at (set (set held from (pos here)) y (pos wanted)) p ≡ pos (source_of h p)
moved_done width w h y old cur held placed from here wanted p hy lh ew ef m lt =
    elim (cases_eq p y) [
      | inl same ↦ rw same (at_last held from y (pos here) (pos wanted) (omega arith) ∙ ap pos ew)
      | inr ny ↦
          let below : p < y = omega arith in
          let nf : p ≡ from → ⊥ = λ e. ny (source_apart h p y (omega arith) hy
          (same_number (source_of h p) (source_of h y) (at held from)
          (ap (at held) (sym e) ∙ m.done p below) (ef ∙ ap pos ew))) in
          at_neither held from y p (pos here) (pos wanted) nf ny ∙ m.done p below
    ]

moved_moved : (width w h y : ℕ) (old cur new held placed : List ℤ) (from here wanted x p r : ℕ) →
    w ≤ width → y < h → from < h → h ≤ length held →
    at held y ≡ pos here → at held from ≡ pos wanted → RowsMoved width w h y old cur held placed →
    Swapped width y from w cur new →
    x < w → p < h → at (set (set held from (pos here)) y (pos wanted)) p ≡ pos r →
    cell width new x p ≡ cell width old x r
moved_moved width w h y old cur new held placed from here wanted x p r le hy hf lh ey ef m s hx hp e =
    elim (cases_eq p y) [
      | inl same ↦
          let number : wanted ≡ r = same_number wanted r
          (at (set (set held from (pos here)) y (pos wanted)) y)
          (at_last held from y (pos here) (pos wanted) (omega arith))
          (ap (at (set (set held from (pos here)) y (pos wanted))) (sym same) ∙ e) in
          rw (same, ← number) (s.here x hx ∙ m.moved x from wanted hx hf ef)
      | inr ny ↦ elim (cases_eq p from) [
        | inl same ↦
            let number : here ≡ r = same_number here r
            (at (set (set held from (pos here)) y (pos wanted)) p)
            (rw same (at_first held from y (pos here) (pos wanted) (omega arith)
            (λ q. ny (same ∙ q)))) e in
            rw (same, ← number) (s.there x hx ∙ m.moved x y here hx hy ey)
        | inr nf ↦
            s.kept x p (omega arith) (λ q. absurd (ny q)) (λ q. absurd (nf q))
            ∙ m.moved x p r hx hp (sym (at_neither held from y p (pos here) (pos wanted) nf ny) ∙ e)
      ]
    ]

pub moved_step : (width w h y : ℕ) (old cur new held placed : List ℤ) (from here wanted : ℕ) →
    w ≤ width → y < h →
    h ≤ length held → h ≤ length placed → wanted ≡ source_of h y → at placed wanted ≡ pos from →
    at held y ≡ pos here →
    RowsMoved width w h y old cur held placed → Swapped width y from w cur new →
    RowsMoved width w h (y + 1) old new (set (set held from (pos here)) y (pos wanted))
    (set (set placed here (pos from)) wanted (pos y))
moved_step width w h y old cur new held placed from here wanted le hy lh lp ew ep ey m s =
    let hw : wanted < h = rw ew (source_below h y hy) in
    let there = m.tracks.place wanted hw in
    let mine = m.tracks.hold y hy in
    let ff : there.place ≡ from = same_number there.place from (at placed wanted) there.is ep in
    let rr : mine.row ≡ here = same_number mine.row here (at held y) mine.is ey in
    let hf : from < h = rw (← ff) there.below in
    let hh : here < h = rw (← rr) mine.below in
    let ef : at held from ≡ pos wanted = rw (← ff) there.back in
    let eh : at placed here ≡ pos y = rw (← rr) mine.back in
    record {
      size = s.size ∙ m.size;
      within = s.within;
      tracks = record {
        hold = exchanged_held h held placed y from here wanted lh lp hy hf hh hw ey ef eh ep m.tracks.hold;
        place = exchanged_place h held placed y from here wanted lh lp hy hf hh hw ey ef eh ep m.tracks.place;
      };
      done = λ p lt. moved_done width w h y old cur held placed from here wanted p hy lh ew ef m lt;
      moved = λ x p r hx hp e. moved_moved width w h y old cur new held placed from here wanted x p r le hy hf lh ey ef m s hx hp e;
      kept = λ x row hx out.
          s.kept x row hx
          (λ q. elim (cases_lt x w) [ inl lt ↦ absurd (omega (arith, out lt)) | inr ge ↦ ge ])
          (λ q. elim (cases_lt x w) [ inl lt ↦ absurd (omega (arith, out lt)) | inr ge ↦ ge ])
          ∙ m.kept x row hx out;
    }

pub moved_all : (width w h n : ℕ) (old cur held placed : List ℤ) → 0 < width → h ≤ n →
    RowsMoved width w h n old cur held placed →
    cur ≡ columns split width w h old
moved_all width w h n old cur held placed some le m =
    columns_from split width w h old cur some m.size
    (λ x y hx hy.
    let low : source_of h y < h = source_below h y hy in
    let there : at (split (column width h old x)) y
    ≡ at (column width h old x) (source_of (length (column width h old x)) y) =
    split-at (column width h old x) y (rw (length-column width h old x) hy) in
    let size : source_of (length (column width h old x)) y ≡ source_of h y =
    ap (λ (n : ℕ). source_of n y) (length-column width h old x) in
    m.moved x y (source_of h y) hx hy (m.done y (omega arith))
    ∙ (sym (at-column width h old x (source_of h y) low)
    ∙ sym (there ∙ ap (at (column width h old x)) size)))
    (λ x y hx fits out. m.kept x y hx out)

-- ---- the numbers as the code reads and writes them

abbrev pub index : ℤ → ℕ
index z = nat_abs (passed z)

pub index_is : (z : ℤ) (p : ℕ) → z ≡ pos p → p < 4096 → index z ≡ p
index_is z p e lt = rw e (ap nat_abs (small p lt))

pub index_read : (z : ℤ) (p : ℕ) → z ≡ pos p → p < 4096 →
    T (non_neg (passed z)) × Fits w64 (index z)
index_read z p e lt = rw (e, small p lt) (tt, record { fits = omega arith })

pub index_written : (z : ℤ) (p : ℕ) → z ≡ pos p → p < 4096 → FitsSigned w32 (pos (index z))
index_written z p e lt = rw (index_is z p e lt) (record { sfits = omega arith })

pub wanted_place : (h y wanted : ℕ) (held placed : List ℤ) → y < h → wanted ≡ source_of h y →
    Tracks h held placed → Placed h wanted held placed
wanted_place h y wanted held placed lt e t = t.place wanted (rw e (source_below h y lt))

pub moved_turn : (width w h y : ℕ) (old cur new held placed : List ℤ) (wanted : ℕ) → w ≤ width →
    y < h → h ≤ 4096 →
    h ≤ length held → h ≤ length placed → wanted ≡ source_of h y →
    RowsMoved width w h y old cur held placed →
    Swapped width y (index (at placed wanted)) w cur new →
    RowsMoved width w h (y + 1) old new
    (set (set held (index (at placed wanted)) (to_z w32 (index (at held y)))) y (to_z w32 wanted))
    (set (set placed (index (at held y)) (to_z w32 (index (at placed wanted)))) wanted (to_z w32 y))
moved_turn width w h y old cur new held placed wanted le hy hh lh lp ew m s =
    let t = wanted_place h y wanted held placed hy ew m.tracks in
    let u = m.tracks.hold y hy in
    let below : wanted < h = rw ew (source_below h y hy) in
    let nw : wanted < 4096 = omega arith in
    let ft : index (at placed wanted) ≡ t.place =
    index_is (at placed wanted) t.place t.is (omega (arith, t.below)) in
    let fu : index (at held y) ≡ u.row = index_is (at held y) u.row u.is (omega (arith, u.below)) in
    let wt : to_z w32 t.place ≡ pos t.place = small t.place (omega (arith, t.below)) in
    let wu : to_z w32 u.row ≡ pos u.row = small u.row (omega (arith, u.below)) in
    rw (ft, fu, wt, wu, small wanted nw, small y (omega arith))
    (moved_step width w h y old cur new held placed t.place u.row wanted le hy lh lp ew t.is u.is m
    (subst (λ (n : ℕ). Swapped width y n w cur new) ft s))
