-- The words of a block of which nothing is known, and those of the next plane.
use Rattle.std.proofs.Common.{ℕ, zero, suc, ◌+◌, ◌-◌, ◌*◌, ◌/◌, ◌%◌, ◌<◌, ◌≤◌, ◌≡◌, ◌⊎◌, inl}
use Rattle.std.proofs.Common.{inr, Bool, true, false, not, ◌&&◌, ◌||◌, ltb, leb, List, length}
use Rattle.std.proofs.Common.{get_or, refl, sym, ap, ◌∙◌, arith, subst}
use Rattle.std.specs.Prelude.{if◌then◌else◌, min, max, bit_and, nat_le, ◌==◌}
use Rattle.std.specs.Int.{bit_at}
use Rattle.std.proofs.lemmas.Bool.{cases_lt, agree_below, agree_below_at, eqb-true}
use Rattle.std.proofs.lemmas.Bool.{eq-eqb, eqb-false, lt-ltb, ltb-true, ltb-false, leb-true}
use Rattle.std.proofs.lemmas.Bool.{leb-false, lt-leb, and_parts}
use Rattle.std.proofs.lemmas.List.{get_or_past, get_or-replicate, length-replicate}
use Rattle.std.proofs.lemmas.Nat.Bits.{bit_at_and, bit_at_or, bit_at-lt}
use Rattle.std.proofs.lemmas.Nat.{mul-add-lt, mul-le}
use Rattle.ebcot_contexts.specs.Cells.{Cell, fresh, is_significant, cell_at, number}
use Rattle.ebcot_contexts.specs.Contexts.{Shape, bordered}
use Rattle.ebcot_contexts.specs.Passes.{start, is_untouched}
use Rattle.flag_words.specs.Words.{row_of, column_of, flag_at, flag_of, around}
use Rattle.flag_words.specs.Words.{AreFlags}
use Rattle.flag_words.specs.Blank.{is_beside, is_below, is_outside, blank_word, blank_of, next_of}
use Rattle.flag_words.proofs.Runs.{or_cases}
use Rattle.flag_words.proofs.Neighbours.{all, one}

-- bits that say which rows are touched
abbrev is_touch : ℕ → Bool
is_touch k = not (ltb k 18) && (not (k == 18 || k % 3 == 1) && not (k % 3 == 2))

other_flag : (a b c s n f t t' : Bool) → (not a && (not b && not c)) ≡ false
    → (if a then s else if b then n else if c then f else t)
    ≡ (if a then s else if b then n else if c then f else t')
other_flag true b c s n f t t' e = refl
other_flag false true c s n f t t' e = refl
other_flag false false true s n f t t' e = refl
other_flag false false false s n f t t' e = cc

touch_flag : (a b c s n f t : Bool) → (not a && (not b && not c)) ≡ true →
    (if a then s else if b then n else if c then f else t) ≡ t
touch_flag true b c s n f t e = cc
touch_flag false true c s n f t e = cc
touch_flag false false true s n f t e = cc
touch_flag false false false s n f t e = refl

abbrev touch_test : ℕ → Bool
touch_test k = not (is_touch k) || (column_of k == 1 && ltb 0 (row_of k) && ltb (row_of k) 5)

touch_place : (k : ℕ) → k < 32 → is_touch k ≡ true →
    (column_of k ≡ 1) × (0 < row_of k) × (row_of k < 5)
touch_place k l e = elim (or_cases _ _ (agree_below_at touch_test (λ k. true) 32 k refl l)) [
  | inl f ↦ absurd (let g : false ≡ true = ap not (sym e) ∙ f in cc)
  | inr f ↦
      let ab = and_parts _ _ f in
      let a = and_parts _ _ ab.0 in
      (eqb-true _ _ a.0, ltb-true _ _ a.1, ltb-true _ _ ab.1)
]

abbrev pick : ℕ → Bool → Bool → Bool → Bool → Bool
pick r a b c d = if r == 1 then a else if r == 2 then b else if r == 3 then c else d

abbrev blank_test : Bool → Bool → Bool → Bool → Bool
blank_test a b c d =
    agree_below (λ k. bit_at (blank_word a b c d) k == number
    (flag_at k false false false (pick (row_of k) a b c d))) (λ k. true) 32

every_blank : all (λ a. all (λ b. all (λ c. all (λ d. blank_test a b c d)))) ≡ true
every_blank = refl

blank_bit : (a b c d : Bool) (k : ℕ) → k < 32 →
    bit_at (blank_word a b c d) k ≡ number (flag_at k false false false (pick (row_of k) a b c d))
blank_bit a b c d k l =
    eqb-true _ _
    (agree_below_at (λ k. bit_at (blank_word a b c d) k == number
    (flag_at k false false false (pick (row_of k) a b c d))) (λ k. true) 32 k
    (one (λ d. blank_test a b c d)
    (one (λ c. all (λ d. blank_test a b c d))
    (one (λ b. all (λ c. all (λ d. blank_test a b c d)))
    (one (λ a. all (λ b. all (λ c. all (λ d. blank_test a b c d)))) every_blank a) b) c) d) l)

-- a cell of a block of which nothing is known
either_if : (P : Cell → Type 0) (t : Bool) (x y : Cell) → P x → P y → P (if t then x else y)
either_if P true x y h k = h
either_if P false x y h k = k

start_cell : (P : Cell → Type 0) (s : Shape) (i : ℕ) → P (fresh s.planes) → P (fresh 0) →
    P (cell_at (start s) i)
start_cell P s i h k =
    elim (cases_lt i (s.width * s.height)) [
      | inl l ↦ subst P (sym (get_or-replicate (s.width * s.height) i (fresh s.planes)
          (fresh 0) l)) h
      | inr l ↦ subst P (sym (get_or_past (start s) i (fresh 0)
          (let e : length (start s) ≡ s.width * s.height =
          length-replicate (s.width * s.height) (fresh s.planes) in omega (arith, e)))) k
    ]

start_bordered : (P : Cell → Type 0) (s : Shape) (bx by : ℕ) → P (fresh s.planes) → P (fresh 0) →
    P (bordered s.width (start s) bx by)
start_bordered P s zero by h k = k
start_bordered P s (suc x) zero h k = k
start_bordered P s (suc x) (suc y) h k =
    either_if P (ltb x s.width) (cell_at (start s) (y * s.width + x)) (fresh 0)
    (start_cell P s (y * s.width + x) h k) k

abbrev Flat : Cell → Type 0
Flat c = (is_significant c ≡ false) × (c.negative ≡ false) × (nat_le 2 c.magnitude ≡ false)

flat_flag : (q k : ℕ) (c : Cell) → Flat c →
    flag_of q k c ≡ flag_at k false false false (not (is_untouched q c))
flat_flag q k c f = λ j. flag_at k (f.0 j) (f.1 j) (f.2 j) (not (is_untouched q c))

none_outside : (q : ℕ) → is_untouched q (fresh 0) ≡ false
none_outside q = by (0 == suc q) refl
  where
    by : (t : Bool) → (0 == suc q) ≡ t → t ≡ false
    by true e = absurd (let f : 0 ≡ suc q = eqb-true 0 (suc q) e in omega arith)
    by false e = refl

if_true : (t : Bool) (x y : Cell) → t ≡ true → (if t then x else y) ≡ x
if_true true x y e = refl
if_true false x y e = cc

if_false : (t : Bool) (x y : Cell) → t ≡ false → (if t then x else y) ≡ y
if_false true x y e = cc
if_false false x y e = refl

module _ (s : Shape) (some : 1 ≤ s.planes) where
  abbrev q : ℕ
  q = s.planes - 1

  at_inside : (x y : ℕ) → x < s.width → y < s.height →
      is_untouched q (bordered s.width (start s) (suc x) (suc y)) ≡ true
  at_inside x y lx ly =
      let l : y * s.width + x < s.width * s.height = mul-add-lt y s.width x s.height ly lx in
      ap (is_untouched q) (if_true (ltb x s.width) (cell_at (start s) (y * s.width + x)) (fresh 0)
      (lt-ltb x s.width lx)
      ∙ get_or-replicate (s.width * s.height) (y * s.width + x) (fresh s.planes) (fresh 0) l)
      ∙ eq-eqb s.planes (suc q) (omega arith)

  at_right : (x y : ℕ) → s.width ≤ x → is_untouched q (bordered s.width (start s) (suc x) y) ≡ false
  at_right x zero l = none_outside q
  at_right x (suc y) l = by (ltb x s.width) refl
    where
      by : (t : Bool) → ltb x s.width ≡ t →
          is_untouched q (if t then cell_at (start s) (y * s.width + x) else fresh 0) ≡ false
      by true e = absurd (let m : x < s.width = ltb-true x s.width e in omega arith)
      by false e = none_outside q

  at_below : (bx y : ℕ) → s.height ≤ y →
      is_untouched q (bordered s.width (start s) bx (suc y)) ≡ false
  at_below zero y l = none_outside q
  at_below (suc x) y l =
      either_if (λ c. is_untouched q c ≡ false) (ltb x s.width)
      (cell_at (start s) (y * s.width + x)) (fresh 0)
      (ap (is_untouched q) (get_or_past (start s) (y * s.width + x) (fresh 0)
      (let e : length (start s) ≡ s.width * s.height =
      length-replicate (s.width * s.height) (fresh s.planes) in
      let m : s.width * s.height ≤ s.width * y =
      mul-le s.width s.height s.width y (omega arith) l in
      let c : s.width * y ≡ y * s.width = omega arith in
      omega (arith, e))) ∙ none_outside q)
      (none_outside q)

  at_left : (by : ℕ) → is_untouched q (bordered s.width (start s) 0 by) ≡ false
  at_left by = none_outside q

  at_above : (bx : ℕ) → is_untouched q (bordered s.width (start s) bx 0) ≡ false
  at_above zero = none_outside q
  at_above (suc x) = none_outside q

  parts : (a b c d : Bool) → ((a || b || c) || d) ≡ false →
      (a ≡ false) × (b ≡ false) × (c ≡ false) × (d ≡ false)
  parts false false false false e = (refl, refl, refl, refl)
  parts true b c d e = cc
  parts false true c d e = cc
  parts false false true d e = cc
  parts false false false true e = cc

  four_cases : (a b c d : Bool) → ((a || b || c) || d) ≡ true →
      ((a ≡ true) ⊎ (b ≡ true)) ⊎ ((c ≡ true) ⊎ (d ≡ true))
  four_cases true b c d e = inl (inl refl)
  four_cases false true c d e = inl (inr refl)
  four_cases false false true d e = inr (inl refl)
  four_cases false false false true e = inr (inr refl)
  four_cases false false false false e = cc

  -- what is outside is touched
  edge : (x y r : ℕ) → r < 4 → (t : Bool) → is_outside s.width s.height x y r ≡ t
      → not (is_untouched q (bordered s.width (start s) (x + 1 - 1) (4 * y + suc r - 4))) ≡ t
  edge x y r l true e =
      elim (four_cases (x == 0) (ltb s.width x) (y == 0) (leb (s.height + 4) (4 * y + r)) e) [
        | inl h ↦ elim h [
          | inl f ↦
              let z : x ≡ 0 = eqb-true x 0 f in
              let zz : x + 1 - 1 ≡ 0 = omega arith in
              ap not (ap (λ (v : ℕ). is_untouched q
              (bordered s.width (start s) v (4 * y + suc r - 4))) zz
              ∙ at_left (4 * y + suc r - 4))
          | inr f ↦
              let m : s.width < x = ltb-true s.width x f in
              let zz : x + 1 - 1 ≡ suc (x - 1) = omega arith in
              ap not (ap (λ (v : ℕ). is_untouched q
              (bordered s.width (start s) v (4 * y + suc r - 4))) zz
              ∙ at_right (x - 1) (4 * y + suc r - 4) (omega arith))
        ]
        | inr h ↦ elim h [
          | inl f ↦
              let z : y ≡ 0 = eqb-true y 0 f in
              let zz : 4 * y + suc r - 4 ≡ 0 = omega arith in
              ap not (ap (λ (v : ℕ). is_untouched q (bordered s.width (start s) (x + 1 - 1) v)) zz
              ∙ at_above (x + 1 - 1))
          | inr f ↦
              let m : s.height + 4 ≤ 4 * y + r = leb-true (s.height + 4) (4 * y + r) f in
              let zz : 4 * y + suc r - 4 ≡ suc (4 * y + r - 4) = omega arith in
              ap not (ap (λ (v : ℕ). is_untouched q (bordered s.width (start s) (x + 1 - 1) v)) zz
              ∙ at_below (x + 1 - 1) (4 * y + r - 4) (omega arith))
        ]
      ]
  edge x y r l false e =
      let p = parts (x == 0) (ltb s.width x) (y == 0) (leb (s.height + 4) (4 * y + r)) e in
      let x1 : x ≡ 0 → ⊥ = eqb-false x 0 p.0 in
      let x2 : x ≤ s.width = ltb-false s.width x p.1 in
      let y1 : y ≡ 0 → ⊥ = eqb-false y 0 p.2 in
      let y2 : 4 * y + r < s.height + 4 = leb-false (s.height + 4) (4 * y + r) p.3 in
      let zx : x + 1 - 1 ≡ suc (x - 1) = omega arith in
      let zy : 4 * y + suc r - 4 ≡ suc (4 * y + r - 4) = omega arith in
      ap not (ap (λ (v : ℕ). is_untouched q (bordered s.width (start s) v (4 * y + suc r - 4))) zx
      ∙ ap (λ (v : ℕ). is_untouched q (bordered s.width (start s) (suc (x - 1)) v)) zy
      ∙ at_inside (x - 1) (4 * y + r - 4) (omega arith) (omega arith))

  picked : (x y r : ℕ) → 0 < r → r < 5
      → pick r (is_outside s.width s.height x y 0) (is_outside s.width s.height x y 1)
      (is_outside s.width s.height x y 2) (is_outside s.width s.height x y 3)
      ≡ not (is_untouched q (around s.width (start s) x y r 1))
  picked x y zero lo hi = absurd (omega arith)
  picked x y (suc zero) lo hi = sym (edge x y 0 (omega arith) _ refl)
  picked x y (suc (suc zero)) lo hi = sym (edge x y 1 (omega arith) _ refl)
  picked x y (suc (suc (suc zero))) lo hi = sym (edge x y 2 (omega arith) _ refl)
  picked x y (suc (suc (suc (suc zero)))) lo hi = sym (edge x y 3 (omega arith) _ refl)
  picked x y (suc (suc (suc (suc (suc r))))) lo hi = absurd (omega arith)

  blank_flag : (x y k : ℕ) → k < 32
      → bit_at (blank_word (is_outside s.width s.height x y 0) (is_outside s.width s.height x y 1)
      (is_outside s.width s.height x y 2) (is_outside s.width s.height x y 3)) k
      ≡ number (flag_of q k (around s.width (start s) x y (row_of k) (column_of k)))
  blank_flag x y k l =
      let c : Cell = around s.width (start s) x y (row_of k) (column_of k) in
      let flat : Flat c = start_bordered Flat s (x + column_of k - 1) (4 * y + row_of k - 4)
      (refl, refl, refl) (refl, refl, refl) in
      blank_bit _ _ _ _ k l ∙ ap number (by c (is_touch k) refl ∙ sym (flat_flag q k c flat))
    where
      o : ℕ → Bool
      o r = is_outside s.width s.height x y r

      by : (c : Cell) (t : Bool) → is_touch k ≡ t →
          flag_at k false false false (pick (row_of k) (is_outside s.width s.height x y 0)
          (is_outside s.width s.height x y 1) (is_outside s.width s.height x y 2)
          (is_outside s.width s.height x y 3))
          ≡ flag_at k false false false (not
          (is_untouched q (around s.width (start s) x y (row_of k) (column_of k))))
      by c false e = other_flag (ltb k 18) (k == 18 || k % 3 == 1)
          (k % 3 == 2) false false false _ _ e
      by c true e =
          let at = touch_place k l e in
          ap (flag_at k false false false)
          (picked x y (row_of k) at.1 at.2
          ∙ ap (λ (v : ℕ). not (is_untouched q (around s.width (start s) x y (row_of k) v)))
          (sym at.0))

  pub blank_flags : (words : List ℕ) → length words ≡ 340 →
      ((n : ℕ) → n < 340 → get_or words n 0 ≡ blank_of s.width s.height n)
      → AreFlags s.width q (start s) words
  blank_flags words long each =
      record {
        long = long;
        each = λ x y lx ly k l.
            let n : ℕ = 34 * y + x in
            let ex : n % 34 ≡ x = omega arith in
            let ey : n / 34 ≡ y = omega arith in
            ap (λ (v : ℕ). bit_at v k) (each n (omega arith)
            ∙ (λ j. blank_word (is_outside s.width s.height (ex j) (ey j) 0)
            (is_outside s.width s.height (ex j) (ey j) 1)
            (is_outside s.width s.height (ex j) (ey j) 2)
            (is_outside s.width s.height (ex j) (ey j) 3)))
            ∙ blank_flag x y k l;
      }

  -- a place is untouched in the plane below exactly if it is in the block
  below_by : (p : ℕ) (cells : List Cell) → length cells ≡ s.width * s.height →
      ((i : ℕ) → i < s.width * s.height → (cell_at cells i).unknown ≡ suc p)
      → (i : ℕ) → is_untouched q (cell_at (start s) i) ≡ is_untouched p (cell_at cells i)
  below_by p cells long u i =
      elim (cases_lt i (s.width * s.height)) [
        | inl l ↦
            ap (is_untouched q) (get_or-replicate (s.width * s.height) i (fresh s.planes)
            (fresh 0) l) ∙ eq-eqb s.planes (suc q) (omega arith)
            ∙ sym (eq-eqb (cell_at cells i).unknown (suc p) (u i l))
        | inr l ↦
            ap (is_untouched q) (get_or_past (start s) i (fresh 0)
            (let e : length (start s) ≡ s.width * s.height =
            length-replicate (s.width * s.height) (fresh s.planes) in omega (arith, e)))
            ∙ none_outside q
            ∙ sym (ap (is_untouched p) (get_or_past cells i (fresh 0) (omega (arith, long)))
            ∙ none_outside p)
      ]

  both_if : (p : ℕ) (t : Bool) (x y : Cell) → is_untouched q x ≡ is_untouched p y →
      is_untouched q (if t then x else fresh 0) ≡ is_untouched p (if t then y else fresh 0)
  both_if p true x y e = e
  both_if p false x y e = none_outside q ∙ sym (none_outside p)

  below_bordered : (p : ℕ) (cells : List Cell) →
      ((i : ℕ) → is_untouched q (cell_at (start s) i) ≡ is_untouched p (cell_at cells i))
      → (bx by : ℕ) → is_untouched q (bordered s.width (start s) bx by)
      ≡ is_untouched p (bordered s.width cells bx by)
  below_bordered p cells h zero by = none_outside q ∙ sym (none_outside p)
  below_bordered p cells h (suc x) zero = none_outside q ∙ sym (none_outside p)
  below_bordered p cells h (suc x) (suc y) =
      both_if p (ltb x s.width) (cell_at (start s) (y * s.width + x))
      (cell_at cells (y * s.width + x)) (h (y * s.width + x))

  abbrev kept_mask : ℕ
  kept_mask = 0xB6DFFFFF

  abbrev kept_test : ℕ → Bool
  kept_test k = bit_at kept_mask k == number (not (is_touch k))

  next_bit : (n b m : ℕ) → m ≡ 0 → max (min n m) b ≡ b
  next_bit n b m e = omega arith

  same_bit : (n b m : ℕ) → n < 2 → m ≡ 1 → b ≡ 0 → max (min n m) b ≡ n
  same_bit n b m l e f = omega arith

  pub next_flags : (p : ℕ) (cells : List Cell) (words blank after : List ℕ) →
      AreFlags s.width q (start s) blank
      → length cells ≡ s.width * s.height →
      ((i : ℕ) → i < s.width * s.height → (cell_at cells i).unknown ≡ suc p)
      → length after ≡ 340 → ((n : ℕ) → n < 340 →
      get_or after n 0 ≡ next_of (get_or words n 0) (get_or blank n 0))
      → AreFlags s.width (suc p) cells words → AreFlags s.width p cells after
  next_flags p cells words blank after ab lc u la each aw =
      record {
        long = la;
        each = λ x y lx ly k l.
            let n : ℕ = 34 * y + x in
            let c : Cell = around s.width cells x y (row_of k) (column_of k) in
            let d : Cell = around s.width (start s) x y (row_of k) (column_of k) in
            let here : is_untouched q d ≡ is_untouched p c =
            below_bordered p cells (below_by p cells lc u) (x + column_of k - 1)
            (4 * y + row_of k - 4) in
            ap (λ (v : ℕ). bit_at v k) (each n (omega arith))
            ∙ bit_at_or (bit_and (get_or words n 0) kept_mask) (get_or blank n 0) k
            ∙ ap (λ (v : ℕ). max v (bit_at (get_or blank n 0) k))
            (bit_at_and (get_or words n 0) kept_mask k)
            ∙ at k l c d (bit_at (get_or words n 0) k) (bit_at (get_or blank n 0) k)
            (bit_at-lt (get_or words n 0) k) (aw.each x y lx ly k l) (ab.each x y lx ly k l)
            (start_bordered Flat s (x + column_of k - 1) (4 * y + row_of k - 4) (refl, refl, refl)
            (refl, refl, refl)) here (is_touch k) refl;
      }
    where
      at : (k : ℕ) → k < 32 → (c d : Cell) (n b : ℕ) → n < 2 → n ≡ number (flag_of (suc p) k c) →
          b ≡ number (flag_of q k d) → Flat d
          → is_untouched q d ≡ is_untouched p c → (t : Bool) → is_touch k ≡ t →
          max (min n (bit_at kept_mask k)) b ≡ number (flag_of p k c)
      at k l c d n b few en eb flat here true e =
          let m : bit_at kept_mask k ≡ number (not (is_touch k)) =
          eqb-true _ _ (agree_below_at kept_test (λ k. true) 32 k refl l) in
          next_bit n b (bit_at kept_mask k) (m ∙ ap (λ (v : Bool). number (not v)) e)
          ∙ eb ∙ ap number (touch_flag (ltb k 18) (k == 18 || k % 3 == 1) (k % 3 == 2) _ _ _
          (not (is_untouched q d)) e
          ∙ ap not here ∙ sym (touch_flag (ltb k 18) (k == 18 || k % 3 == 1) (k % 3 == 2)
          (is_significant c) c.negative (nat_le 2 c.magnitude) (not (is_untouched p c)) e))
      at k l c d n b few en eb flat here false e =
          let m : bit_at kept_mask k ≡ number (not (is_touch k)) =
          eqb-true _ _ (agree_below_at kept_test (λ k. true) 32 k refl l) in
          same_bit n b (bit_at kept_mask k) few (m ∙ ap (λ (v : Bool). number (not v)) e)
          (eb ∙ ap number (flat_flag q k d flat
          ∙ other_flag (ltb k 18) (k == 18 || k % 3 == 1) (k % 3 == 2) false false false
          (not (is_untouched q d)) false e ∙ none k))
          ∙ en ∙ ap number (other_flag (ltb k 18) (k == 18 || k % 3 == 1) (k % 3 == 2)
          (is_significant c) c.negative (nat_le 2 c.magnitude) (not (is_untouched (suc p) c))
          (not (is_untouched p c)) e)
        where
          by : (a b c : Bool) →
              (if a then false else if b then false else if c then false else false) ≡ false
          by true b c = refl
          by false true c = refl
          by false false true = refl
          by false false false = refl

          none : (k : ℕ) → flag_at k false false false false ≡ false
          none k = by (ltb k 18) (k == 18 || k % 3 == 1) (k % 3 == 2)

-- the word of a column by whether it is beside the block
abbrev blank_by : (h n : ℕ) → Bool → ℕ
blank_by h n beside =
    blank_word (beside || is_below h (n / 34) 0) (beside || is_below h (n / 34) 1)
    (beside || is_below h (n / 34) 2) (beside || is_below h (n / 34) 3)

-- beside the block all rows are outside
pub beside_blank : (w h n : ℕ) → is_beside w (n % 34) (n / 34) ≡ true →
    0x49200000 ≡ blank_of w h n
beside_blank w h n e = sym (ap (blank_by h n) e)

-- elsewhere those below it are
pub below_blank : (w h n : ℕ) → is_beside w (n % 34) (n / 34) ≡ false →
    blank_of w h n ≡ blank_word (is_below h (n / 34) 0) (is_below h (n / 34) 1)
    (is_below h (n / 34) 2) (is_below h (n / 34) 3)
below_blank w h n e = ap (blank_by h n) e

-- and none, where all four are in the block
pub inside_blank : (w h n : ℕ) → is_beside w (n % 34) (n / 34) ≡ false → 4 * (n / 34) ≤ h →
    0 ≡ blank_of w h n
inside_blank w h n e l =
    sym (below_blank w h n e
    ∙ (λ i. blank_word (row 0 (omega arith) i) (row 1 (omega arith) i)
    (row 2 (omega arith) i) (row 3 (omega arith) i)))
  where
    row : (r : ℕ) → r < 4 → is_below h (n / 34) r ≡ false
    row r few = lt-leb (h + 4) (4 * (n / 34) + r) (omega arith)
