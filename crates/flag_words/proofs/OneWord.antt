-- The flags of a block after a place learned a bit, or became significant.
use Rattle.std.proofs.Common.{ℕ, zero, suc, ◌+◌, ◌-◌, ◌*◌, ◌/◌, ◌%◌, ◌^◌, ◌<◌, ◌≤◌, ◌≡◌, inl}
use Rattle.std.proofs.Common.{inr, Bool, true, false, not, ◌||◌, ◌&&◌, ltb, List}
use Rattle.std.proofs.Common.{length, get_or, set, refl, sym, ap, ◌∙◌, arith, subst}
use Rattle.std.specs.Prelude.{if◌then◌else◌, nat_le, ◌==◌}
use Rattle.std.proofs.lemmas.Bool.{cases_eq, agree_below_at, lt-ltb, eqb-true}
use Rattle.std.proofs.lemmas.Bool.{ltb-true, ltb-false, le-leb}
use Rattle.std.proofs.lemmas.List.{get_or-set_same, get_or-set_other, length-set}
use Rattle.std.specs.Int.RustNames.{bit_or}
use Rattle.std.proofs.lemmas.Bool.{and_parts}
use Rattle.ebcot_contexts.specs.Cells.{Cell, is_significant, cell_at, number, learn}
use Rattle.ebcot_contexts.specs.Passes.{is_untouched, learned}
use Rattle.flag_words.specs.Words.{row_of, column_of, flag_at, flag_of, IsFlagWord, AreFlags}
use Rattle.flag_words.specs.Words.{IsOpen}
use Rattle.flag_words.proofs.Words.{Shows, word_kept, word_with, Changes}
use Rattle.flag_words.proofs.Masks.{fits, or_changes}

-- a bit that is of significance or of sign, or else of the own column's rows 1 to 4
abbrev kind_at : ℕ → Bool
kind_at k = (ltb k 18 || (k == 18 || k % 3 == 1)) ||
    (column_of k == 1 && ltb 0 (row_of k) && ltb (row_of k) 5)

either : (a b : Bool) → (a || b) ≡ true → (b ≡ true → ⊥) → a ≡ true
either true b e n = refl
either false b e n = absurd (n e)

kinds : (k : ℕ) → k < 32 → ((column_of k ≡ 1) × (0 < row_of k) × (row_of k < 5) → ⊥) →
    (ltb k 18 || (k == 18 || k % 3 == 1)) ≡ true
kinds k l apart =
    either (ltb k 18 || (k == 18 || k % 3 == 1))
    (column_of k == 1 && ltb 0 (row_of k) && ltb (row_of k) 5)
    (agree_below_at kind_at (λ k. true) 32 k refl l)
    (λ e. let ab = and_parts _ _ e in let a = and_parts _ _ ab.0 in
    apart (eqb-true _ _ a.0, ltb-true _ _ a.1, ltb-true _ _ ab.1))

same_if : (a b c s n f t f' t' : Bool) → (a || b) ≡ true
    → (if a then s else if b then n else if c then f else t)
    ≡ (if a then s else if b then n else if c then f' else t')
same_if true b c s n f t f' t' e = refl
same_if false true c s n f t f' t' e = refl
same_if false false c s n f t f' t' e = cc

module _ (w p : ℕ) (cells : List Cell) (i : ℕ) (d : Cell) where
  same_flag : (k : ℕ) → k < 32 → is_significant (cell_at cells i) ≡ is_significant d →
      (cell_at cells i).negative ≡ d.negative
      → ((column_of k ≡ 1) × (0 < row_of k) × (row_of k < 5) → ⊥) →
      flag_of p k (cell_at cells i) ≡ flag_of p k d
  same_flag k l es en apart =
      same_if (ltb k 18) (k == 18 || k % 3 == 1) (k % 3 == 2) _ _ _ _ _ _ (kinds k l apart)
      ∙ (λ j. flag_at k (es j) (en j) (nat_le 2 d.magnitude) (not (is_untouched p d)))

  -- a place whose significance and sign stay: only the word of its own column changes
  pub one_word : (column stripe r n : ℕ) (words : List ℕ) (word word' : ℕ) → r < 4 →
      IsOpen w i column stripe r n cells
      → Changes w p cells i d column stripe (suc r) 1 word word'
      → is_significant (cell_at cells i) ≡ is_significant d →
      (cell_at cells i).negative ≡ d.negative
      → AreFlags w p cells (set words n word) → AreFlags w p (set cells i d) (set words n word')
  one_word column stripe r n words word word' few o changes es en a =
      let long : length words ≡ 340 = sym (length-set words n word) ∙ a.long in
      let ln : n < length words = let e : n ≡ 34 * stripe + column =
      o.index in let lc : column < 33 = o.few in let ls : stripe < 9 =
      o.last in omega (arith, long) in
      record {
        long = length-set words n word' ∙ long;
        each = λ x y lx ly. elim (cases_eq (34 * y + x) n) [
          | inl e ↦
              let ex : x ≡ column = at_x x y lx e o in
              let ey : y ≡ stripe = at_y x y lx e o in
              subst (λ (v : ℕ). IsFlagWord w p (set cells i d) v y
              (get_or (set words n word') (34 * y + v) 0)) (sym ex)
              (subst (λ (v : ℕ). IsFlagWord w p (set cells i d) column v
              (get_or (set words n word') (34 * v + column) 0)) (sym ey)
              (subst (λ (v : ℕ). IsFlagWord w p (set cells i d) column stripe
              (get_or (set words n word') v 0)) o.index
              (subst (IsFlagWord w p (set cells i d) column stripe)
              (sym (get_or-set_same words n word' 0 ln))
              (word_with w p cells i d column stripe (suc r) 1 word word' o.some o.inside
              (shows o) changes
              (subst (IsFlagWord w p cells column stripe) (get_or-set_same words n word 0 ln)
              (subst (λ (v : ℕ). IsFlagWord w p cells column stripe (get_or (set words n word) v 0))
              (sym o.index)
              (a.each column stripe (let lc : column < 33 = o.few in omega arith)
              (let ls : stripe < 9 = o.last in omega arith))))))))
          | inr e ↦
              subst (IsFlagWord w p (set cells i d) x y)
              (sym (get_or-set_other words n (34 * y + x) word' 0 e))
              (word_kept w p cells i d x y (get_or words (34 * y + x) 0) o.some o.inside
              (λ k l at. same_flag k l es en
              (λ own. e (elsewhere x y (row_of k) (column_of k) own at o)))
              (subst (IsFlagWord w p cells x y) (get_or-set_other words n (34 * y + x) word 0 e)
              (a.each x y lx ly)))
        ];
      }
    where
      at_x : (x y : ℕ) → x < 34 → 34 * y + x ≡ n → IsOpen w i column stripe r n cells → x ≡ column
      at_x x y lx e o = let f : n ≡ 34 * stripe + column = o.index in let lc : column < 33 =
          o.few in omega arith

      at_y : (x y : ℕ) → x < 34 → 34 * y + x ≡ n → IsOpen w i column stripe r n cells → y ≡ stripe
      at_y x y lx e o = let f : n ≡ 34 * stripe + column = o.index in let lc : column < 33 =
          o.few in omega arith

      shows : IsOpen w i column stripe r n cells → Shows w p cells i d column stripe (suc r) 1
      shows o = let ex : column ≡ suc (i % w) =
          o.place.column_is in let ey : 4 * stripe + r ≡ i / w + 4 =
          o.place.row_is in (omega arith, omega arith)

      elsewhere : (x y v u : ℕ) → (u ≡ 1) × (0 < v) × (v < 5) → Shows w p cells i d x y v u →
          IsOpen w i column stripe r n cells → 34 * y + x ≡ n
      elsewhere x y v u own at o =
          let ex : column ≡ suc (i % w) = o.place.column_is in
          let ey : 4 * stripe + r ≡ i / w + 4 = o.place.row_is in
          let en : n ≡ 34 * stripe + column = o.index in
          let u1 : u ≡ 1 = own.0 in
          let v0 : 0 < v = own.1 in
          let v5 : v < 5 = own.2 in
          let ax : x + u - 1 ≡ suc (i % w) = at.0 in
          let ay : 4 * y + v - 4 ≡ suc (i / w) = at.1 in
          let xx : x ≡ column = omega arith in
          let yy : y ≡ stripe = omega arith in
          omega arith

abbrev pub touch_mask : ℕ → ℕ
touch_mask r = 1 * 2 ^ (21 + 3 * r) % 4294967296

abbrev pub refine_mask : ℕ → ℕ
refine_mask r = 3 * 2 ^ (20 + 3 * r) % 4294967296

-- what holds of each of two, and of three bits
pub two : (f : Bool → Bool → Bool) →
    (f true true && f true false && f false true && f false false) ≡ true → (a b : Bool) →
    f a b ≡ true
two f e true true = (and_parts _ _ (and_parts _ _ (and_parts _ _ e).0).0).0
two f e true false = (and_parts _ _ (and_parts _ _ (and_parts _ _ e).0).0).1
two f e false true = (and_parts _ _ (and_parts _ _ e).0).1
two f e false false = (and_parts _ _ e).1

abbrev all_two : (Bool → Bool → Bool) → Bool
all_two f = f true true && f true false && f false true && f false false

three : (f : Bool → Bool → Bool → Bool) → (all_two (f true) && all_two (f false)) ≡ true →
    (a b c : Bool) → f a b c ≡ true
three f e true b c = two (f true) (and_parts _ _ e).0 b c
three f e false b c = two (f false) (and_parts _ _ e).1 b c

touch_fits : (r : ℕ) → r < 4 → (n t : Bool) →
    fits (suc r) 1 (touch_mask r) false n false t false n false true ≡ true
touch_fits zero l n t = two (λ n t. fits 1 1
    (touch_mask 0) false n false t false n false true) refl n t
touch_fits (suc zero) l n t = two
    (λ n t. fits 2 1 (touch_mask 1) false n false t false n false true) refl n t
touch_fits (suc (suc zero)) l n t =
    two (λ n t. fits 3 1 (touch_mask 2) false n false t false n false true) refl n t
touch_fits (suc (suc (suc zero))) l n t =
    two (λ n t. fits 4 1 (touch_mask 3) false n false t false n false true) refl n t
touch_fits (suc (suc (suc (suc r)))) l n t = absurd (omega arith)

refine_fits : (r : ℕ) → r < 4 → (n f t : Bool) →
    fits (suc r) 1 (refine_mask r) true n f t true n true true ≡ true
refine_fits zero l n f t = three
    (λ n f t. fits 1 1 (refine_mask 0) true n f t true n true true) refl n f t
refine_fits (suc zero) l n f t =
    three (λ n f t. fits 2 1 (refine_mask 1) true n f t true n true true) refl n f t
refine_fits (suc (suc zero)) l n f t =
    three (λ n f t. fits 3 1 (refine_mask 2) true n f t true n true true) refl n f t
refine_fits (suc (suc (suc zero))) l n f t =
    three (λ n f t. fits 4 1 (refine_mask 3) true n f t true n true true) refl n f t
refine_fits (suc (suc (suc (suc r)))) l n f t = absurd (omega arith)

pub zero_of : (m : ℕ) → ltb 0 m ≡ false → m ≡ 0
zero_of m e = let l : m ≤ 0 = ltb-false 0 m e in omega arith

some_of : (m : ℕ) → ltb 0 m ≡ true → 0 < m
some_of m e = ltb-true 0 m e

-- untouched in plane p is no place with p unknown planes
pub touched_at : (p : ℕ) → not (p == suc p) ≡ true
touched_at p = by (p == suc p) refl
  where
    by : (t : Bool) → (p == suc p) ≡ t → not t ≡ true
    by true e = let f : p ≡ suc p = eqb-true p (suc p) e in absurd (omega arith)
    by false e = refl

-- a place learned a bit of 0 and stays insignificant
pub touch_kept : (w p i column stripe r n : ℕ) (cells : List Cell) (words : List ℕ) (word : ℕ) →
    r < 4 → IsOpen w i column stripe r n cells
    → is_significant (cell_at cells i) ≡ false → AreFlags w p cells (set words n word)
    → AreFlags w p (learned p false i cells) (set words n (bit_or word (touch_mask r)))
touch_kept w p i column stripe r n cells words word l o none a =
    let c : Cell = cell_at cells i in
    let z : c.magnitude ≡ 0 = zero_of c.magnitude none in
    let twice : 2 * c.magnitude + 0 ≡ 0 = omega (arith, z) in
    let still : is_significant (learn p false c) ≡ false = ap (λ (m : ℕ). ltb 0 m) twice in
    let few : nat_le 2 c.magnitude ≡ false = ap (λ (m : ℕ). nat_le 2 m) z in
    let few' : nat_le 2 (2 * c.magnitude + 0) ≡ false = ap (λ (m : ℕ). nat_le 2 m) twice in
    one_word w p cells i (learn p false c) column stripe r n words word
    (bit_or word (touch_mask r)) l o
    (or_changes w p cells i (learn p false c) column stripe (suc r) 1 word
    (touch_mask r) false c.negative false (not (is_untouched p c)) false c.negative false true
    (touch_fits r l c.negative (not (is_untouched p c)))
    (record { significant = none; negative = refl; refined = few; touched = refl })
    (record { significant = still; negative = refl; refined = few'; touched = touched_at p }))
    (none ∙ sym still) refl a

-- a significant place learned a bit
pub refine_kept : (w p i column stripe r n : ℕ) (cells : List Cell) (words : List ℕ) (word : ℕ)
    (b : Bool) → r < 4 → IsOpen w i column stripe r n cells
    → is_significant (cell_at cells i) ≡ true → AreFlags w p cells (set words n word)
    → AreFlags w p (learned p b i cells) (set words n (bit_or word (refine_mask r)))
refine_kept w p i column stripe r n cells words word b l o some a =
    let c : Cell = cell_at cells i in
    let s : 0 < c.magnitude = some_of c.magnitude some in
    let more : 2 ≤ 2 * c.magnitude + number b = omega arith in
    let still : is_significant (learn p b c) ≡ true =
    lt-ltb 0 (2 * c.magnitude + number b) (omega arith) in
    one_word w p cells i (learn p b c) column stripe r n words word
    (bit_or word (refine_mask r)) l o
    (or_changes w p cells i (learn p b c) column stripe (suc r) 1 word
    (refine_mask r) true c.negative (nat_le 2 c.magnitude)
    (not (is_untouched p c)) true c.negative true true
    (refine_fits r l c.negative (nat_le 2 c.magnitude) (not (is_untouched p c)))
    (record { significant = some; negative = refl; refined = refl; touched = refl })
    (record {
      significant = still;
      negative = refl;
      refined =
          le-leb 2 (2 * c.magnitude + number b) more;
      touched = touched_at p;
    }))
    (some ∙ sym still) refl a
