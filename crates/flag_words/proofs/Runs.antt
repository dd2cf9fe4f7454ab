-- Run mode by the bits of a word.
use Rattle.std.proofs.Common.{ℕ, suc, ◌+◌, ◌-◌, ◌*◌, ◌<◌, ◌≤◌, ◌≡◌, ◌⊎◌, inl, inr}
use Rattle.std.proofs.Common.{Bool, true, false, not, ◌&&◌, ◌||◌, ltb, List, length, refl, sym}
use Rattle.std.proofs.Common.{ap, ◌∙◌, arith}
use Rattle.std.specs.Prelude.{min, bit_and, nat_eq, ◌==◌}
use Rattle.std.specs.Int.{bit_at}
use Rattle.std.proofs.lemmas.Bool.{cases_eq, cases_lt, agree_below_at, eqb-true, eq-eqb, and_parts}
use Rattle.std.proofs.lemmas.Bool.{not-true, ltb-true}
use Rattle.std.proofs.lemmas.List.{get_or_past}
use Rattle.std.proofs.lemmas.Nat.{and_le_r}
use Rattle.std.proofs.lemmas.Nat.Bits.{bit_at_and, bit_at-zero, bit_at-lt, same_from_bits_below}
use Rattle.ebcot_contexts.specs.Cells.{Cell, fresh, is_significant, cell_at, number}
use Rattle.ebcot_contexts.specs.Contexts.{Shape, is_quiet}
use Rattle.ebcot_contexts.specs.Passes.{is_untouched, is_calm}
use Rattle.flag_words.specs.Words.{IsFlagWord, IsIn, IsColumn}
use Rattle.flag_words.specs.Lookups.{neighbours_of}
use Rattle.flag_words.proofs.Around.{own_sig, own_touched, neighbour_bit, middle, neighbours_few}
use Rattle.flag_words.proofs.Quiet.{same_bool, quiet_bits}

zero_bit : (b : Bool) → number b ≡ 0 → b ≡ false
zero_bit true e = absurd (omega arith)
zero_bit false e = refl

not_false : (b : Bool) → not b ≡ false → b ≡ true
not_false true e = refl
not_false false e = sym e

-- the bits in and around the place of row r
module _ (word r : ℕ) where
  pub row_zero : neighbours_of word r ≡ 0 → bit_at word (4 + 3 * r) ≡ 0 → (j : ℕ) → j < 9 →
      bit_at word (3 * r + j) ≡ 0
  row_zero e own j l =
      elim (cases_eq j 4) [
        | inl f ↦ ap (λ (v : ℕ). bit_at word v) (let g : 3 * r + j ≡ 4 + 3 * r = omega arith in g)
            ∙ own
        | inr f ↦ sym (neighbour_bit word r j l f) ∙ ap (λ (v : ℕ). bit_at v j) e ∙ bit_at-zero j
      ]

  pub zero_row : ((j : ℕ) → j < 9 → bit_at word (3 * r + j) ≡ 0) → neighbours_of word r ≡ 0
  zero_row z =
      same_from_bits_below 9 (neighbours_of word r) 0 (neighbours_few word r) (omega arith)
      (λ j l. elim (cases_eq j 4) [
        | inl f ↦ ap (λ (v : ℕ). bit_at (neighbours_of word r) v) f ∙ middle word r
            ∙ sym (bit_at-zero j)
        | inr f ↦ neighbour_bit word r j l f ∙ z j l ∙ sym (bit_at-zero j)
      ])

module _ (s : Shape) (p i column stripe r : ℕ) (cells : List Cell) (word : ℕ) (few : r < 4)
    (at : IsIn s.width i column stripe r) (some : 0 < s.width)
    (is : IsFlagWord s.width p cells column stripe word) where
  pub calm_bits : is_calm s p cells i ≡ true
      → (neighbours_of word r ≡ 0) × (bit_at word (4 + 3 * r) ≡ 0) × (bit_at word (21 + 3 * r) ≡ 0)
  calm_bits e =
      let ab = and_parts _ _ e in
      let a = and_parts _ _ ab.0 in
      let q : nat_eq (neighbours_of word r) 0 ≡ true =
      quiet_bits s p i column stripe r cells word few at some is ∙ ab.1 in (
        eqb-true _ _ q,
        own_sig s.width p i column stripe r cells word few at some is ∙ ap number (not-true _ a.1),
        own_touched s.width p i column stripe r cells word few at some is
            ∙ ap (λ (b : Bool). number (not b)) a.0,
      )

  pub untouched_by : bit_at word (21 + 3 * r) ≡ 0 → is_untouched p (cell_at cells i) ≡ true
  untouched_by e = not_false _ (zero_bit _
      (sym (own_touched s.width p i column stripe r cells word few at some is) ∙ e))

  pub bits_calm : neighbours_of word r ≡ 0 → bit_at word (4 + 3 * r) ≡ 0 →
      bit_at word (21 + 3 * r) ≡ 0 → is_calm s p cells i ≡ true
  bits_calm n o t =
      let q : is_quiet s cells i ≡ true =
      sym (quiet_bits s p i column stripe r cells word few at some is) ∙ eq-eqb _ 0 n in
      let g : is_significant (cell_at cells i) ≡ false =
      zero_bit _ (sym (own_sig s.width p i column stripe r cells word few at some is) ∙ o) in
      λ j. ((untouched_by t) j && not (g j)) && q j

abbrev run_mask : ℕ
run_mask = 0x4923FFFF

-- its bits: the significance of all places, and which rows are touched
abbrev mask_test : ℕ → Bool
mask_test k = ltb k 18 || (k == 21 || (k == 24 || (k == 27 || (k == 30 || bit_at run_mask k == 0))))

pub or_cases : (a b : Bool) → (a || b) ≡ true → (a ≡ true) ⊎ (b ≡ true)
or_cases true b e = inl refl
or_cases false b e = inr e

sig_mask : (k : ℕ) → k < 18 → bit_at run_mask k ≡ 1
sig_mask k l = eqb-true _ _ (agree_below_at (λ k. bit_at run_mask k == 1) (λ k. true) 18 k refl l)

masked : (word : ℕ) → bit_and word run_mask ≡ 0 → (k : ℕ) → bit_at run_mask k ≡ 1 →
    bit_at word k ≡ 0
masked word e k one =
    let b : bit_at word k < 2 = bit_at-lt word k in
    let z : min (bit_at word k) (bit_at run_mask k) ≡ 0 = sym (bit_at_and word run_mask k)
    ∙ ap (λ (v : ℕ). bit_at v k) e ∙ bit_at-zero k in
    least (bit_at word k) (bit_at run_mask k) b one z
  where
    least : (n m : ℕ) → n < 2 → m ≡ 1 → min n m ≡ 0 → n ≡ 0
    least n m l e z = omega arith

run_row : (word r : ℕ) → r < 4 → bit_and word run_mask ≡ 0 → (j : ℕ) → j < 9 →
    bit_at word (3 * r + j) ≡ 0
run_row word r few e j l = masked word e (3 * r + j) (sig_mask (3 * r + j) (omega arith))

none_min : (n m : ℕ) → n ≡ 0 → min n m ≡ 0
none_min n m e = omega arith

mask_min : (n m : ℕ) → m ≡ 0 → min n m ≡ 0
mask_min n m e = omega arith

all_masked : (word : ℕ) → ((j : ℕ) → j < 9 → bit_at word (3 * 0 + j) ≡ 0) →
    ((j : ℕ) → j < 9 → bit_at word (3 * 3 + j) ≡ 0)
    → bit_at word 21 ≡ 0 → bit_at word 24 ≡ 0 → bit_at word 27 ≡ 0 → bit_at word 30 ≡ 0 →
    bit_and word run_mask ≡ 0
all_masked word top bottom a b c d =
    same_from_bits_below 32 (bit_and word run_mask) 0
    (let l : bit_and word run_mask ≤ run_mask = and_le_r word run_mask in omega arith)
    (omega arith)
    (λ k l. bit_at_and word run_mask k
    ∙ at k (or_cases _ _ (agree_below_at mask_test (λ k. true) 32 k refl l))
    ∙ sym (bit_at-zero k))
  where
    low : (k : ℕ) → k < 18 → bit_at word k ≡ 0
    low k l = elim (cases_lt k 9) [
      | inl m ↦ ap (λ (v : ℕ). bit_at word v) (let e : k ≡ 3 * 0 + k = omega arith in e) ∙ top k m
      | inr m ↦ ap (λ (v : ℕ). bit_at word v) (let e : k ≡ 3 * 3 + (k - 9) = omega arith in e)
          ∙ bottom (k - 9) (omega arith)
    ]

    at : (k : ℕ) → (ltb k 18 ≡ true) ⊎
        ((k == 21 || (k == 24 || (k == 27 || (k == 30 || bit_at run_mask k == 0)))) ≡ true)
        → min (bit_at word k) (bit_at run_mask k) ≡ 0
    at k (inl e) = none_min _ _ (low k (ltb-true k 18 e))
    at k (inr e) = elim (or_cases _ _ e) [
      | inl f ↦ none_min _ _ (ap (λ (v : ℕ). bit_at word v) (eqb-true k 21 f) ∙ a)
      | inr f ↦ elim (or_cases _ _ f) [
        | inl g ↦ none_min _ _ (ap (λ (v : ℕ). bit_at word v) (eqb-true k 24 g) ∙ b)
        | inr g ↦ elim (or_cases _ _ g) [
          | inl h ↦ none_min _ _ (ap (λ (v : ℕ). bit_at word v) (eqb-true k 27 h) ∙ c)
          | inr h ↦ elim (or_cases _ _ h) [
            | inl m ↦ none_min _ _ (ap (λ (v : ℕ). bit_at word v) (eqb-true k 30 m) ∙ d)
            | inr m ↦ mask_min _ _ (eqb-true _ _ m)
          ]
        ]
      ]
    ]

module _ (s : Shape) (p column stripe : ℕ) (cells : List Cell) (word : ℕ) (some : 0 < s.width)
    (is : IsFlagWord s.width p cells column stripe word) where
  row_calm : (i r t : ℕ) → r < 4 → IsIn s.width i column stripe r → t ≡ 21 + 3 * r →
      bit_at run_mask t ≡ 1 → bit_and word run_mask ≡ 0 → is_calm s p cells i ≡ true
  row_calm i r t few at et mt e =
      bits_calm s p i column stripe r cells word few at some is
      (zero_row word r (run_row word r few e))
      (ap (λ (v : ℕ). bit_at word v) (let g : 4 + 3 * r ≡ 3 * r + 4 = omega arith in g)
      ∙ run_row word r few e 4 (omega arith))
      (ap (λ (v : ℕ). bit_at word v) (sym et) ∙ masked word e t mt)

  pub run_is : (a b c d : ℕ) → IsColumn s.width column stripe a b c d
      → nat_eq (bit_and word run_mask) 0
      ≡ (is_calm s p cells a && is_calm s p cells b && is_calm s p cells c && is_calm s p cells d)
  run_is a b c d at =
      same_bool _ _
      (λ t. (let e : bit_and word run_mask ≡ 0 = eqb-true _ 0 t in
      λ j.
      (row_calm a 0 21 (omega arith) at.first refl refl e) j &&
      (row_calm b 1 24 (omega arith) at.second refl refl e) j
      && (row_calm c 2 27 (omega arith) at.third refl refl e) j &&
      (row_calm d 3 30 (omega arith) at.fourth refl refl e) j))
      (λ t. (let abc = and_parts _ _ t in
      let ab = and_parts _ _ abc.0 in
      let a_b = and_parts _ _ ab.0 in
      let ka = calm_bits s p a column stripe 0 cells word (omega arith) at.first some is a_b.0 in
      let kb = calm_bits s p b column stripe 1 cells word (omega arith) at.second some is a_b.1 in
      let kc = calm_bits s p c column stripe 2 cells word (omega arith) at.third some is ab.1 in
      let kd = calm_bits s p d column stripe 3 cells word (omega arith) at.fourth some is abc.1 in
      eq-eqb _ 0 (all_masked word (row_zero word 0 ka.0 ka.1)
      (row_zero word 3 kd.0 kd.1) ka.2 kb.2 kc.2 kd.2)))

  -- an untouched place is in the block
  pub run_inside : (i : ℕ) → IsIn s.width i column stripe 3 →
      nat_eq (bit_and word run_mask) 0 ≡ true → i < length cells
  run_inside i at t =
      let e : bit_and word run_mask ≡ 0 = eqb-true _ 0 t in
      let u : is_untouched p (cell_at cells i) ≡ true =
      untouched_by s p i column stripe 3 cells word (omega arith) at some is
      (masked word e 30 refl) in
      elim (cases_lt i (length cells)) [
        | inl l ↦ l
        | inr l ↦ absurd (outside_touched
            (ap (is_untouched p) (sym (get_or_past cells i (fresh 0) l)) ∙ u))
      ]
    where
      outside_touched : is_untouched p (fresh 0) ≡ true → ⊥
      outside_touched e = let f : 0 ≡ suc p = eqb-true 0 (suc p) e in omega arith
