-- What a cell shows, before and after it learns a bit.
use Rattle.std.proofs.Common.{ℕ, zero, suc, ◌+◌, ◌*◌, ◌/◌, ◌%◌, ◌^◌, ◌<◌, ◌≤◌, ◌≡◌, ◌⊎◌, inl, inr}
use Rattle.std.proofs.Common.{Bool, true, false, ◌&&◌, eqb, ltb, List, length, set, refl, sym, ap}
use Rattle.std.proofs.Common.{◌∙◌, arith, subst}
use Rattle.std.proofs.lemmas.Bool.{lt-ltb, eqb-true, eqb-false, cases_eq, ltb-true, ltb-false}
use Rattle.std.proofs.lemmas.Nat.{shr-shr}
use Rattle.std.proofs.lemmas.List.{get_or-set_same, get_or-set_other, length-set}
use Rattle.ebcot_contexts.specs.Cells.{Cell, fresh, is_significant, cell_at, coef_at, bit_of}
use Rattle.ebcot_contexts.specs.Cells.{number, learn, become_significant, Shows, AllShow, IsPlain}

halves : (m p : ℕ) → m / 2 ^ suc p ≡ m / 2 ^ p / 2
halves m p = let e : suc p ≡ p + 1 = omega arith in ap (λ (n : ℕ). m / 2 ^ n) e
    ∙ sym (shr-shr m p 1)

-- an odd and an even number from its half
joined : (q k : ℕ) (b : Bool) → k ≡ q / 2 → b ≡ eqb (q % 2) 1 → 2 * k + number b ≡ q
joined q k true e f = let o : q % 2 ≡ 1 = eqb-true _ _ (sym f) in omega arith
joined q k false e f = let o : q % 2 ≡ 1 → ⊥ = eqb-false _ _ (sym f) in omega arith

half : (q k : ℕ) (b : Bool) → 2 * k + number b ≡ q → k ≡ q / 2
half q k true e = omega arith
half q k false e = omega arith

odd : (q k : ℕ) (b : Bool) → 2 * k + number b ≡ q → b ≡ eqb (q % 2) 1
odd q k true e = let o : q % 2 ≡ 1 = omega arith in rw o refl
odd q k false e = let o : q % 2 ≡ 0 = omega arith in rw o refl

-- a bit that is learned makes no place significant
same_significance : (k : ℕ) (b : Bool) → (ltb 0 k ≡ true) ⊎ (b ≡ false) →
    ltb 0 (2 * k + number b) ≡ ltb 0 k
same_significance zero true (inl h) = absurd (let l : 0 < 0 = ltb-true 0 0 h in omega arith)
same_significance zero true (inr h) = cc
same_significance zero false h = refl
same_significance (suc k) b h = lt-ltb _ _ (omega arith) ∙ sym (lt-ltb 0 (suc k) (omega arith))

-- Learning a bit, where the place was significant or the bit is 0.
pub learn_on : (p : ℕ) (b : Bool) (c : Cell) (m : ℕ × Bool) → c.unknown ≡ suc p →
    (is_significant c ≡ true) ⊎ (b ≡ false)
    → Shows c m → b ≡ bit_of m.0 p → Shows (learn p b c) m
learn_on p b c m u k t e =
    record {
      magnitude = joined (m.0 / 2 ^ p) c.magnitude b
          (t.magnitude ∙ ap (λ (n : ℕ). m.0 / 2 ^ n) u ∙ halves m.0 p) e;
      sign = t.sign ∙ ap (λ (v : Bool). v && m.1) (sym (same_significance c.magnitude b k));
    }

pub learn_back : (p : ℕ) (b : Bool) (c : Cell) (m : ℕ × Bool) → c.unknown ≡ suc p →
    (is_significant c ≡ true) ⊎ (b ≡ false)
    → Shows (learn p b c) m → Shows c m × (b ≡ bit_of m.0 p)
learn_back p b c m u k t = (
  record {
    magnitude = half (m.0 / 2 ^ p) c.magnitude b t.magnitude ∙ sym (halves m.0 p)
        ∙ ap (λ (n : ℕ). m.0 / 2 ^ n) (sym u);
    sign = t.sign ∙ ap (λ (v : Bool). v && m.1) (same_significance c.magnitude b k);
  },
  odd (m.0 / 2 ^ p) c.magnitude b t.magnitude,
)

-- Becoming significant.
pub appear_on : (p : ℕ) (s : Bool) (c : Cell) (m : ℕ × Bool) → c.unknown ≡ suc p
    → Shows c m → true ≡ bit_of m.0 p → s ≡ m.1 → Shows (become_significant p s c) m
appear_on p s c m u t e f =
    record {
      magnitude = joined (m.0 / 2 ^ p) c.magnitude true
          (t.magnitude ∙ ap (λ (n : ℕ). m.0 / 2 ^ n) u ∙ halves m.0 p) e;
      sign = f ∙ ap (λ (v : Bool). v && m.1) (sym (lt-ltb 0 (2 * c.magnitude + 1) (omega arith)));
    }

pub appear_back : (p : ℕ) (s : Bool) (c : Cell) (m : ℕ × Bool) → c.unknown ≡ suc p →
    is_significant c ≡ false → c.negative ≡ false
    → Shows (become_significant p s c) m → Shows c m × (true ≡ bit_of m.0 p) × (s ≡ m.1)
appear_back p s c m u none plain t = (
  record {
    magnitude = half (m.0 / 2 ^ p) c.magnitude true t.magnitude ∙ sym (halves m.0 p)
        ∙ ap (λ (n : ℕ). m.0 / 2 ^ n) (sym u);
    sign = plain ∙ ap (λ (v : Bool). v && m.1) (sym none);
  },
  odd (m.0 / 2 ^ p) c.magnitude true t.magnitude,
  t.sign ∙ ap (λ (v : Bool). v && m.1) (lt-ltb 0 (2 * c.magnitude + 1) (omega arith)),
)

-- One cell of a list is set.
pub set_on : (cells : List Cell) (coefs : List (ℕ × Bool)) (i : ℕ) (x : Cell) → i < length cells
    → AllShow cells coefs → Shows x (coef_at coefs i) → AllShow (set cells i x) coefs
set_on cells coefs i x l all t j =
    elim (cases_eq j i) [
      | inl e ↦ subst (λ (k : ℕ). Shows (cell_at (set cells i x) k) (coef_at coefs k)) (sym e)
          (rw (get_or-set_same cells i x (fresh 0) l) t)
      | inr e ↦ rw (get_or-set_other cells i j x (fresh 0) e) (all j)
    ]

pub set_back : (cells : List Cell) (coefs : List (ℕ × Bool)) (i : ℕ) (x : Cell) → i < length cells
    → AllShow (set cells i x) coefs →
    (Shows x (coef_at coefs i) → Shows (cell_at cells i) (coef_at coefs i)) →
    AllShow cells coefs
set_back cells coefs i x l all t j =
    elim (cases_eq j i) [
      | inl e ↦ subst (λ (k : ℕ). Shows (cell_at cells k) (coef_at coefs k)) (sym e)
          (t (rw (get_or-set_same cells i x (fresh 0) l) at (all i)))
      | inr e ↦ rw (get_or-set_other cells i j x (fresh 0) e) at (all j)
    ]

pub set_there : (cells : List Cell) (coefs : List (ℕ × Bool)) (i : ℕ) (x : Cell) → i < length cells
    → AllShow (set cells i x) coefs → Shows x (coef_at coefs i)
set_there cells coefs i x l all = rw (get_or-set_same cells i x (fresh 0) l) at (all i)

-- the cells of n places, each plain
pub record Sound (n : ℕ) (cells : List Cell) : Type 0 where
  pub long : length cells ≡ n
  pub plain : (i : ℕ) → IsPlain (cell_at cells i)

pub sound_set : (n : ℕ) (cells : List Cell) (i : ℕ) (x : Cell) → i < n → Sound n cells → IsPlain x →
    Sound n (set cells i x)
sound_set n cells i x l s plain =
    let l' : i < length cells = omega (arith, s.long) in
    record {
      long = length-set cells i x ∙ s.long;
      plain = λ j. elim (cases_eq j i) [
        | inl e ↦ subst (λ (k : ℕ). IsPlain (cell_at (set cells i x) k)) (sym e)
            (rw (get_or-set_same cells i x (fresh 0) l') plain)
        | inr e ↦ rw (get_or-set_other cells i j x (fresh 0) e) (s.plain j)
      ];
    }

pub plain_learn : (p : ℕ) (b : Bool) (c : Cell) → (is_significant c ≡ true) ⊎ (b ≡ false) →
    IsPlain c → IsPlain (learn p b c)
plain_learn p b c k h none = h (sym (same_significance c.magnitude b k) ∙ none)

pub plain_appear : (p : ℕ) (s : Bool) (c : Cell) → IsPlain (become_significant p s c)
plain_appear p s c none = absurd
    (let l : 2 * c.magnitude + 1 ≤ 0 = ltb-false 0 (2 * c.magnitude + 1) none in omega arith)
