-- One place: what is known and coded after it.
use Rattle.std.proofs.Common.{ℕ, suc, ◌+◌, ◌-◌, ◌*◌, ◌/◌, ◌%◌, ◌^◌, ◌<◌, ◌≤◌, ◌≡◌, ◌⊎◌, inl, inr}
use Rattle.std.proofs.Common.{Bool, true, false, not, ◌&&◌, nat_eq, bit_and, List, []}
use Rattle.std.proofs.Common.{◌∷◌, ◌++◌, length, get_or, set, refl, sym, ap, ◌∙◌, subst, arith}
use Rattle.std.proofs.Common.{append_assoc, append-nil}
use Rattle.std.proofs.Math.Bool.{beq}
use Rattle.std.specs.Int.{bit_at}
use Rattle.std.proofs.lemmas.Bool.{cases_eq, cases_lt, eqb-true, lt-ltb, ltb-true, ltb-false}
use Rattle.std.proofs.lemmas.Bool.{false≢true}
use Rattle.std.proofs.lemmas.Nat.{and_mask, mod-mul-add}
use Rattle.std.proofs.lemmas.Bool.{ne_eqb}
use Rattle.std.proofs.lemmas.List.{get_or-set_same, get_or-set_other, get_or_past, length-set}
use Rattle.std.proofs.lemmas.List.{set-get_or}
use Rattle.std.proofs.lemmas.Nat.Bits.{shr_and_one, bit_at_cat_low}
use Rattle.mq_coder.specs.Encoder.{Stands}
use Rattle.ebcot_passes.specs.PassCoder.{PassCoder}
use Rattle.ebcot_contexts.specs.Cells.{Cell, fresh, cell_at, coef_at, bit_of, number}
use Rattle.ebcot_contexts.specs.Cells.{is_significant, learn, become_significant, IsPlain}
use Rattle.ebcot_contexts.specs.Cells.{Shows, AllShow}
use Rattle.ebcot_contexts.specs.Contexts.{Shape, sign_at}
use Rattle.ebcot_contexts.specs.Asks.{Asks, done, symbols, outcome, flipped}
use Rattle.ebcot_contexts.specs.Passes.{Kind, is_untouched, learned, sign_asked, after_bit, place}
use Rattle.ebcot_contexts.specs.Passes.{is_coded, coded_in, visit}
use Rattle.ebcot_contexts.proofs.Shown.{set_on, appear_on, learn_on}
use Rattle.distortion_sums.specs.Places.{IsNext, IsHeld}
use Rattle.distortion_sums.proofs.Steps.{zero_takes}
use Rattle.flag_words.specs.Words.{AreFlags, IsFlagWord, IsOpen}
use Rattle.ebcot_passes.specs.Coding.{word_of, AreCoefs, IsRow, Holds, HoldsAfter}

-- a place of the block, where its flags may change
pub open_row : (w i column stripe r n j : ℕ) (cells : List Cell) → IsRow w i column stripe r n j →
    i < length cells
    → IsOpen w i column stripe r n cells
open_row w i column stripe r n j cells h inside =
    record {
      place = h.place;
      index = h.index;
      some = h.some;
      few = h.few;
      last = h.last;
      inside =
          inside;
    }

-- the word of the place's own column
pub own_word : (w p i column stripe r n j : ℕ) (cells : List Cell) (words : List ℕ) (word : ℕ) →
    IsRow w i column stripe r n j
    → AreFlags w p cells (set words n word) → IsFlagWord w p cells column stripe word
own_word w p i column stripe r n j cells words word h a =
    let few = h.few in
    let last = h.last in
    let index = h.index in
    let long : length words ≡ 340 = sym (length-set words n word) ∙ a.long in
    let is : get_or (set words n word) (34 * stripe + column) 0 ≡ word =
    subst (λ (k : ℕ). get_or (set words n word) k 0 ≡ word) index
    (get_or-set_same words n word 0 (omega arith)) in
    subst (λ (v : ℕ). IsFlagWord w p cells column stripe v) is
    (a.each column stripe (omega arith) (omega arith))

-- the words of the columns beside it
pub word_before : (w p i column stripe r n j : ℕ) (cells : List Cell) (words : List ℕ) (word : ℕ) →
    IsRow w i column stripe r n j
    → 1 ≤ column → AreFlags w p cells (set words n word) →
    IsFlagWord w p cells (column - 1) stripe (get_or words (n - 1) 0)
word_before w p i column stripe r n j cells words word h some a =
    let few = h.few in
    let last = h.last in
    let index = h.index in
    let at : 34 * stripe + (column - 1) ≡ n - 1 = omega arith in
    let is : get_or (set words n word) (34 * stripe + (column - 1)) 0 ≡ get_or words (n - 1) 0 =
    ap (λ (k : ℕ). get_or (set words n word) k 0) at
    ∙ get_or-set_other words n (n - 1) word 0 (λ e. omega arith) in
    subst (λ (v : ℕ). IsFlagWord w p cells (column - 1) stripe v) is
    (a.each (column - 1) stripe (omega arith) (omega arith))

pub word_after : (w p i column stripe r n j : ℕ) (cells : List Cell) (words : List ℕ) (word : ℕ) →
    IsRow w i column stripe r n j
    → AreFlags w p cells (set words n word) →
    IsFlagWord w p cells (column + 1) stripe (get_or words (n + 1) 0)
word_after w p i column stripe r n j cells words word h a =
    let few = h.few in
    let last = h.last in
    let index = h.index in
    let at : 34 * stripe + (column + 1) ≡ n + 1 = omega arith in
    let is : get_or (set words n word) (34 * stripe + (column + 1)) 0 ≡ get_or words (n + 1) 0 =
    ap (λ (k : ℕ). get_or (set words n word) k 0) at
    ∙ get_or-set_other words n (n + 1) word 0 (λ e. omega arith) in
    subst (λ (v : ℕ). IsFlagWord w p cells (column + 1) stripe v) is
    (a.each (column + 1) stripe (omega arith) (omega arith))

-- what a pass finds of a place that it is to code
pub next_place : (coefs : List (ℕ × Bool)) (s : Shape) (p i : ℕ) (cells : List Cell)
    (l : List (ℕ × Bool)) (words : List ℕ) (coder : PassCoder)
    → Holds coefs s p cells l words coder → i < length cells → (cell_at cells i).unknown ≡ suc p
    → IsNext coefs cells p i
next_place coefs s p i cells l words coder h inside open_place =
    let long = h.long in
    let whole = h.whole in
    record { inside = inside; there = omega arith; untouched = open_place }

known_bits : (coefs : List (ℕ × Bool)) (cells : List Cell) (p i : ℕ) → IsNext coefs cells p i →
    AllShow cells coefs → (cell_at cells i).magnitude ≡ (coef_at coefs i).0 / 2 ^ suc p
known_bits coefs cells p i next shown =
    (shown i).magnitude ∙ ap (λ (u : ℕ). (coef_at coefs i).0 / 2 ^ u) next.untouched

-- an insignificant place has no bit of 1 above the plane
pub no_bits : (coefs : List (ℕ × Bool)) (cells : List Cell) (p i : ℕ) → IsNext coefs cells p i →
    AllShow cells coefs → is_significant (cell_at cells i) ≡ false →
    (coef_at coefs i).0 / 2 ^ suc p ≡ 0
no_bits coefs cells p i next shown none =
    let few : (cell_at cells i).magnitude ≤ 0 = ltb-false 0 (cell_at cells i).magnitude none in
    let is = known_bits coefs cells p i next shown in
    omega arith

pub some_bits : (coefs : List (ℕ × Bool)) (cells : List Cell) (p i : ℕ) → IsNext coefs cells p i →
    AllShow cells coefs → is_significant (cell_at cells i) ≡ true →
    0 < (coef_at coefs i).0 / 2 ^ suc p
some_bits coefs cells p i next shown some =
    let many : 0 < (cell_at cells i).magnitude = ltb-true 0 (cell_at cells i).magnitude some in
    let is = known_bits coefs cells p i next shown in
    omega arith

-- a bit of 0 of an insignificant place takes nothing from the distortion
pub zero_held : (coefs : List (ℕ × Bool)) (cells : List Cell) (p i d : ℕ) → IsNext coefs cells p i →
    AllShow cells coefs → is_significant (cell_at cells i) ≡ false →
    bit_of (coef_at coefs i).0 p ≡ false → IsHeld d coefs cells →
    IsHeld d coefs (learned p false i cells)
zero_held coefs cells p i d next shown none bit held =
    held ∙ ap (λ (v : ℕ). v % 2 ^ 64)
    (sym (zero_takes coefs cells p i next (no_bits coefs cells p i next shown none) bit))

-- the magnitude in a coefficient's word
pub word_magnitude : (coef : ℕ) (c : ℕ × Bool) → coef ≡ word_of c → c.0 < 0x80000000 →
    c.0 ≡ bit_and coef 0x7FFFFFFF
word_magnitude coef c is few =
    let e : coef ≡ number c.1 * 2 ^ 31 + c.0 = is ∙ (omega arith) in
    let m : bit_and coef 0x7FFFFFFF ≡ coef % 2 ^ 31 = and_mask coef 31 in
    sym (m ∙ ap (λ (v : ℕ). v % 2 ^ 31) e ∙ mod-mul-add (number c.1) (2 ^ 31) c.0 few)

-- a place with a new cell
pub holds_set : (coefs : List (ℕ × Bool)) (s : Shape) (p i : ℕ) (x : Cell) (cells : List Cell)
    (old l : List (ℕ × Bool))
    (before words : List ℕ) (start coder : PassCoder)
    → i < length cells → IsPlain x → Shows x (coef_at coefs i)
    → Holds coefs s p cells old before start
    → AreFlags s.width p (set cells i x) words → Stands coder.encoder l
    → IsHeld coder.distortion coefs (set cells i x)
    → Holds coefs s p (set cells i x) l words coder
holds_set coefs s p i x cells old l before words start coder inside plain shows h flags stands held
    =
    record {
      long = length-set cells i x ∙ h.long;
      whole = h.whole;
      shown = set_on cells coefs i x inside h.shown shows;
      held = held;
      plain = λ k. elim (cases_eq k i) [
        | inl e ↦ subst (λ (v : ℕ). IsPlain (cell_at (set cells i x) v)) (sym e)
            (subst IsPlain (sym (get_or-set_same cells i x (fresh 0) inside)) plain)
        | inr other ↦ subst IsPlain (sym (get_or-set_other cells i k x (fresh 0) other)) (h.plain k)
      ];
      flags = flags;
      stands = stands;
    }

-- Signs.

flipped_by : (flip negative : Bool) → not (beq flip negative) ≡ flipped flip negative
flipped_by true true = refl
flipped_by true false = refl
flipped_by false true = refl
flipped_by false false = refl

flipped_twice : (flip b : Bool) → flipped flip (flipped flip b) ≡ b
flipped_twice true true = refl
flipped_twice true false = refl
flipped_twice false b = refl

significant_plain : (p : ℕ) (b : Bool) (c : Cell) → IsPlain (become_significant p b c)
significant_plain p b c = λ h. absurd
    (false≢true (sym h ∙ lt-ltb 0 (2 * c.magnitude + 1) (omega arith)))

pub sign_holds : (s : Shape) (p i : ℕ) (coefs l : List (ℕ × Bool)) (cells : List Cell)
    (before words : List ℕ) (start coder : PassCoder)
    (at : ℕ × Bool) (negative : Bool) → IsNext coefs cells p i → negative ≡ (coef_at coefs i).1
    → bit_of (coef_at coefs i).0 p ≡ true → at ≡ sign_at s cells i
    → Holds coefs s p cells l before start
    → AreFlags s.width p (set cells i (become_significant p negative (cell_at cells i))) words
    → Stands coder.encoder (l ++ (at.0, not (beq at.1 negative)) ∷ [])
    → IsHeld coder.distortion coefs
    (set cells i (become_significant p negative (cell_at cells i)))
    → HoldsAfter coefs s p (sign_asked s p i cells) l words coder
unfolding sign_asked
sign_holds s p i coefs l cells before words start coder at negative next neg one is h flags stands
    held =
    let m : Bool = (coef_at coefs i).1 in
    let flip : Bool = (sign_at s cells i).1 in
    let bit : (at.0, not (beq at.1 negative)) ≡ ((sign_at s cells i).0, flipped flip m) =
    ap (λ (a : ℕ × Bool). (a.0, not (beq a.1 negative))) is
    ∙ ap (λ (b : Bool). ((sign_at s cells i).0, b))
    (flipped_by flip negative ∙ ap (flipped flip) neg) in
    let cell : negative ≡ flipped flip (flipped flip m) = neg ∙ sym (flipped_twice flip m) in
    holds_set coefs s p i (become_significant p (flipped flip (flipped flip m)) (cell_at cells i))
    cells l
    (l ++ ((sign_at s cells i).0, flipped flip m) ∷ []) before words start coder next.inside
    (significant_plain p (flipped flip (flipped flip m)) (cell_at cells i))
    (appear_on p (flipped flip (flipped flip m)) (cell_at cells i) (coef_at coefs i) next.untouched
    (h.shown i) (sym one) (flipped_twice flip m)) h
    (subst (λ (b : Bool). AreFlags s.width p
    (set cells i (become_significant p b (cell_at cells i))) words) cell flags)
    (subst (λ (a : ℕ × Bool). Stands coder.encoder (l ++ a ∷ [])) bit stands)
    (subst (λ (b : Bool). IsHeld coder.distortion coefs
    (set cells i (become_significant p b (cell_at cells i)))) cell held)

-- The bits of a coefficient's word.

pub word_bit : (coef p : ℕ) (c : ℕ × Bool) → coef ≡ word_of c → p < 20 →
    nat_eq (bit_and (coef / 2 ^ p) 1) 1 ≡ bit_of c.0 p
word_bit coef p c is few =
    let e : coef ≡ number c.1 * 2 ^ 31 + c.0 = is ∙ (omega arith) in
    ap (λ (v : ℕ). nat_eq v 1) (shr_and_one coef p ∙ ap (λ (n : ℕ). bit_at n p) e
    ∙ bit_at_cat_low (number c.1) 31 c.0 p (omega arith))

word_sign_of : (coef m : ℕ) (b : Bool) → coef ≡ m + 0x80000000 * number b → m < 0x80000000 →
    nat_eq (coef / 0x80000000) 1 ≡ b
word_sign_of coef m true is few = let e : coef / 0x80000000 ≡ 1 = omega arith in rw e refl
word_sign_of coef m false is few = let e : coef / 0x80000000 ≡ 0 = omega arith in rw e refl

pub word_sign : (coef : ℕ) (c : ℕ × Bool) → coef ≡ word_of c → c.0 < 0x80000000 →
    nat_eq (coef / 0x80000000) 1 ≡ c.1
word_sign coef c is few = word_sign_of coef c.0 c.1 is few

-- One place that is coded.

after_case : (s : Shape) (p i : ℕ) (cells : List Cell) (b t : Bool) →
    (b && not (is_significant (cell_at cells i))) ≡ t
    → after_bit s p i cells b ≡ elim t [
      | true ↦ sign_asked s p i cells
      | false ↦ done
          (learned p b i cells)
    ]
unfolding after_bit
after_case s p i cells b t e =
    ap (λ (v : Bool). elim v [
      | true ↦ sign_asked s p i cells
      | false ↦ done
          (learned p b i cells)
    ]) e

-- what follows the bit b of a place
pub place_holds : (s : Shape) (cx p i : ℕ) (coefs l : List (ℕ × Bool)) (cells : List Cell)
    (words : List ℕ) (coder : PassCoder) (b : Bool) (t : Asks)
    → bit_of (coef_at coefs i).0 p ≡ b → after_bit s p i cells b ≡ t
    → HoldsAfter coefs s p t (l ++ (cx, b) ∷ []) words coder
    → HoldsAfter coefs s p (place s cx p i cells) l words coder
unfolding place
place_holds s cx p i coefs l cells words coder b t bit after h =
    let joined : l ++ (cx, b) ∷ symbols coefs t ≡ (l ++ (cx, b) ∷ []) ++ symbols coefs t =
    sym (append_assoc l ((cx, b) ∷ []) (symbols coefs t)) in
    let whole : Holds coefs s p (outcome coefs t) (l ++ (cx, b) ∷ symbols coefs t) words coder =
    subst (λ (k : List (ℕ × Bool)). Holds coefs s p (outcome coefs t) k words coder) (sym joined) h
    in
    let asked : Holds coefs s p (outcome coefs (after_bit s p i cells b))
    (l ++ (cx, b) ∷ symbols coefs (after_bit s p i cells b)) words coder =
    subst (λ (a : Asks). Holds coefs s p (outcome coefs a) (l ++ (cx, b) ∷ symbols coefs a) words
    coder)
    (sym after) whole in
    subst (λ (v : Bool). Holds coefs s p (outcome coefs (after_bit s p i cells v))
    (l ++ (cx, v) ∷ symbols coefs (after_bit s p i cells v)) words coder) (sym bit) asked

pub one_place : (s : Shape) (cx p i : ℕ) (coefs l : List (ℕ × Bool)) (cells : List Cell)
    (words : List ℕ) (coder : PassCoder)
    → is_significant (cell_at cells i) ≡ false → bit_of (coef_at coefs i).0 p ≡ true
    → HoldsAfter coefs s p (sign_asked s p i cells) (l ++ (cx, true) ∷ []) words coder
    → HoldsAfter coefs s p (place s cx p i cells) l words coder
one_place s cx p i coefs l cells words coder none bit h =
    place_holds s cx p i coefs l cells words coder true (sign_asked s p i cells) bit
    (after_case s p i cells true true (ap not none)) h

-- a place that learns a bit and no sign
pub learn_place : (s : Shape) (cx p i : ℕ) (coefs l : List (ℕ × Bool)) (cells : List Cell)
    (before words : List ℕ) (start coder : PassCoder) (b : Bool)
    → IsNext coefs cells p i → (b && not (is_significant (cell_at cells i))) ≡ false
    → (is_significant (cell_at cells i) ≡ true) ⊎ (b ≡ false) →
    bit_of (coef_at coefs i).0 p ≡ b
    → IsPlain (learn p b (cell_at cells i)) → Holds coefs s p cells l before start →
    AreFlags s.width p (learned p b i cells) words
    → Stands coder.encoder (l ++ (cx, b) ∷ [])
    → IsHeld coder.distortion coefs (learned p b i cells)
    → HoldsAfter coefs s p (place s cx p i cells) l words coder
learn_place s cx p i coefs l cells before words start coder b next same kept bit plain h flags
    stands
    held =
    place_holds s cx p i coefs l cells words coder b (done (learned p b i cells)) bit
    (after_case s p i cells b false same)
    (subst (λ (k : List (ℕ × Bool)). Holds coefs s p (learned p b i cells) k words coder)
    (sym (append-nil (l ++ (cx, b) ∷ [])))
    (holds_set coefs s p i (learn p b (cell_at cells i)) cells l
    (l ++ (cx, b) ∷ []) before words start coder next.inside plain
    (learn_on p b (cell_at cells i) (coef_at coefs i) next.untouched kept (h.shown i) (sym bit))
    h flags stands held))

-- a zero keeps a place insignificant
pub zero_plain : (p : ℕ) (c : Cell) → is_significant c ≡ false → IsPlain c →
    IsPlain (learn p false c)
zero_plain p c none plain = λ h. plain none

-- a significant place stays so
pub kept_plain : (p : ℕ) (b : Bool) (c : Cell) → is_significant c ≡ true → IsPlain (learn p b c)
kept_plain p b c some =
    let l : 0 < c.magnitude = ltb-true 0 c.magnitude some in
    λ h. absurd (false≢true (sym h ∙ lt-ltb 0 (2 * c.magnitude + number b) (omega arith)))

-- Whether a pass codes a place.

pub visit_case : (kind : Kind) (s : Shape) (p i : ℕ) (cells : List Cell) (t : Bool) →
    is_coded kind s p i cells ≡ t
    → visit kind s p i cells ≡ elim t [
      | true ↦ place s
          (coded_in kind s i cells) p i cells
      | false ↦ done cells
    ]
unfolding visit
visit_case kind s p i cells t e =
    ap (λ (v : Bool). elim v [
      | true ↦ place s
          (coded_in kind s i cells) p i cells
      | false ↦ done cells
    ]) e

pub not_visited : (kind : Kind) (s : Shape) (p i : ℕ) (coefs l : List (ℕ × Bool))
    (cells : List Cell) (words : List ℕ) (coder : PassCoder)
    → is_coded kind s p i cells ≡ false → Holds coefs s p cells l words coder
    → HoldsAfter coefs s p (visit kind s p i cells) l words coder
not_visited kind s p i coefs l cells words coder uncoded h =
    subst (λ (a : Asks). HoldsAfter coefs s p a l words coder)
    (sym (visit_case kind s p i cells false uncoded))
    (subst (λ (k : List (ℕ × Bool)). Holds coefs s p cells k words coder) (sym (append-nil l)) h)

pub visited : (kind : Kind) (s : Shape) (p i cx : ℕ) (coefs l : List (ℕ × Bool)) (cells : List Cell)
    (words : List ℕ) (coder : PassCoder)
    → is_coded kind s p i cells ≡ true → cx ≡ coded_in kind s i cells →
    HoldsAfter coefs s p (place s cx p i cells) l words coder
    → HoldsAfter coefs s p (visit kind s p i cells) l words coder
visited kind s p i cx coefs l cells words coder coded is h =
    subst (λ (a : Asks). HoldsAfter coefs s p a l words coder)
    (sym (visit_case kind s p i cells true coded))
    (subst (λ (v : ℕ). HoldsAfter coefs s p (place s v p i cells) l words coder) is h)

-- an untouched place is one of the block
pub untouched_inside : (p i : ℕ) (cells : List Cell) → is_untouched p (cell_at cells i) ≡ true →
    i < length cells
untouched_inside p i cells e = elim (cases_lt i (length cells)) [
  | inl inside ↦ inside
  | inr past ↦
      let none : (cell_at cells i).unknown ≡ 0 =
      ap (λ (c : Cell). c.unknown) (get_or_past cells i (fresh 0) past) in
      let one : (cell_at cells i).unknown ≡ suc p = eqb-true _ _ e in
      absurd (omega arith)
]

pub put_holds : (coefs : List (ℕ × Bool)) (s : Shape) (p : ℕ) (cells : List Cell)
    (l coded : List (ℕ × Bool)) (words : List ℕ) (start coder : PassCoder)
    → coder.distortion ≡ start.distortion → Holds coefs s p cells l words start
    → Stands coder.encoder coded → Holds coefs s p cells coded words coder
put_holds coefs s p cells l coded words start coder same h stands =
    record {
      long = h.long;
      whole = h.whole;
      plain = h.plain;
      shown = h.shown;
      flags = h.flags;
      stands = stands;
      held = same ∙ h.held;
    }

pub one_bit : (x : ℕ) → x ≡ 1 → nat_eq x 1 ≡ true
one_bit x e = ap (λ (v : ℕ). nat_eq v 1) e

pub no_bit : (x : ℕ) → (x ≡ 1 → ⊥) → nat_eq x 1 ≡ false
no_bit x n = ne_eqb x 1 n

pub not_true : (b : Bool) → not b ≡ true → b ≡ false
not_true true h = cc
not_true false h = refl

pub unsigned_of : (b c : Bool) → c ≡ true → (b && not c) ≡ false
unsigned_of true c e = ap not e
unsigned_of false c e = refl

-- the word of a place in the grid
pub coef_word : (w h i column stripe r n j : ℕ) (coefs : List (ℕ × Bool)) (grid : List ℕ) →
    IsRow w i column stripe r n j
    → AreCoefs w h coefs grid → i < w * h → get_or grid (j + 32 * r) 0 ≡ word_of (coef_at coefs i)
coef_word w h i column stripe r n j coefs grid at a inside =
    ap (λ (k : ℕ). get_or grid k 0) at.grid ∙ a.each i inside

-- the word of a column in the list
pub own_held : (coefs : List (ℕ × Bool)) (s : Shape) (p n : ℕ) (cells : List Cell)
    (l : List (ℕ × Bool)) (words : List ℕ)
    (coder : PassCoder)
    → Holds coefs s p cells l words coder
    → Holds coefs s p cells l (set words n (get_or words n 0)) coder
own_held coefs s p n cells l words coder h =
    subst (λ (ws : List ℕ). Holds coefs s p cells l ws coder) (sym (set-get_or words n 0)) h
