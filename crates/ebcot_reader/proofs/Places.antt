-- One place: what is known after it.
use Rattle.std.proofs.Common.{ℕ, suc, ◌+◌, ◌-◌, ◌*◌, ◌<◌, ◌≤◌, ◌≡◌, inl, inr}
use Rattle.std.proofs.Common.{Bool, true, false, not, ◌&&◌, List, length, get_or, set, refl, sym, ap}
use Rattle.std.proofs.Common.{◌∙◌, subst, arith}
use Rattle.std.proofs.Math.Bool.{beq}
use Rattle.std.proofs.lemmas.Bool.{cases_eq, cases_lt, eqb-true, lt-ltb, ltb-true, false≢true}
use Rattle.std.proofs.lemmas.List.{get_or-set_same, get_or-set_other, get_or_past, length-set}
use Rattle.std.proofs.lemmas.List.{set-get_or}
use Rattle.mq_coder.specs.Decisions.{Interval}
use Rattle.mq_decoder.specs.declared.decoder.Decoder.{Decoder}
use Rattle.ebcot_contexts.specs.Cells.{Cell, fresh, cell_at, number, is_significant, learn}
use Rattle.ebcot_contexts.specs.Cells.{become_significant, IsPlain}
use Rattle.ebcot_contexts.specs.Contexts.{Shape, sign_at}
use Rattle.ebcot_contexts.specs.Asks.{Asks, done, read, flipped}
use Rattle.ebcot_contexts.specs.Passes.{Kind, is_untouched, learned, sign_asked, after_bit, place}
use Rattle.ebcot_contexts.specs.Passes.{is_coded, coded_in, visit}
use Rattle.ebcot_contexts.specs.Meaning.{next_decision}
use Rattle.flag_words.specs.Words.{AreFlags, IsFlagWord, IsOpen}
use Rattle.ebcot_reader.specs.Columns.{IsRow}
use Rattle.ebcot_reader.specs.Reading.{after, AreKnown, IsAt, Holds}

-- a place of the block, where its flags may change
pub open_row : (w i column stripe r n j : ℕ) (cells : List Cell) → IsRow w i column stripe r n j →
    i < length cells
    → IsOpen w i column stripe r n cells
open_row w i column stripe r n j cells h inside =
    record {
      place = h.place;
      index = h.index;
      some = h.some;
      few = h.few;
      last = h.last;
      inside = inside;
    }

-- the word of the place's own column
pub own_word : (w p i column stripe r n j : ℕ) (cells : List Cell) (words : List ℕ) (word : ℕ) →
    IsRow w i column stripe r n j
    → AreFlags w p cells (set words n word) → IsFlagWord w p cells column stripe word
own_word w p i column stripe r n j cells words word h a =
    let few = h.few in
    let last = h.last in
    let index = h.index in
    let long : length words ≡ 340 = sym (length-set words n word) ∙ a.long in
    let is : get_or (set words n word) (34 * stripe + column) 0 ≡ word =
    subst (λ (k : ℕ). get_or (set words n word) k 0 ≡ word) index
    (get_or-set_same words n word 0 (omega arith)) in
    subst (λ (v : ℕ). IsFlagWord w p cells column stripe v) is
    (a.each column stripe (omega arith) (omega arith))

-- the words of the columns beside it
pub word_before : (w p i column stripe r n j : ℕ) (cells : List Cell) (words : List ℕ) (word : ℕ) →
    IsRow w i column stripe r n j
    → 1 ≤ column → AreFlags w p cells (set words n word) →
    IsFlagWord w p cells (column - 1) stripe (get_or words (n - 1) 0)
word_before w p i column stripe r n j cells words word h some a =
    let few = h.few in
    let last = h.last in
    let index = h.index in
    let at : 34 * stripe + (column - 1) ≡ n - 1 = omega arith in
    let is : get_or (set words n word) (34 * stripe + (column - 1)) 0 ≡ get_or words (n - 1) 0 =
    ap (λ (k : ℕ). get_or (set words n word) k 0) at
    ∙ get_or-set_other words n (n - 1) word 0 (λ e. omega arith) in
    subst (λ (v : ℕ). IsFlagWord w p cells (column - 1) stripe v) is
    (a.each (column - 1) stripe (omega arith) (omega arith))

pub word_after : (w p i column stripe r n j : ℕ) (cells : List Cell) (words : List ℕ) (word : ℕ) →
    IsRow w i column stripe r n j
    → AreFlags w p cells (set words n word) →
    IsFlagWord w p cells (column + 1) stripe (get_or words (n + 1) 0)
word_after w p i column stripe r n j cells words word h a =
    let few = h.few in
    let last = h.last in
    let index = h.index in
    let at : 34 * stripe + (column + 1) ≡ n + 1 = omega arith in
    let is : get_or (set words n word) (34 * stripe + (column + 1)) 0 ≡ get_or words (n + 1) 0 =
    ap (λ (k : ℕ). get_or (set words n word) k 0) at
    ∙ get_or-set_other words n (n + 1) word 0 (λ e. omega arith) in
    subst (λ (v : ℕ). IsFlagWord w p cells (column + 1) stripe v) is
    (a.each (column + 1) stripe (omega arith) (omega arith))

-- a place with a new cell
pub holds_set : (bytes : List ℕ) (s : Shape) (p i : ℕ) (x : Cell) (st : List Cell × Interval)
    (it : Interval) (before words old grid : List ℕ) (start decoder : Decoder)
    → i < length st.0 → IsPlain x → Holds bytes s p st before old start
    → AreFlags s.width p (set st.0 i x) words → AreKnown s.width (set st.0 i x) grid
    → IsAt bytes it decoder → Holds bytes s p (set st.0 i x, it) words grid decoder
holds_set bytes s p i x st it before words old grid start decoder inside plain h flags known at =
    record {
      narrow = h.narrow;
      long = length-set st.0 i x ∙ h.long;
      plain = λ k. elim (cases_eq k i) [
        | inl e ↦ subst (λ (v : ℕ). IsPlain (cell_at (set st.0 i x) v)) (sym e)
            (subst IsPlain (sym (get_or-set_same st.0 i x (fresh 0) inside)) plain)
        | inr other ↦ subst IsPlain (sym (get_or-set_other st.0 i k x (fresh 0) other)) (h.plain k)
      ];
      flags = flags;
      grid_is = known;
      decoder = at;
    }

-- one decision more
pub holds_taken : (bytes : List ℕ) (s : Shape) (p : ℕ) (st : List Cell × Interval) (it : Interval)
    (words grid : List ℕ) (start decoder : Decoder)
    → Holds bytes s p st words grid start → IsAt bytes it decoder
    → Holds bytes s p (st.0, it) words grid decoder
holds_taken bytes s p st it words grid start decoder h at =
    record {
      narrow = h.narrow;
      long = h.long;
      plain = h.plain;
      flags = h.flags;
      grid_is = h.grid_is;
      decoder = at;
    }

-- the word of a column in the list
pub own_held : (bytes : List ℕ) (s : Shape) (p n : ℕ) (st : List Cell × Interval)
    (words grid : List ℕ) (decoder : Decoder)
    → Holds bytes s p st words grid decoder
    → Holds bytes s p st (set words n (get_or words n 0)) grid decoder
own_held bytes s p n st words grid decoder h =
    subst (λ (ws : List ℕ). Holds bytes s p st ws grid decoder) (sym (set-get_or words n 0)) h

-- Signs.

flipped_by : (flip b : Bool) → not (beq flip b) ≡ flipped flip b
flipped_by true true = refl
flipped_by true false = refl
flipped_by false true = refl
flipped_by false false = refl

pub significant_plain : (p : ℕ) (b : Bool) (c : Cell) → IsPlain (become_significant p b c)
significant_plain p b c = λ h. absurd
    (false≢true (sym h ∙ lt-ltb 0 (2 * c.magnitude + 1) (omega arith)))

pub sign_holds : (bytes : List ℕ) (s : Shape) (p i : ℕ) (st : List Cell × Interval)
    (words grid : List ℕ) (decoder : Decoder) (at : ℕ × Bool) (b : Bool)
    → at ≡ sign_at s st.0 i → b ≡ (next_decision bytes st.1 at.0).0
    → Holds bytes s p (
      set st.0 i (become_significant p (not (beq at.1 b)) (cell_at st.0 i)),
      (next_decision bytes st.1 at.0).1,
    ) words grid decoder
    → Holds bytes s p (after bytes st (sign_asked s p i)) words grid decoder
unfolding sign_asked
sign_holds bytes s p i st words grid decoder at b is bit h =
    let c : Cell = cell_at st.0 i in
    let sign : not (beq at.1 b) ≡ flipped at.1 (next_decision bytes st.1 at.0).0 =
    flipped_by at.1 b ∙ ap (flipped at.1) bit in
    subst (λ (a : ℕ × Bool). Holds bytes s p (
      set st.0 i (become_significant p
          (flipped a.1 (next_decision bytes st.1 a.0).0) c),
      (next_decision bytes st.1 a.0).1,
    ) words grid
    decoder) is
    (subst (λ (v : Bool). Holds bytes s p (
      set st.0 i (become_significant p v c),
      (next_decision bytes st.1 at.0).1,
    ) words grid decoder) sign h)

-- One place that is coded.

after_case : (s : Shape) (p i : ℕ) (cells : List Cell) (b t : Bool) →
    (b && not (is_significant (cell_at cells i))) ≡ t
    → after_bit s p i cells b ≡ elim t [
      | true ↦ sign_asked s p i cells
      | false ↦ done (learned p b i cells)
    ]
unfolding after_bit
after_case s p i cells b t e =
    ap (λ (v : Bool). elim v [
      | true ↦ sign_asked s p i cells
      | false ↦ done (learned p b i cells)
    ]) e

-- what follows the bit b of a place
place_holds : (bytes : List ℕ) (s : Shape) (cx p i : ℕ) (st : List Cell × Interval)
    (words grid : List ℕ) (decoder : Decoder) (b : Bool) (t : Asks)
    → b ≡ (next_decision bytes st.1 cx).0 → after_bit s p i st.0 b ≡ t
    → Holds bytes s p (read (next_decision bytes) (next_decision bytes st.1 cx).1 t)
    words grid decoder
    → Holds bytes s p (after bytes st (place s cx p i)) words grid decoder
unfolding place
place_holds bytes s cx p i st words grid decoder b t bit follows h =
    subst (λ (v : Bool). Holds bytes s p (read (next_decision bytes)
    (next_decision bytes st.1 cx).1 (after_bit s p i st.0 v)) words grid decoder) bit
    (subst (λ (a : Asks). Holds bytes s p (read (next_decision bytes)
    (next_decision bytes st.1 cx).1 a) words grid decoder) (sym follows) h)

pub one_place : (bytes : List ℕ) (s : Shape) (cx p i : ℕ) (st : List Cell × Interval)
    (words grid : List ℕ) (decoder : Decoder) (b : Bool)
    → is_significant (cell_at st.0 i) ≡ false → b ≡ true → b ≡ (next_decision bytes st.1 cx).0
    → Holds bytes s p (after bytes (st.0, (next_decision bytes st.1 cx).1) (sign_asked s p i))
    words grid decoder
    → Holds bytes s p (after bytes st (place s cx p i)) words grid decoder
one_place bytes s cx p i st words grid decoder b none one bit h =
    place_holds bytes s cx p i st words grid decoder true (sign_asked s p i st.0) (sym one ∙ bit)
    (after_case s p i st.0 true true (ap not none)) h

-- a place that learns a bit and no sign
pub learn_place : (bytes : List ℕ) (s : Shape) (cx p i : ℕ) (st : List Cell × Interval)
    (words grid : List ℕ) (decoder : Decoder) (b : Bool)
    → (b && not (is_significant (cell_at st.0 i))) ≡ false → b ≡ (next_decision bytes st.1 cx).0
    → Holds bytes s p (learned p b i st.0, (next_decision bytes st.1 cx).1) words grid decoder
    → Holds bytes s p (after bytes st (place s cx p i)) words grid decoder
learn_place bytes s cx p i st words grid decoder b same bit h =
    place_holds bytes s cx p i st words grid decoder b (done (learned p b i st.0)) bit
    (after_case s p i st.0 b false same) h

-- a zero keeps a place insignificant
pub zero_plain : (p : ℕ) (c : Cell) → is_significant c ≡ false → IsPlain c →
    IsPlain (learn p false c)
zero_plain p c none plain = λ h. plain none

-- a significant place stays so
pub kept_plain : (p : ℕ) (b : Bool) (c : Cell) → is_significant c ≡ true → IsPlain (learn p b c)
kept_plain p b c some =
    let l : 0 < c.magnitude = ltb-true 0 c.magnitude some in
    λ h. absurd (false≢true (sym h ∙ lt-ltb 0 (2 * c.magnitude + number b) (omega arith)))

-- Whether a pass codes a place.

pub visit_case : (kind : Kind) (s : Shape) (p i : ℕ) (cells : List Cell) (t : Bool) →
    is_coded kind s p i cells ≡ t
    → visit kind s p i cells ≡ elim t [
      | true ↦ place s (coded_in kind s i cells) p i cells
      | false ↦ done cells
    ]
unfolding visit
visit_case kind s p i cells t e =
    ap (λ (v : Bool). elim v [
      | true ↦ place s (coded_in kind s i cells) p i cells
      | false ↦ done cells
    ]) e

pub not_visited : (bytes : List ℕ) (kind : Kind) (s : Shape) (p i : ℕ) (st : List Cell × Interval)
    (words grid : List ℕ) (decoder : Decoder)
    → is_coded kind s p i st.0 ≡ false → Holds bytes s p st words grid decoder
    → Holds bytes s p (after bytes st (visit kind s p i)) words grid decoder
not_visited bytes kind s p i st words grid decoder uncoded h =
    subst (λ (a : Asks). Holds bytes s p (read (next_decision bytes) st.1 a) words grid decoder)
    (sym (visit_case kind s p i st.0 false uncoded)) h

pub visited : (bytes : List ℕ) (kind : Kind) (s : Shape) (p i cx : ℕ) (st : List Cell × Interval)
    (words grid : List ℕ) (decoder : Decoder)
    → is_coded kind s p i st.0 ≡ true → cx ≡ coded_in kind s i st.0
    → Holds bytes s p (after bytes st (place s cx p i)) words grid decoder
    → Holds bytes s p (after bytes st (visit kind s p i)) words grid decoder
visited bytes kind s p i cx st words grid decoder coded is h =
    subst (λ (a : Asks). Holds bytes s p (read (next_decision bytes) st.1 a) words grid decoder)
    (sym (visit_case kind s p i st.0 true coded))
    (subst (λ (v : ℕ). Holds bytes s p (after bytes st (place s v p i)) words grid decoder) is h)

-- an untouched place is one of the block
pub untouched_inside : (p i : ℕ) (cells : List Cell) → is_untouched p (cell_at cells i) ≡ true →
    i < length cells
untouched_inside p i cells e = elim (cases_lt i (length cells)) [
  | inl inside ↦ inside
  | inr past ↦
      let none : (cell_at cells i).unknown ≡ 0 =
      ap (λ (c : Cell). c.unknown) (get_or_past cells i (fresh 0) past) in
      let one : (cell_at cells i).unknown ≡ suc p = eqb-true _ _ e in
      absurd (omega arith)
]

pub not_true : (b : Bool) → not b ≡ true → b ≡ false
not_true true h = cc
not_true false h = refl

pub unsigned_of : (b c : Bool) → c ≡ true → (b && not c) ≡ false
unsigned_of true c e = ap not e
unsigned_of false c e = refl
