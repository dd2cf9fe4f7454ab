-- The flags of a block after a place became significant.
use Rattle.std.proofs.Common.{ℕ, zero, suc, ◌+◌, ◌-◌, ◌*◌, ◌/◌, ◌%◌, ◌^◌, ◌<◌, ◌≤◌, ◌≡◌, ◌⊎◌, inl}
use Rattle.std.proofs.Common.{inr, Bool, true, false, ltb, not, List, [], ◌∷◌, length, get_or}
use Rattle.std.proofs.Common.{set, refl, sym, ap, ◌∙◌, arith, subst}
use Rattle.std.proofs.lemmas.Bool.{cases_eq}
use Rattle.std.proofs.lemmas.List.{get_or-set_same, length-set, set-set}
use Rattle.std.specs.Prelude.{nat_le}
use Rattle.std.specs.Int.RustNames.{bit_or}
use Rattle.ebcot_contexts.specs.Cells.{Cell, cell_at, number, become_significant}
use Rattle.ebcot_contexts.specs.Passes.{is_untouched}
use Rattle.flag_words.specs.Words.{AreFlags, IsOpen, IsNew, or_at, three_at}
use Rattle.flag_words.specs.Words.{spread}
use Rattle.flag_words.proofs.Words.{Shows}
use Rattle.flag_words.proofs.Masks.{Has, fits, or_changes}
use Rattle.flag_words.proofs.Spread.{In, Mixed, mixed_start, mixed_more, mixed_end, decide_in}
use Rattle.flag_words.proofs.Spread.{or_under}
use Rattle.flag_words.proofs.OneWord.{two, touched_at, zero_of}

abbrev pub own_mask : ℕ → ℕ → ℕ
own_mask m r = bit_or (bit_or (m * 524288 % 4294967296) 16) 2097152 * 2 ^ (3 * r) % 4294967296

-- a mask makes a place significant in a word that shows it at r and c
abbrev MakesNew : ℕ → ℕ → ℕ → Bool → Type 0
MakesNew r c mask b = (t : Bool) → fits r c mask false false false t true b false true ≡ true

module _ (w p i column stripe r n : ℕ) (cells : List Cell) (b : Bool)
    (o : IsOpen w i column stripe r n cells) (blank : IsNew (cell_at cells i)) where
  abbrev d : Cell
  d = become_significant p b (cell_at cells i)

  abbrev M : List ℕ → List ℕ → Type 0
  M js words = Mixed w p cells i d js words

  old_has : Has p (cell_at cells i) false false false (not (is_untouched p (cell_at cells i)))
  old_has =
      record {
        significant = blank.insignificant;
        negative = blank.plain;
        refined = ap (λ (m : ℕ). nat_le 2 m)
            (zero_of (cell_at cells i).magnitude blank.insignificant);
        touched = refl;
      }

  new_has : Has p d true b false true
  new_has =
      let z : (cell_at cells i).magnitude ≡ 0 =
      zero_of (cell_at cells i).magnitude blank.insignificant in
      let one : 2 * (cell_at cells i).magnitude + 1 ≡ 1 = omega (arith, z) in
      record {
        significant = ap (λ (m : ℕ). ltb 0 m) one;
        negative = refl;
        refined = ap (λ (m : ℕ). nat_le 2 m) one;
        touched = touched_at p;
      }

  -- one word more that shows the place
  more : (js words : List ℕ) (j c s row q mask : ℕ) → M js words → (In j js → ⊥) → j ≡ 34 * s + c →
      c < 34 → s < 10
      → Shows w p cells i d c s row q → MakesNew row q mask b → M (j ∷ js) (or_at words j mask)
  more js words j c s row q mask m apart at lc ls shows fit =
      mixed_more w p cells i d js words j c s row q
      (bit_or (get_or words j 0) mask) m apart at lc ls o.some o.inside shows
      (or_changes w p cells i d c s row q (get_or words j 0) mask false false false
      (not (is_untouched p (cell_at cells i))) true b false true
      (fit (not (is_untouched p (cell_at cells i)))) old_has new_has)

  -- the two words beside the place's own
  near_two : (words : List ℕ) (left right : ℕ) → r < 4 → M [] words → MakesNew (suc r) 2 left b →
      MakesNew (suc r) 0 right b
      → M ((n + 1) ∷ (n - 1) ∷ []) (or_at (or_at words (n - 1) left) (n + 1) right)
  near_two words left right lr m fl fr =
      let ex : column ≡ suc (i % w) = o.place.column_is in
      let ey : 4 * stripe + r ≡ i / w + 4 = o.place.row_is in
      let en : n ≡ 34 * stripe + column = o.index in
      let lc : column < 33 = o.few in
      let ls : stripe < 9 = o.last in
      more ((n - 1) ∷ []) (or_at words (n - 1) left) (n + 1) (column + 1) stripe (suc r) 0 right
      (more [] words (n - 1) (column - 1) stripe (suc r) 2 left m (λ h. h) (omega arith)
      (omega arith) (omega arith) (omega arith, omega arith) fl)
      (λ h. elim h [ inl e ↦ omega arith | inr e ↦ e ]) (omega arith) (omega arith) (omega arith)
      (omega arith, omega arith) fr

  -- three words of a stripe beside the place's own
  near_three : (js words : List ℕ) (j s row left middle right : ℕ) → M js words →
      (In (j - 1) js → ⊥) → (In j js → ⊥) → (In (j + 1) js → ⊥)
      → j ≡ 34 * s + column → s < 10 → 4 * s + row - 4 ≡ suc (i / w)
      → MakesNew row 2 left b → MakesNew row 1 middle b → MakesNew row 0 right b
      → M ((j + 1) ∷ j ∷ (j - 1) ∷ js) (three_at words j left middle right)
  near_three js words j s row left middle right m al am ar at ls ey fl fm fr =
      let ex : column ≡ suc (i % w) = o.place.column_is in
      let lc : column < 33 = o.few in
      more (j ∷ (j - 1) ∷ js) (or_at (or_at words (j - 1) left) j middle) (j + 1)
      (column + 1) s row 0 right
      (more ((j - 1) ∷ js) (or_at words (j - 1) left) j column s row 1 middle
      (more js words (j - 1) (column - 1) s row 2 left m al (omega arith) (omega arith) ls
      (omega arith, ey) fl)
      (λ h. elim h [ inl e ↦ omega arith | inr e ↦ am e ]) at (omega arith) ls (omega arith, ey) fm)
      (λ h. elim h [ inl e ↦ omega arith | inr h ↦ elim h [ inl e ↦ omega arith | inr e ↦ ar e ] ])
      (omega arith) (omega arith) ls (omega arith, ey) fr

  -- the place's own word, at last
  own_last : (js words : List ℕ) (word mask : ℕ) → M js (set words n word) → length words ≡ 340 →
      (In n js → ⊥) → MakesNew (suc r) 1 mask b
      → M (n ∷ js) (set words n (bit_or word mask))
  own_last js words word mask m long apart fit =
      let ex : column ≡ suc (i % w) = o.place.column_is in
      let ey : 4 * stripe + r ≡ i / w + 4 = o.place.row_is in
      let en : n ≡ 34 * stripe + column = o.index in
      let lc : column < 33 = o.few in
      let ls : stripe < 9 = o.last in
      let ln : n < length words = omega (arith, long) in
      let done : M (n ∷ js) (or_at (set words n word) n mask) =
      more js (set words n word) n column stripe (suc r) 1 mask m apart en (omega arith)
      (omega arith) (omega arith, omega arith) fit in
      subst (M (n ∷ js)) (ap (λ (v : ℕ). set (set words n word) n (bit_or v mask))
      (get_or-set_same words n word 0 ln) ∙ set-set words n word (bit_or word mask)) done

  ended : (js words : List ℕ) → M js words
      → ((x y v u : ℕ) → v < 6 → u < 3 → Shows w p cells i d x y v u → In (34 * y + x) js)
      → AreFlags w p (set cells i d) words
  ended js words m found =
      mixed_end w p cells i d js words m (λ x y lx ly h v u lv lu at. h (found x y v u lv lu at))
      (λ x y. decide_in (34 * y + x) js)

  -- both words beside it, while its own is held apart
  under_two : (words : List ℕ) (word left right : ℕ) → 1 ≤ n
      → or_at (or_at (set words n word) (n - 1) left) (n + 1) right
      ≡ set (or_at (or_at words (n - 1) left) (n + 1) right) n word
  under_two words word left right some =
      ap (λ (l : List ℕ). or_at l (n + 1) right) (or_under words n word (n - 1) left (omega arith))
      ∙ or_under (or_at words (n - 1) left) n word (n + 1) right (omega arith)

  under_three : (words : List ℕ) (word j left middle right : ℕ) → (j - 1 ≡ n → ⊥) → (j ≡ n → ⊥) →
      (j + 1 ≡ n → ⊥)
      → three_at (set words n word) j left middle right
      ≡ set (three_at words j left middle right) n word
  under_three words word j left middle right al am ar =
      ap (λ (l : List ℕ). or_at (or_at l j middle) (j + 1) right)
      (or_under words n word (j - 1) left al)
      ∙ ap (λ (l : List ℕ). or_at l (j + 1) right)
      (or_under (or_at words (j - 1) left) n word j middle am)
      ∙ or_under (or_at (or_at words (j - 1) left) j middle) n word (j + 1) right ar

  or_length : (words : List ℕ) (j mask : ℕ) → length (or_at words j mask) ≡ length words
  or_length words j mask = length-set words j (bit_or (get_or words j 0) mask)

  -- a place in the second or third row
  pub inner_new : (words : List ℕ) (word left right mask : ℕ) → 0 < r → r < 3 →
      AreFlags w p cells (set words n word)
      → MakesNew (suc r) 2 left b → MakesNew (suc r) 0 right b → MakesNew (suc r) 1 mask b
      → AreFlags w p (set cells i d)
      (set (or_at (or_at words (n - 1) left) (n + 1) right) n (bit_or word mask))
  inner_new words word left right mask lo hi a fl fr fm =
      let ex : column ≡ suc (i % w) = o.place.column_is in
      let ey : 4 * stripe + r ≡ i / w + 4 = o.place.row_is in
      let en : n ≡ 34 * stripe + column = o.index in
      let near : List ℕ = or_at (or_at words (n - 1) left) (n + 1) right in
      let long : length words ≡ 340 = sym (length-set words n word) ∙ a.long in
      let two : M ((n + 1) ∷ (n - 1) ∷ []) (set near n word) =
      subst (M ((n + 1) ∷ (n - 1) ∷ [])) (under_two words word left right (omega arith))
      (near_two (set words n word) left right (omega arith)
      (mixed_start w p cells i d (set words n word) a) fl fr) in
      ended (n ∷ (n + 1) ∷ (n - 1) ∷ []) (set near n (bit_or word mask))
      (own_last ((n + 1) ∷ (n - 1) ∷ []) near word mask two
      (or_length (or_at words (n - 1) left) (n + 1) right ∙ or_length words (n - 1) left ∙ long)
      (λ h. elim h [ inl e ↦ omega arith | inr h ↦ elim h [ inl e ↦ omega arith | inr e ↦ e ] ]) fm)
      (λ x y v u lv lu at. by x y v u lv lu at.0 at.1 ex ey en)
    where
      by : (x y v u : ℕ) → v < 6 → u < 3 → x + u - 1 ≡ suc (i % w) → 4 * y + v - 4 ≡ suc (i / w)
          → column ≡ suc (i % w) → 4 * stripe + r ≡ i / w + 4 → n ≡ 34 * stripe + column →
          In (34 * y + x) (n ∷ (n + 1) ∷ (n - 1) ∷ [])
      by x y v zero lv lu ax ay ex ey en = inr (inl (omega arith))
      by x y v (suc zero) lv lu ax ay ex ey en = inl (omega arith)
      by x y v (suc (suc zero)) lv lu ax ay ex ey en = inr (inr (inl (omega arith)))
      by x y v (suc (suc (suc u))) lv lu ax ay ex ey en = absurd (omega arith)

  -- a place in the first or last row: j is the index of the word of its column in the stripe s
  -- beside
  pub outer_new : (words : List ℕ) (word left right mask j s row l m q : ℕ) → r < 4 →
      AreFlags w p cells (set words n word)
      → MakesNew (suc r) 2 left b → MakesNew (suc r) 0 right b → MakesNew (suc r) 1 mask b
      → j ≡ 34 * s + column → s < 10 → 4 * s + row - 4 ≡ suc (i / w) → (s ≡ stripe → ⊥)
      → ((y v : ℕ) → v < 6 → 4 * y + v - 4 ≡ suc (i / w) → (y ≡ stripe) ⊎ (y ≡ s))
      → MakesNew row 2 l b → MakesNew row 1 m b → MakesNew row 0 q b
      → AreFlags w p (set cells i d)
      (set (three_at (or_at (or_at words (n - 1) left) (n + 1) right) j l m q) n
      (bit_or word mask))
  outer_new words word left right mask j s row l m q lr a fl fr fo ej ls es apart stripes gl gm gq =
      let ex : column ≡ suc (i % w) = o.place.column_is in
      let ey : 4 * stripe + r ≡ i / w + 4 = o.place.row_is in
      let en : n ≡ 34 * stripe + column = o.index in
      let lc : column < 33 = o.few in
      let near : List ℕ = or_at (or_at words (n - 1) left) (n + 1) right in
      let long : length words ≡ 340 = sym (length-set words n word) ∙ a.long in
      let long2 : length near ≡ 340 = or_length (or_at words (n - 1) left) (n + 1) right
      ∙ or_length words (n - 1) left ∙ long in
      let two : M ((n + 1) ∷ (n - 1) ∷ []) (set near n word) =
      subst (M ((n + 1) ∷ (n - 1) ∷ [])) (under_two words word left right (omega arith))
      (near_two (set words n word) left right lr
      (mixed_start w p cells i d (set words n word) a) fl fr) in
      let five : M ((j + 1) ∷ j ∷ (j - 1) ∷ (n + 1) ∷ (n - 1) ∷ [])
      (set (three_at near j l m q) n word) =
      subst (M ((j + 1) ∷ j ∷ (j - 1) ∷ (n + 1) ∷ (n - 1) ∷ []))
      (under_three near word j l m q (omega arith) (omega arith) (omega arith))
      (near_three ((n + 1) ∷ (n - 1) ∷ []) (set near n word) j s row l m q two
      (λ h. elim h [ inl e ↦ omega arith | inr h ↦ elim h [ inl e ↦ omega arith | inr e ↦ e ] ])
      (λ h. elim h [ inl e ↦ omega arith | inr h ↦ elim h [ inl e ↦ omega arith | inr e ↦ e ] ])
      (λ h. elim h [ inl e ↦ omega arith | inr h ↦ elim h [ inl e ↦ omega arith | inr e ↦ e ] ]) ej ls es gl gm gq) in
      ended (n ∷ (j + 1) ∷ j ∷ (j - 1) ∷ (n + 1) ∷ (n - 1) ∷ [])
      (set (three_at near j l m q) n (bit_or word mask))
      (own_last ((j + 1) ∷ j ∷ (j - 1) ∷ (n + 1) ∷ (n - 1) ∷ [])
      (three_at near j l m q) word mask five
      (or_length (or_at (or_at near (j - 1) l) j m) (j + 1) q ∙ or_length (or_at near (j - 1) l) j m
      ∙ or_length near (j - 1) l ∙ long2)
      (λ h. elim h [ inl e ↦ omega arith | inr h ↦ elim h [ inl e ↦ omega arith | inr h ↦ elim h [ inl e ↦ omega arith | inr h ↦ elim h [ inl e ↦ omega arith | inr h ↦ elim h [ inl e ↦ omega arith | inr e ↦ e ] ] ] ] ]) fo)
      (λ x y v u lv lu at. elim (stripes y v lv at.1) [
        | inl e ↦ own x y u lu at.0 ex ey en e
        | inr e ↦ beside x y u lu at.0 ex ej e
      ])
    where
      own : (x y u : ℕ) → u < 3 → x + u - 1 ≡ suc (i % w) → column ≡ suc (i % w) →
          4 * stripe + r ≡ i / w + 4 → n ≡ 34 * stripe + column → y ≡ stripe
          → In (34 * y + x) (n ∷ (j + 1) ∷ j ∷ (j - 1) ∷ (n + 1) ∷ (n - 1) ∷ [])
      own x y zero lu ax ex ey en e = inr (inr (inr (inr (inl (omega arith)))))
      own x y (suc zero) lu ax ex ey en e = inl (omega arith)
      own x y (suc (suc zero)) lu ax ex ey en e = inr (inr (inr (inr (inr (inl (omega arith))))))
      own x y (suc (suc (suc u))) lu ax ex ey en e = absurd (omega arith)

      beside : (x y u : ℕ) → u < 3 → x + u - 1 ≡ suc (i % w) → column ≡ suc (i % w) →
          j ≡ 34 * s + column → y ≡ s
          → In (34 * y + x) (n ∷ (j + 1) ∷ j ∷ (j - 1) ∷ (n + 1) ∷ (n - 1) ∷ [])
      beside x y zero lu ax ex ej e = inr (inl (omega arith))
      beside x y (suc zero) lu ax ex ej e = inr (inr (inl (omega arith)))
      beside x y (suc (suc zero)) lu ax ex ej e = inr (inr (inr (inl (omega arith))))
      beside x y (suc (suc (suc u))) lu ax ex ej e = absurd (omega arith)

-- The masks of each row.
abbrev Masks : ℕ → ℕ → Bool → Type 0
Masks r m b =
    MakesNew (suc r) 2 (0x20 * 2 ^ (3 * r)) b × MakesNew (suc r) 0 (0x08 * 2 ^ (3 * r)) b × MakesNew
    (suc r) 1 (own_mask m r) b

masks : (r : ℕ) → r < 4 → (b : Bool) → Masks r (number b) b
masks zero l true = (
  λ t. two
      (λ t b. fits 1 2 0x20 false false false t true true false true) refl t t,
  λ t. two
      (λ t b. fits 1 0 0x08 false false false t true true false true) refl t t,
  λ t. two
      (λ t b. fits 1 1 (own_mask 1 0) false false false t true true false true) refl t t,
)
masks zero l false = (
  λ t. two
      (λ t b. fits 1 2 0x20 false false false t true false false true) refl t t,
  λ t. two
      (λ t b. fits 1 0 0x08 false false false t true false false true) refl t t,
  λ t. two
      (λ t b. fits 1 1 (own_mask 0 0) false false false t true false false true) refl t t,
)
masks (suc zero) l true = (
  λ t. two
      (λ t b. fits 2 2 (0x20 * 2 ^ 3) false false false t true true false true) refl t t,
  λ t. two
      (λ t b. fits 2 0 (0x08 * 2 ^ 3) false false false t true true false true) refl t t,
  λ t. two
      (λ t b. fits 2 1 (own_mask 1 1) false false false t true true false true) refl t t,
)
masks (suc zero) l false = (
  λ t. two
      (λ t b. fits 2 2 (0x20 * 2 ^ 3) false false false t true false false true) refl t t,
  λ t. two
      (λ t b. fits 2 0 (0x08 * 2 ^ 3) false false false t true false false true) refl t t,
  λ t. two (λ t b. fits 2 1
      (own_mask 0 1) false false false t true false false true) refl t t,
)
masks (suc (suc zero)) l true = (
  λ t. two (λ t b. fits 3 2 (0x20 * 2 ^ 6) false false false t true true false true) refl t t,
  λ t. two (λ t b. fits 3 0 (0x08 * 2 ^ 6) false false false t true true false true) refl t t,
  λ t. two (λ t b. fits 3 1
      (own_mask 1 2) false false false t true true false true) refl t t,
)
masks (suc (suc zero)) l false = (
  λ t. two (λ t b. fits 3 2 (0x20 * 2 ^ 6) false false false t true false false true) refl t t,
  λ t. two (λ t b. fits 3 0
      (0x08 * 2 ^ 6) false false false t true false false true) refl t t,
  λ t. two
      (λ t b. fits 3 1 (own_mask 0 2) false false false t true false false true) refl t t,
)
masks (suc (suc (suc zero))) l true = (
  λ t. two (λ t b. fits 4 2 (0x20 * 2 ^ 9) false false false t true true false true) refl t t,
  λ t. two (λ t b. fits 4 0 (0x08 * 2 ^ 9) false false false t true true false true) refl t t,
  λ t. two (λ t b. fits 4 1
      (own_mask 1 3) false false false t true true false true) refl t t,
)
masks (suc (suc (suc zero))) l false = (
  λ t. two (λ t b. fits 4 2 (0x20 * 2 ^ 9) false false false t true false false true) refl t t,
  λ t. two (λ t b. fits 4 0
      (0x08 * 2 ^ 9) false false false t true false false true) refl t t,
  λ t. two
      (λ t b. fits 4 1 (own_mask 0 3) false false false t true false false true) refl t t,
)
masks (suc (suc (suc (suc r)))) l b = absurd (omega arith)

abbrev Below : ℕ → Bool → Type 0
Below m b = MakesNew 5 2 (2 ^ 17) b × MakesNew 5 1 (bit_or (m * 2 ^ 31) (2 ^ 16)) b × MakesNew 5 0
    (2 ^ 15) b

below : (b : Bool) → Below (number b) b
below true = (
  λ t. two (λ t b. fits 5 2 (2 ^ 17) false false false t true true false true) refl t t,
  λ t. two (λ t b. fits 5 1 (bit_or (1 * 2 ^ 31)
      (2 ^ 16)) false false false t true true false true) refl t t,
  λ t. two
      (λ t b. fits 5 0 (2 ^ 15) false false false t true true false true) refl t t,
)
below false = (
  λ t. two (λ t b. fits 5 2
      (2 ^ 17) false false false t true false false true) refl t t,
  λ t. two
      (λ t b. fits 5 1 (bit_or (0 * 2 ^ 31)
      (2 ^ 16)) false false false t true false false true) refl t t,
  λ t. two
      (λ t b. fits 5 0 (2 ^ 15) false false false t true false false true) refl t t,
)

abbrev Above : ℕ → Bool → Type 0
Above m b = MakesNew 0 2 (2 ^ 2) b × MakesNew 0 1 (bit_or (m * 2 ^ 18) 2) b × MakesNew 0 0 1 b

above : (b : Bool) → Above (number b) b
above true = (
  λ t. two (λ t b. fits 0 2 (2 ^ 2) false false false t true true false true) refl t t,
  λ t. two (λ t b. fits 0 1 (bit_or
      (1 * 2 ^ 18) 2) false false false t true true false true) refl t t,
  λ t. two
      (λ t b. fits 0 0 1 false false false t true true false true) refl t t,
)
above false = (
  λ t. two (λ t b. fits 0 2
      (2 ^ 2) false false false t true false false true) refl t t,
  λ t. two
      (λ t b. fits 0 1 (bit_or
      (0 * 2 ^ 18) 2) false false false t true false false true) refl t t,
  λ t. two
      (λ t b. fits 0 0 1 false false false t true false false true) refl t t,
)

new_kept : (w p i column stripe r n : ℕ) (cells : List Cell) (words : List ℕ) (word : ℕ)
    (b : Bool) → r < 4 → IsOpen w i column stripe r n cells
    → IsNew (cell_at cells i) → AreFlags w p cells (set words n word)
    → AreFlags w p (set cells i (become_significant p b (cell_at cells i)))
    (set (spread words n r (number b)) n (bit_or word (own_mask (number b) r)))
new_kept w p i column stripe zero n cells words word b l o blank a =
    let m = masks 0 l b in
    let g = below b in
    let ey : 4 * stripe + 0 ≡ i / w + 4 = o.place.row_is in
    let en : n ≡ 34 * stripe + column = o.index in
    let ls : stripe < 9 = o.last in
    outer_new w p i column stripe 0 n cells b o blank words word (0x20 * 2 ^ (3 * 0))
    (0x08 * 2 ^ (3 * 0)) (own_mask (number b) 0) (n - 34) (stripe - 1) 5
    (2 ^ 17) (bit_or (number b * 2 ^ 31) (2 ^ 16)) (2 ^ 15) l a m.0 m.1 m.2 (omega arith)
    (omega arith) (omega arith) (λ e. omega arith)
    (λ y v lv e. elim (cases_eq y stripe) [ inl f ↦ inl f | inr f ↦ inr (omega arith) ]) g.0 g.1 g.2
new_kept w p i column stripe (suc zero) n cells words word b l o blank a =
    let m = masks 1 l b in
    inner_new w p i column stripe 1 n cells b o blank words word (0x20 * 2 ^ (3 * 1))
    (0x08 * 2 ^ (3 * 1)) (own_mask (number b) 1) (omega arith) (omega arith) a m.0 m.1 m.2
new_kept w p i column stripe (suc (suc zero)) n cells words word b l o blank a =
    let m = masks 2 l b in
    inner_new w p i column stripe 2 n cells b o blank words word (0x20 * 2 ^ (3 * 2))
    (0x08 * 2 ^ (3 * 2)) (own_mask (number b) 2) (omega arith) (omega arith) a m.0 m.1 m.2
new_kept w p i column stripe (suc (suc (suc zero))) n cells words word b l o blank a =
    let m = masks 3 l b in
    let g = above b in
    let ey : 4 * stripe + 3 ≡ i / w + 4 = o.place.row_is in
    let en : n ≡ 34 * stripe + column = o.index in
    let ls : stripe < 9 = o.last in
    outer_new w p i column stripe 3 n cells b o blank words word (0x20 * 2 ^ (3 * 3))
    (0x08 * 2 ^ (3 * 3)) (own_mask (number b) 3) (n + 34) (stripe + 1) 0
    (2 ^ 2) (bit_or (number b * 2 ^ 18) 2) 1 l a m.0 m.1 m.2 (omega arith) (omega arith)
    (omega arith) (λ e. omega arith)
    (λ y v lv e. elim (cases_eq y stripe) [ inl f ↦ inl f | inr f ↦ inr (omega arith) ]) g.0 g.1 g.2
new_kept w p i column stripe (suc (suc (suc (suc r)))) n cells words word b l o blank a =
    absurd (omega arith)

pub new_place : (w p i column stripe r n : ℕ) (cells : List Cell) (words after : List ℕ)
    (word minus : ℕ) (b : Bool) → r < 4 → IsOpen w i column stripe r n cells
    → IsNew (cell_at cells i) → minus ≡ number b → after ≡ spread words n r minus →
    AreFlags w p cells (set words n word)
    → AreFlags w p (set cells i (become_significant p b (cell_at cells i)))
    (set after n (bit_or word (own_mask minus r)))
new_place w p i column stripe r n cells words after word minus b l o blank e f a =
    subst (λ (x : List ℕ). AreFlags w p (set cells i (become_significant p b (cell_at cells i)))
    (set x n (bit_or word (own_mask minus r)))) (sym f)
    (subst (λ (m : ℕ). AreFlags w p (set cells i (become_significant p b (cell_at cells i)))
    (set (spread words n r m) n (bit_or word (own_mask m r)))) (sym e)
    (new_kept w p i column stripe r n cells words word b l o blank a))
