-- Places and columns ask honestly.
use Rattle.std.proofs.Common.{ℕ, suc, ◌<◌, ◌≡◌, ◌⊎◌, inl, inr, ◌↔◌, Bool, true, false, not, ◌&&◌}
use Rattle.std.proofs.Common.{List, [], ◌∷◌, length, refl, arith}
use Rattle.std.proofs.lemmas.Bool.{and_parts, not-true, not-false, eqb-true, false≢true}
use Rattle.ebcot_contexts.specs.Cells.{Cell, is_significant, cell_at, coef_at, bit_of, learn}
use Rattle.ebcot_contexts.specs.Cells.{become_significant, Shows, AllShow}
use Rattle.ebcot_contexts.specs.Contexts.{Shape, sign_at}
use Rattle.ebcot_contexts.specs.Asks.{bit, sign, flipped, done}
use Rattle.ebcot_contexts.specs.Passes.{Kind, significance, refinement, cleanup, learned}
use Rattle.ebcot_contexts.specs.Passes.{sign_asked, after_bit, place, is_coded, coded_in, visit}
use Rattle.ebcot_contexts.specs.Passes.{each}
use Rattle.ebcot_contexts.proofs.Shown.{learn_on, learn_back, appear_on, appear_back, set_on}
use Rattle.ebcot_contexts.proofs.Shown.{set_back, set_there, Sound, sound_set, plain_learn}
use Rattle.ebcot_contexts.proofs.Shown.{plain_appear}
use Rattle.ebcot_contexts.proofs.Scanned.{Within}
use Rattle.ebcot_contexts.proofs.Trees.{Honest, honest_known, honest_ask, honest_chain}

turned_twice : (f b m : Bool) → b ≡ flipped f m → flipped f b ≡ m
turned_twice true true true e = cc
turned_twice true true false e = refl
turned_twice true false true e = refl
turned_twice true false false e = cc
turned_twice false b m e = e

turned_back : (f b m : Bool) → flipped f b ≡ m → b ≡ flipped f m
turned_back true true true e = cc
turned_back true true false e = refl
turned_back true false true e = refl
turned_back true false false e = cc
turned_back false b m e = e

module _ (n : ℕ) (coefs : List (ℕ × Bool)) (s : Shape) (p : ℕ) where
  -- a place is in the block, and untouched
  abbrev pub Open : ℕ → List Cell → Type 0
  Open i cells = (i < n) × ((cell_at cells i).unknown ≡ suc p)

  abbrev pub Bit : Bool → ℕ → Type 0
  Bit b i = b ≡ bit_of (coef_at coefs i).0 p

  pub learned_iff : (b : Bool) (i : ℕ) (cells : List Cell) → Sound n cells → Open i cells →
      (is_significant (cell_at cells i) ≡ true) ⊎ (b ≡ false)
      → (AllShow cells coefs × Bit b i) ↔ AllShow (learned p b i cells) coefs
  learned_iff b i cells s o k =
      let l : i < length cells = omega (arith, s.long, o.0) in
      let back : Shows (learn p b (cell_at cells i)) (coef_at coefs i) →
      Shows (cell_at cells i) (coef_at coefs i) × Bit b i =
      learn_back p b (cell_at cells i) (coef_at coefs i) o.1 k in (
        λ r. set_on cells coefs i (learn p b (cell_at cells i)) l r.0
            (learn_on p b (cell_at cells i) (coef_at coefs i) o.1 k (r.0 i) r.1),
        λ a. (
          set_back cells coefs i (learn p b (cell_at cells i)) l a (λ t. (back t).0),
          (back (set_there cells coefs i (learn p b (cell_at cells i)) l a)).1,
        ),
      )

  pub learned_sound : (b : Bool) (i : ℕ) (cells : List Cell) → Sound n cells → i < n →
      (is_significant (cell_at cells i) ≡ true) ⊎ (b ≡ false) → Sound n (learned p b i cells)
  learned_sound b i cells s l k =
      sound_set n cells i (learn p b (cell_at cells i)) l s
      (plain_learn p b (cell_at cells i) k (s.plain i))

  pub new_honest : (i : ℕ) (cells : List Cell) → Sound n cells → Open i cells →
      is_significant (cell_at cells i) ≡ false
      → Honest n coefs (AllShow cells coefs × Bit true i) (sign_asked s p i cells)
  unfolding sign_asked
  new_honest i cells sound o none =
      let l : i < length cells = omega (arith, sound.long, o.0) in
      let flip : Bool = (sign_at s cells i).1 in
      let c : Cell = cell_at cells i in
      let m : ℕ × Bool = coef_at coefs i in
      honest_ask n coefs _ (sign_at s cells i).0 (sign flip i) _ (λ b.
      let back : Shows (become_significant p (flipped flip b) c) m →
      Shows c m × (true ≡ bit_of m.0 p) × (flipped flip b ≡ m.1) =
      appear_back p (flipped flip b) c m o.1 none (sound.plain i none) in
      honest_known n coefs _ _
      (sound_set n cells i (become_significant p (flipped flip b) c) o.0 sound
      (plain_appear p (flipped flip b) c)) (
        λ r. set_on cells coefs i (become_significant p (flipped flip b) c) l r.0.0
            (appear_on p (flipped flip b) c m o.1 (r.0.0 i) r.0.1 (turned_twice flip b m.1 r.1)),
        λ a.
            let there = back (set_there cells coefs i
            (become_significant p (flipped flip b) c) l a) in (
              (
                set_back cells coefs i (become_significant p (flipped flip b) c) l a
                    (λ t. (back t).0),
                there.1,
              ),
              turned_back flip b m.1 there.2,
            ),
      ))

  after_if : (b t : Bool) (i : ℕ) (cells : List Cell) → Sound n cells → Open i cells →
      (b && not (is_significant (cell_at cells i))) ≡ t
      → Honest n coefs (AllShow cells coefs × Bit b i)
      (elim t [ true ↦ sign_asked s p i cells | false ↦ done (learned p b i cells) ])
  after_if true true i cells sound o e = new_honest i cells sound o (not-true _ e)
  after_if true false i cells sound o e =
      honest_known n coefs _ _ (learned_sound true i cells sound o.0 (inl (not-false _ e)))
      (learned_iff true i cells sound o (inl (not-false _ e)))
  after_if false false i cells sound o e =
      honest_known n coefs _ _ (learned_sound false i cells sound o.0 (inr refl))
      (learned_iff false i cells sound o (inr refl))
  after_if false true i cells sound o e = absurd (false≢true e)

  after_honest : (b : Bool) (i : ℕ) (cells : List Cell) → Sound n cells → Open i cells →
      Honest n coefs (AllShow cells coefs × Bit b i) (after_bit s p i cells b)
  unfolding after_bit
  after_honest b i cells sound o =
      after_if b (b && not (is_significant (cell_at cells i))) i cells sound o refl

  place_honest : (cx i : ℕ) (cells : List Cell) → Sound n cells → Open i cells →
      Honest n coefs (AllShow cells coefs) (place s cx p i cells)
  unfolding place
  place_honest cx i cells sound o =
      honest_ask n coefs _ cx (bit p i) (after_bit s p i cells)
      (λ b. after_honest b i cells sound o)

  coded_untouched : (kind : Kind) (i : ℕ) (cells : List Cell) → is_coded kind s p i cells ≡ true →
      (cell_at cells i).unknown ≡ suc p
  coded_untouched significance i cells e = eqb-true _ _ (and_parts _ _ (and_parts _ _ e).0).0
  coded_untouched refinement i cells e = eqb-true _ _ (and_parts _ _ e).0
  coded_untouched cleanup i cells e = eqb-true _ _ e

  visit_if : (kind : Kind) (t : Bool) (cx i : ℕ) (cells : List Cell) → Sound n cells → i < n →
      is_coded kind s p i cells ≡ t
      → Honest n coefs (AllShow cells coefs)
      (elim t [ true ↦ place s cx p i cells | false ↦ done cells ])
  visit_if kind true cx i cells sound l e =
      place_honest cx i cells sound (l, coded_untouched kind i cells e)
  visit_if kind false cx i cells sound l e = honest_known n coefs _ cells sound (λ a. a, λ a. a)

  pub visit_honest : (kind : Kind) (i : ℕ) (cells : List Cell) → Sound n cells → i < n →
      Honest n coefs (AllShow cells coefs) (visit kind s p i cells)
  unfolding visit
  visit_honest kind i cells sound l =
      visit_if kind (is_coded kind s p i cells) (coded_in kind s i cells) i cells sound l refl

  pub each_honest : (kind : Kind) (is : List ℕ) (cells : List Cell) → Within n is → Sound n cells →
      Honest n coefs (AllShow cells coefs) (each kind s p is cells)
  each_honest kind [] cells w sound = honest_known n coefs _ cells sound (λ a. a, λ a. a)
  each_honest kind (i ∷ is) cells w sound =
      honest_chain n coefs _ (visit kind s p i cells) (each kind s p is)
      (visit_honest kind i cells sound w.0) (λ c h. each_honest kind is c w.1 h)
