-- What the bits of a word say of a place of its column.
use Rattle.std.proofs.Common.{ℕ, zero, suc, ◌+◌, ◌-◌, ◌*◌, ◌/◌, ◌%◌, ◌^◌, ◌<◌, ◌≤◌, ◌≡◌, Bool, true}
use Rattle.std.proofs.Common.{false, not, ltb, List, refl, sym, ap, ◌∙◌, arith}
use Rattle.std.specs.Prelude.{if◌then◌else◌, nat_le, min, bit_and}
use Rattle.std.specs.Int.{bit_at}
use Rattle.std.proofs.lemmas.Bool.{lt-ltb}
use Rattle.std.proofs.lemmas.Nat.{shr-shr, and_le_r}
use Rattle.std.proofs.lemmas.Nat.Bits.{bit_at_and, bit_at-lt}
use Rattle.ebcot_contexts.specs.Cells.{Cell, is_significant, cell_at, number}
use Rattle.ebcot_contexts.specs.Contexts.{bordered, neighbour}
use Rattle.ebcot_contexts.specs.Passes.{is_untouched}
use Rattle.flag_words.specs.Words.{row_of, column_of, flag_at, flag_of, around, IsFlagWord, IsIn}
use Rattle.flag_words.specs.Lookups.{neighbours_of}
use Rattle.flag_words.proofs.Borders.{bordered_at}

low_row : (k : ℕ) (t : Bool) → ltb k 18 ≡ t → k < 18 → (if t then k / 3 else (k - 16) / 3) ≡ k / 3
low_row k true e l = refl
low_row k false e l = absurd (let f : true ≡ false = sym (lt-ltb k 18 l) ∙ e in cc)

low_column : (k : ℕ) (t : Bool) → ltb k 18 ≡ t → k < 18 → (if t then k % 3 else 1) ≡ k % 3
low_column k true e l = refl
low_column k false e l = absurd (let f : true ≡ false = sym (lt-ltb k 18 l) ∙ e in cc)

low_flag : (t s x : Bool) → t ≡ true → (if t then s else x) ≡ s
low_flag true s x e = refl
low_flag false s x e = cc

module _ (w p i column stripe r : ℕ) (cells : List Cell) (word : ℕ) (few : r < 4)
    (at : IsIn w i column stripe r) (some : 0 < w)
    (is : IsFlagWord w p cells column stripe word) where
  -- the significance of a neighbour, or of the place itself
  pub sig_bit : (dx dy : ℕ) → dx < 3 → dy < 3 →
      bit_at word (3 * r + (3 * dy + dx)) ≡ number (is_significant (neighbour w cells i dx dy))
  sig_bit dx dy lx ly =
      let k : ℕ = 3 * r + (3 * dy + dx) in
      let lk : k < 18 = omega arith in
      let er : row_of k ≡ r + dy = low_row k (ltb k 18) refl lk
      ∙ (let e : k / 3 ≡ r + dy = omega arith in e) in
      let ec : column_of k ≡ dx = low_column k (ltb k 18) refl lk
      ∙ (let e : k % 3 ≡ dx = omega arith in e) in
      let ex : column ≡ suc (i % w) = at.column_is in
      let ey : 4 * stripe + r ≡ i / w + 4 = at.row_is in
      let xx : column + dx - 1 ≡ i % w + dx = omega arith in
      let yy : 4 * stripe + (r + dy) - 4 ≡ i / w + dy = omega arith in
      is k (omega arith)
      ∙ ap number (low_flag (ltb k 18) _ _ (lt-ltb k 18 lk))
      ∙ ap (λ (v : ℕ). number (is_significant (around w cells column stripe v (column_of k)))) er
      ∙ ap (λ (v : ℕ). number (is_significant (around w cells column stripe (r + dy) v))) ec
      ∙ ap (λ (v : ℕ). number (is_significant (bordered w cells v (4 * stripe + (r + dy) - 4)))) xx
      ∙ ap (λ (v : ℕ). number (is_significant (bordered w cells (i % w + dx) v))) yy

  own_around : around w cells column stripe (suc r) 1 ≡ cell_at cells i
  own_around =
      let ex : column ≡ suc (i % w) = at.column_is in
      let ey : 4 * stripe + r ≡ i / w + 4 = at.row_is in
      bordered_at w cells i (column + 1 - 1) (4 * stripe + suc r - 4) some (omega arith)
      (omega arith)

  own_bit : (k : ℕ) → k < 32 → row_of k ≡ suc r → column_of k ≡ 1 →
      bit_at word k ≡ number (flag_of p k (cell_at cells i))
  own_bit k l er ec =
      is k l ∙ ap (λ (v : ℕ). number
      (flag_of p k (around w cells column stripe v (column_of k)))) er
      ∙ ap (λ (v : ℕ). number (flag_of p k (around w cells column stripe (suc r) v))) ec
      ∙ ap (λ (x : Cell). number (flag_of p k x)) own_around

  pub own_sig : bit_at word (4 + 3 * r) ≡ number (is_significant (cell_at cells i))
  own_sig =
      let k : ℕ = 4 + 3 * r in
      let lk : k < 18 = omega arith in
      own_bit k (omega arith) (low_row k (ltb k 18) refl lk
      ∙ (let e : k / 3 ≡ suc r = omega arith in e))
      (low_column k (ltb k 18) refl lk ∙ (let e : k % 3 ≡ 1 = omega arith in e))
      ∙ ap number (low_flag (ltb k 18) _ _ (lt-ltb k 18 lk))

-- where the bits of the own column are
pub own_places : (r : ℕ) → r < 4 → (s n f t : Bool)
    → ((row_of (19 + 3 * r) ≡ suc r) × (column_of (19 + 3 * r) ≡ 1) ×
    (flag_at (19 + 3 * r) s n f t ≡ n))
    × ((row_of (20 + 3 * r) ≡ suc r) × (column_of (20 + 3 * r) ≡ 1) ×
    (flag_at (20 + 3 * r) s n f t ≡ f))
    × ((row_of (21 + 3 * r) ≡ suc r) × (column_of (21 + 3 * r) ≡ 1) ×
    (flag_at (21 + 3 * r) s n f t ≡ t))
own_places zero l s n f t = ((refl, refl, refl), (refl, refl, refl), (refl, refl, refl))
own_places (suc zero) l s n f t = ((refl, refl, refl), (refl, refl, refl), (refl, refl, refl))
own_places (suc (suc zero)) l s n f t = ((refl, refl, refl), (refl, refl, refl), (refl, refl, refl))
own_places (suc (suc (suc zero))) l s n f t =
    ((refl, refl, refl), (refl, refl, refl), (refl, refl, refl))
own_places (suc (suc (suc (suc r)))) l s n f t = absurd (omega arith)

module _ (w p i column stripe r : ℕ) (cells : List Cell) (word : ℕ) (few : r < 4)
    (at : IsIn w i column stripe r) (some : 0 < w)
    (is : IsFlagWord w p cells column stripe word) where
  abbrev c : Cell
  c = cell_at cells i

  pub own_negative : bit_at word (19 + 3 * r) ≡ number c.negative
  own_negative =
      let o = (own_places r few (is_significant c) c.negative (nat_le 2 c.magnitude)
      (not (is_untouched p c))).0 in
      own_bit w p i column stripe r cells word few at some is (19 + 3 * r) (omega arith) o.0 o.1
      ∙ ap number o.2

  pub own_refined : bit_at word (20 + 3 * r) ≡ number (nat_le 2 c.magnitude)
  own_refined =
      let o = (own_places r few (is_significant c) c.negative (nat_le 2 c.magnitude)
      (not (is_untouched p c))).1 in
      own_bit w p i column stripe r cells word few at some is (20 + 3 * r) (omega arith) o.0 o.1
      ∙ ap number o.2

  pub own_touched : bit_at word (21 + 3 * r) ≡ number (not (is_untouched p c))
  own_touched =
      let o = (own_places r few (is_significant c) c.negative (nat_le 2 c.magnitude)
      (not (is_untouched p c))).2 in
      own_bit w p i column stripe r cells word few at some is (21 + 3 * r) (omega arith) o.0 o.1
      ∙ ap number o.2

mask_bit : (x j : ℕ) → (j < 9) → (j ≡ 4 → ⊥) → min (bit_at x j) (bit_at 0x1EF j) ≡ bit_at x j
mask_bit x j l apart =
    let b : bit_at x j < 2 = bit_at-lt x j in
    let one : bit_at 0x1EF j ≡ 1 = set_there j l apart in
    omega arith
  where
    set_there : (j : ℕ) → j < 9 → (j ≡ 4 → ⊥) → bit_at 0x1EF j ≡ 1
    set_there zero l a = refl
    set_there (suc zero) l a = refl
    set_there (suc (suc zero)) l a = refl
    set_there (suc (suc (suc zero))) l a = refl
    set_there (suc (suc (suc (suc zero)))) l a = absurd (a refl)
    set_there (suc (suc (suc (suc (suc zero))))) l a = refl
    set_there (suc (suc (suc (suc (suc (suc zero)))))) l a = refl
    set_there (suc (suc (suc (suc (suc (suc (suc zero))))))) l a = refl
    set_there (suc (suc (suc (suc (suc (suc (suc (suc zero)))))))) l a = refl
    set_there (suc (suc (suc (suc (suc (suc (suc (suc (suc j))))))))) l a = absurd (omega arith)

-- the bits of the neighbours are those of the word
pub neighbour_bit : (word r j : ℕ) → j < 9 → (j ≡ 4 → ⊥) →
    bit_at (neighbours_of word r) j ≡ bit_at word (3 * r + j)
neighbour_bit word r j l apart =
    bit_at_and (word / 2 ^ (3 * r)) 0x1EF j ∙ mask_bit (word / 2 ^ (3 * r)) j l apart
    ∙ ap (λ (v : ℕ). v % 2) (shr-shr word (3 * r) j)

-- the place itself isn't among them
pub middle : (word r : ℕ) → bit_at (neighbours_of word r) 4 ≡ 0
middle word r = bit_at_and (word / 2 ^ (3 * r)) 0x1EF 4 ∙ none (bit_at (word / 2 ^ (3 * r)) 4)
  where
    none : (n : ℕ) → min n 0 ≡ 0
    none n = omega arith

pub neighbours_few : (word r : ℕ) → neighbours_of word r < 512
neighbours_few word r = bounded (word / 2 ^ (3 * r))
  where
    bounded : (x : ℕ) → bit_and x 0x1EF < 512
    bounded x = let l : bit_and x 0x1EF ≤ 0x1EF = and_le_r x 0x1EF in omega arith
