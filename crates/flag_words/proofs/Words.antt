-- The words of a block, before and after one of its cells changes.
use Rattle.std.proofs.Common.{ℕ, suc, ◌+◌, ◌-◌, ◌*◌, ◌/◌, ◌%◌, ◌<◌, ◌≡◌, inl, inr, Bool, true}
use Rattle.std.proofs.Common.{false, ltb, List, length, set, refl, sym, ap, ◌∙◌, arith}
use Rattle.std.specs.Prelude.{if◌then◌else◌}
use Rattle.std.specs.Int.{bit_at}
use Rattle.std.proofs.lemmas.Bool.{cases_eq, ltb-true}
use Rattle.ebcot_contexts.specs.Cells.{Cell, cell_at, number}
use Rattle.flag_words.specs.Words.{row_of, column_of, flag_of, around, IsFlagWord}
use Rattle.flag_words.proofs.Borders.{bordered_at, bordered_same, bordered_other}

row_if : (k : ℕ) (t : Bool) → ltb k 18 ≡ t → k < 32 → (if t then k / 3 else (k - 16) / 3) < 6
row_if k true e l = let m : k < 18 = ltb-true k 18 e in omega arith
row_if k false e l = omega arith

pub row_few : (k : ℕ) → k < 32 → row_of k < 6
row_few k l = row_if k (ltb k 18) refl l

column_if : (k : ℕ) (t : Bool) → (if t then k % 3 else 1) < 3
column_if k true = omega arith
column_if k false = omega arith

pub column_few : (k : ℕ) → column_of k < 3
column_few k = column_if k (ltb k 18)

module _ (w p : ℕ) (cells : List Cell) (i : ℕ) (d : Cell) (column stripe : ℕ) where
  -- the place is at row r and column c around the word's column
  abbrev pub Shows : ℕ → ℕ → Type 0
  Shows r c = (column + c - 1 ≡ suc (i % w)) × (4 * stripe + r - 4 ≡ suc (i / w))

  -- a word stays right where the flags that it shows of the place stay
  pub word_kept : (word : ℕ) → 0 < w → i < length cells
      → ((k : ℕ) → k < 32 → Shows (row_of k) (column_of k) →
      flag_of p k (cell_at cells i) ≡ flag_of p k d)
      → IsFlagWord w p cells column stripe word → IsFlagWord w p (set cells i d) column stripe word
  word_kept word some inside same old k l =
      elim (cases_eq (column + column_of k - 1) (suc (i % w))) [
        | inl ex ↦ elim (cases_eq (4 * stripe + row_of k - 4) (suc (i / w))) [
          | inl ey ↦
              old k l
              ∙ ap (λ (x : Cell). number (flag_of p k x))
              (bordered_at w cells i (column + column_of k - 1)
              (4 * stripe + row_of k - 4) some ex ey)
              ∙ ap number (same k l (ex, ey))
              ∙ ap (λ (x : Cell). number (flag_of p k x))
              (sym (bordered_same w cells i d (column + column_of k - 1)
              (4 * stripe + row_of k - 4) some inside ex ey))
          | inr ny ↦ other k l (λ ex ey. ny ey)
        ]
        | inr nx ↦ other k l (λ ex ey. nx ex)
      ]
    where
      other : (k : ℕ) → k < 32 → (column + column_of k - 1 ≡ suc (i % w) →
          4 * stripe + row_of k - 4 ≡ suc (i / w) → ⊥)
          → bit_at word k ≡ number (flag_of p k
          (around w (set cells i d) column stripe (row_of k) (column_of k)))
      other k l apart =
          old k l ∙ ap (λ (x : Cell). number (flag_of p k x))
          (sym (bordered_other w cells i d (column + column_of k - 1)
          (4 * stripe + row_of k - 4) apart))

  -- a word that doesn't show the place stays right
  pub word_without : (word : ℕ) → ((r c : ℕ) → r < 6 → c < 3 → Shows r c → ⊥)
      → IsFlagWord w p cells column stripe word → IsFlagWord w p (set cells i d) column stripe word
  word_without word apart old k l =
      old k l ∙ ap (λ (x : Cell). number (flag_of p k x))
      (sym (bordered_other w cells i d (column + column_of k - 1) (4 * stripe + row_of k - 4)
      (λ ex ey. apart (row_of k) (column_of k) (row_few k l) (column_few k) (ex, ey))))

  -- What a word that shows the place has to change: the bits of that place alone.
  pub record Changes (r c word word' : ℕ) : Type 0 where
    pub there : (k : ℕ) → k < 32 → row_of k ≡ r → column_of k ≡ c
        → bit_at word k ≡ number (flag_of p k (cell_at cells i)) →
        bit_at word' k ≡ number (flag_of p k d)
    pub elsewhere : (k : ℕ) → k < 32 → ((row_of k ≡ r) × (column_of k ≡ c) → ⊥) →
        bit_at word' k ≡ bit_at word k

  pub word_with : (r c word word' : ℕ) → 0 < w → i < length cells → Shows r c →
      Changes r c word word'
      → IsFlagWord w p cells column stripe word → IsFlagWord w p (set cells i d) column stripe word'
  word_with r c word word' some inside at changes old k l =
      elim (cases_eq (row_of k) r) [
        | inl er ↦ elim (cases_eq (column_of k) c) [
          | inl ec ↦
              let ex : column + column_of k - 1 ≡ suc (i % w) = ap (λ (v : ℕ). column + v - 1) ec
              ∙ at.0 in
              let ey : 4 * stripe + row_of k - 4 ≡ suc (i / w) =
              ap (λ (v : ℕ). 4 * stripe + v - 4) er ∙ at.1 in
              changes.there k l er ec
              (old k l ∙ ap (λ (x : Cell). number (flag_of p k x))
              (bordered_at w cells i (column + column_of k - 1)
              (4 * stripe + row_of k - 4) some ex ey))
              ∙ ap (λ (x : Cell). number (flag_of p k x))
              (sym (bordered_same w cells i d (column + column_of k - 1)
              (4 * stripe + row_of k - 4) some inside ex ey))
          | inr nc ↦ other k l (λ e. nc e.1)
        ]
        | inr nr ↦ other k l (λ e. nr e.0)
      ]
    where
      other : (k : ℕ) → k < 32 → ((row_of k ≡ r) × (column_of k ≡ c) → ⊥)
          → bit_at word' k ≡ number (flag_of p k
          (around w (set cells i d) column stripe (row_of k) (column_of k)))
      other k l apart =
          changes.elsewhere k l apart ∙ old k l ∙ ap (λ (x : Cell). number (flag_of p k x))
          (sym (bordered_other w cells i d (column + column_of k - 1) (4 * stripe + row_of k - 4)
          (λ ex ey. apart (rows (row_of k) ey at.1, columns (column_of k) ex at.0))))
        where
          rows : (v : ℕ) → 4 * stripe + v - 4 ≡ suc (i / w) → 4 * stripe + r - 4 ≡ suc (i / w) →
              v ≡ r
          rows v a b = omega arith

          columns : (v : ℕ) → column + v - 1 ≡ suc (i % w) → column + c - 1 ≡ suc (i % w) → v ≡ c
          columns v a b = omega arith
