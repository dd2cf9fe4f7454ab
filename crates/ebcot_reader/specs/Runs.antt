-- Run mode without the places below the first 1, which are read one by one.
use Rattle.std.specs.Prelude.{ℕ, zero, suc, ◌-◌, ◌<◌, ◌≡◌, Bool, true, false, ◌&&◌, List, [], ◌∷◌}
use Rattle.std.specs.Prelude.{length}
use Rattle.ebcot_contexts.specs.Cells.{Cell, cell_at, is_significant}
use Rattle.ebcot_contexts.specs.Contexts.{Shape}
use Rattle.ebcot_contexts.specs.Asks.{Asks, done, ask, interrupted, row_high, row_low}
use Rattle.ebcot_contexts.specs.Passes.{sign_asked, zeros, is_calm, is_untouched, plane_of}

-- the first 1, by the high and the low bit of its row
abbrev pub head_at : Shape → ℕ → ℕ → ℕ → ℕ → ℕ → List Cell → Bool → Bool → Asks
head_at s p a b c d cells false false = sign_asked s p a cells
head_at s p a b c d cells false true = sign_asked s p b (zeros p (a ∷ []) cells)
head_at s p a b c d cells true false = sign_asked s p c (zeros p (a ∷ b ∷ []) cells)
head_at s p a b c d cells true true = sign_asked s p d (zeros p (a ∷ b ∷ c ∷ []) cells)

abbrev pub head_found : Shape → ℕ → ℕ → ℕ → ℕ → ℕ → List Cell → Bool → Asks
head_found s p a b c d cells false = done (zeros p (a ∷ b ∷ c ∷ d ∷ []) cells)
head_found s p a b c d cells true =
    ask 18 (row_high p a b c d)
    (λ h. ask 18 (row_low p a b c d) (λ l. head_at s p a b c d cells h l))

unfoldable pub run_head : Shape → ℕ → ℕ → ℕ → ℕ → ℕ → List Cell → Asks
run_head s p a b c d cells = ask 17 (interrupted p a b c d) (head_found s p a b c d cells)

-- what a cleanup asks of a column before its places one by one
abbrev pub calm_head : Shape → ℕ → ℕ → ℕ → ℕ → ℕ → List Cell → Bool → Asks
calm_head s p a b c d cells true = run_head s p a b c d cells
calm_head s p a b c d cells false = done cells

abbrev pub all_calm : Shape → ℕ → List Cell → ℕ → ℕ → ℕ → ℕ → Bool
all_calm s p cells a b c d =
    is_calm s p cells a && is_calm s p cells b && is_calm s p cells c && is_calm s p cells d

abbrev pub column_head : Shape → ℕ → ℕ → ℕ → ℕ → ℕ → List Cell → Asks
column_head s p a b c d cells = calm_head s p a b c d cells (all_calm s p cells a b c d)

-- four insignificant places of the block
pub record AreNew (cells : List Cell) (a b c d : ℕ) : Type 0 where
  pub first : is_significant (cell_at cells a) ≡ false
  pub second : is_significant (cell_at cells b) ≡ false
  pub third : is_significant (cell_at cells c) ≡ false
  pub fourth : is_significant (cell_at cells d) ≡ false
  pub in_first : a < length cells
  pub in_second : b < length cells
  pub in_third : c < length cells
  pub in_fourth : d < length cells

-- each place that is significant has been read in plane p
abbrev pub IsSettled : ℕ → List Cell → Type 0
IsSettled p cells =
    (i : ℕ) → is_untouched p (cell_at cells i) ≡ true → is_significant (cell_at cells i) ≡ false

-- the bit-plane of the pass before pass k, whose touched places the flags show
abbrev pub plane_before : Shape → ℕ → ℕ
plane_before s zero = s.planes - 1
plane_before s (suc k) = plane_of s k

-- the row of the first 1, by its high and its low bit
abbrev pub row_index : Bool → Bool → ℕ
row_index false false = 0
row_index false true = 1
row_index true false = 2
row_index true true = 3
