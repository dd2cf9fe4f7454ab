-- Run mode without the places below the first 1, which are coded one by one.
use Rattle.std.specs.Prelude.{ℕ, zero, suc, ◌-◌, ◌<◌, ◌≡◌, Bool, true, false, ◌&&◌, List, [], ◌∷◌}
use Rattle.std.specs.Prelude.{length}
use Rattle.ebcot_contexts.specs.Cells.{Cell, cell_at, is_significant}
use Rattle.ebcot_contexts.specs.Contexts.{Shape}
use Rattle.ebcot_contexts.specs.Asks.{Asks, done, ask, interrupted, row_high, row_low}
use Rattle.ebcot_contexts.specs.Passes.{sign_asked, zeros, is_calm, is_untouched, plane_of}
use Rattle.ebcot_passes.specs.Coding.{IsRow}

-- the first 1, by the high and the low bit of its row
abbrev pub head_at : Shape → ℕ → ℕ → ℕ → ℕ → ℕ → List Cell → Bool → Bool → Asks
head_at s p a b c d cells false false = sign_asked s p a cells
head_at s p a b c d cells false true = sign_asked s p b (zeros p (a ∷ []) cells)
head_at s p a b c d cells true false = sign_asked s p c (zeros p (a ∷ b ∷ []) cells)
head_at s p a b c d cells true true = sign_asked s p d (zeros p (a ∷ b ∷ c ∷ []) cells)

abbrev pub head_found : Shape → ℕ → ℕ → ℕ → ℕ → ℕ → List Cell → Bool → Asks
head_found s p a b c d cells false = done (zeros p (a ∷ b ∷ c ∷ d ∷ []) cells)
head_found s p a b c d cells true =
    ask 18 (row_high p a b c d)
    (λ h. ask 18 (row_low p a b c d) (λ l. head_at s p a b c d cells h l))

unfoldable pub run_head : Shape → ℕ → ℕ → ℕ → ℕ → ℕ → List Cell → Asks
run_head s p a b c d cells = ask 17 (interrupted p a b c d) (head_found s p a b c d cells)

-- what a cleanup asks of a column before its places one by one
abbrev pub calm_head : Shape → ℕ → ℕ → ℕ → ℕ → ℕ → List Cell → Bool → Asks
calm_head s p a b c d cells true = run_head s p a b c d cells
calm_head s p a b c d cells false = done cells

abbrev pub all_calm : Shape → ℕ → List Cell → ℕ → ℕ → ℕ → ℕ → Bool
all_calm s p cells a b c d =
    is_calm s p cells a && is_calm s p cells b && is_calm s p cells c && is_calm s p cells d

abbrev pub column_head : Shape → ℕ → ℕ → ℕ → ℕ → ℕ → List Cell → Asks
column_head s p a b c d cells = calm_head s p a b c d cells (all_calm s p cells a b c d)

-- how many rows of a column come before the first 1
abbrev pub zeros_of : Bool → Bool → Bool → Bool → ℕ
zeros_of true b c d = 0
zeros_of false true c d = 1
zeros_of false false true d = 2
zeros_of false false false true = 3
zeros_of false false false false = 4

-- the place of a row
abbrev pub row_place : ℕ → ℕ → ℕ → ℕ → ℕ → ℕ
row_place zero a b c d = a
row_place (suc zero) a b c d = b
row_place (suc (suc zero)) a b c d = c
row_place (suc (suc (suc n))) a b c d = d

-- the four rows of a column
pub record AreRows (w column stripe n j a b c d : ℕ) : Type 0 where
  pub first : IsRow w a column stripe 0 n j
  pub second : IsRow w b column stripe 1 n j
  pub third : IsRow w c column stripe 2 n j
  pub fourth : IsRow w d column stripe 3 n j

-- four insignificant places of the block, which no pass of plane p has coded
pub record AreNew (p : ℕ) (cells : List Cell) (a b c d : ℕ) : Type 0 where
  pub first : is_significant (cell_at cells a) ≡ false
  pub second : is_significant (cell_at cells b) ≡ false
  pub third : is_significant (cell_at cells c) ≡ false
  pub fourth : is_significant (cell_at cells d) ≡ false
  pub in_first : a < length cells
  pub in_second : b < length cells
  pub in_third : c < length cells
  pub in_fourth : d < length cells
  pub open_first : (cell_at cells a).unknown ≡ suc p
  pub open_second : (cell_at cells b).unknown ≡ suc p
  pub open_third : (cell_at cells c).unknown ≡ suc p
  pub open_fourth : (cell_at cells d).unknown ≡ suc p

-- each place that is significant has been coded in plane p
abbrev pub IsSettled : ℕ → List Cell → Type 0
IsSettled p cells =
    (i : ℕ) → is_untouched p (cell_at cells i) ≡ true → is_significant (cell_at cells i) ≡ false

-- the bit-plane of the pass before pass k, whose touched places the flags show
abbrev pub plane_before : Shape → ℕ → ℕ
plane_before s zero = s.planes - 1
plane_before s (suc k) = plane_of s k
