-- What the coder of a block holds, as relations to the definitions over cells.
use Rattle.std.specs.Prelude.{ℕ, ◌+◌, ◌-◌, ◌*◌, ◌/◌, ◌%◌, ◌<◌, ◌≤◌, ◌≡◌, ◌⊎◌, Bool, List, []}
use Rattle.std.specs.Prelude.{◌∷◌, ◌++◌, length, get_or, take}
use Rattle.cine_nums.specs.declared.orient.Orient.{Orient}
use Rattle.mq_coder.specs.Encoder.{Stands, count_of}
use Rattle.mq_coder.specs.declared.encoder.Encoder.{Encoder}
use Rattle.ebcot_passes.specs.PassCoder.{PassCoder}
use Rattle.ebcot_contexts.specs.Cells.{Cell, cell_at, coef_at, number, IsPlain, AllShow}
use Rattle.ebcot_contexts.specs.Contexts.{Shape}
use Rattle.ebcot_contexts.specs.Asks.{Asks, symbols, outcome}
use Rattle.distortion_sums.specs.Places.{IsHeld}
use Rattle.flag_words.specs.Words.{AreFlags, IsIn}
use Rattle.flag_words.specs.Lookups.{neighbour_context}

-- a coefficient as one word: its magnitude, and its sign in the top bit
abbrev pub word_of : ℕ × Bool → ℕ
word_of coef = coef.0 + 0x80000000 * number coef.1

-- The coefficients of a block stand in a grid 32 words wide.
pub record AreCoefs (w h : ℕ) (coefs : List (ℕ × Bool)) (grid : List ℕ) : Type 0 where
  pub long : length coefs ≡ w * h
  pub below : (i : ℕ) → (coef_at coefs i).0 < 0x80000000
  pub each : (i : ℕ) → i < w * h → get_or grid (32 * (i / w) + i % w) 0 ≡ word_of (coef_at coefs i)

-- the first n coefficients of a block w places wide stand in such a grid
abbrev pub AreLoaded : ℕ → ℕ → List (ℕ × Bool) → List ℕ → Type 0
AreLoaded w n coefs grid =
    (i : ℕ) → i < n → get_or grid (32 * (i / w) + i % w) 0 ≡ word_of (coef_at coefs i)

-- the significance contexts of a band, by the bits of eight neighbours
abbrev pub AreContexts : Orient → List ℕ → Type 0
AreContexts orient table = (k : ℕ) → k < 512 → get_or table k 0 ≡ neighbour_context orient k

-- Place i is in row r of a column: n is the index of the column's word, j that of its first place
-- in the grid.
pub record IsRow (w i column stripe r n j : ℕ) : Type 0 where
  pub place : IsIn w i column stripe r
  pub index : n ≡ 34 * stripe + column
  pub some : 0 < w
  pub few : column < 33
  pub last : stripe < 9
  pub grid : j + 32 * r ≡ 32 * (i / w) + i % w

-- What is known of a block in plane p, and what was coded of it: the cells show the coefficients,
-- the words show the cells, the encoder stands for the symbols, and the coder holds the distortion
-- that is left.
pub record Holds (coefs : List (ℕ × Bool)) (s : Shape) (p : ℕ) (cells : List Cell)
    (coded : List (ℕ × Bool)) (words : List ℕ) (coder : PassCoder) : Type 0 where
  pub long : length cells ≡ s.width * s.height
  pub whole : length coefs ≡ s.width * s.height
  pub plain : (i : ℕ) → IsPlain (cell_at cells i)
  pub shown : AllShow cells coefs
  pub flags : AreFlags s.width p cells words
  pub stands : Stands coder.encoder coded
  pub held : IsHeld coder.distortion coefs cells

-- the same after the coefficients' answers to some questions
abbrev pub HoldsAfter : List (ℕ × Bool) → Shape → ℕ → Asks → List (ℕ × Bool) → List ℕ →
    PassCoder → Type 0
HoldsAfter coefs s p asks coded words coder =
    Holds coefs s p (outcome coefs asks) (coded ++ symbols coefs asks) words coder

-- An encoder has gone on: it put out at most so many bytes more, and changed none before the last.
pub record GoesOn (old new : Encoder) (most : ℕ) : Type 0 where
  pub grows : count_of old ≤ count_of new
  pub most_more : count_of new ≤ count_of old + most
  pub fixed : take (count_of old - 1) new.bytes.now ≡ take (count_of old - 1) old.bytes.now
  pub room : length new.bytes.now ≡ length old.bytes.now
  pub same_reference : new.bytes.ghost_name ≡ old.bytes.ghost_name

-- The places of a column, of which the last ones may be below a block of n places.
abbrev pub IsSplit : ℕ → List ℕ → ℕ → ℕ → ℕ → ℕ → Type 0
IsSplit n is a b c d =
    (is ≡ a ∷ b ∷ c ∷ d ∷ [])
    ⊎ (((n ≤ d) × (is ≡ a ∷ b ∷ c ∷ []))
    ⊎ (((n ≤ c) × (n ≤ d) × (is ≡ a ∷ b ∷ []))
    ⊎ ((n ≤ b) × (n ≤ c) × (n ≤ d) × (is ≡ a ∷ []))))

-- A column of a stripe, whose word has the index n, and whose first place is j of the grid.
pub record IsColumnAt (w h : ℕ) (is : List ℕ) (column stripe n j : ℕ) : Type 0 where
  pub a : ℕ
  pub b : ℕ
  pub c : ℕ
  pub d : ℕ
  pub first : IsRow w a column stripe 0 n j
  pub second : IsRow w b column stripe 1 n j
  pub third : IsRow w c column stripe 2 n j
  pub fourth : IsRow w d column stripe 3 n j
  pub places : IsSplit (w * h) is a b c d
