-- The places of a column, and the contexts of a band.
use Rattle.std.specs.Prelude.{ℕ, ◌+◌, ◌*◌, ◌/◌, ◌%◌, ◌<◌, ◌≤◌, ◌≡◌, ◌⊎◌, List, [], ◌∷◌, get_or}
use Rattle.cine_nums.specs.declared.orient.Orient.{Orient}
use Rattle.flag_words.specs.Words.{IsIn}
use Rattle.flag_words.specs.Lookups.{neighbour_context}

-- the significance contexts of a band, by the bits of eight neighbours
abbrev pub AreContexts : Orient → List ℕ → Type 0
AreContexts orient table = (k : ℕ) → k < 512 → get_or table k 0 ≡ neighbour_context orient k

-- Place i is in row r of a column: n is the index of the column's word, j that of its first place
-- in the grid.
pub record IsRow (w i column stripe r n j : ℕ) : Type 0 where
  pub place : IsIn w i column stripe r
  pub index : n ≡ 34 * stripe + column
  pub some : 0 < w
  pub few : column < 33
  pub last : stripe < 9
  pub grid : j + 32 * r ≡ 32 * (i / w) + i % w

-- the four rows of a column
pub record AreRows (w column stripe n j a b c d : ℕ) : Type 0 where
  pub first : IsRow w a column stripe 0 n j
  pub second : IsRow w b column stripe 1 n j
  pub third : IsRow w c column stripe 2 n j
  pub fourth : IsRow w d column stripe 3 n j

-- The places of a column, of which the last ones may be below a block of n places.
abbrev pub IsSplit : ℕ → List ℕ → ℕ → ℕ → ℕ → ℕ → Type 0
IsSplit n is a b c d =
    (is ≡ a ∷ b ∷ c ∷ d ∷ [])
    ⊎ (((n ≤ d) × (is ≡ a ∷ b ∷ c ∷ []))
    ⊎ (((n ≤ c) × (n ≤ d) × (is ≡ a ∷ b ∷ []))
    ⊎ ((n ≤ b) × (n ≤ c) × (n ≤ d) × (is ≡ a ∷ []))))

-- A column of a stripe, whose word has the index n, and whose first place is j of the grid.
pub record IsColumnAt (w h : ℕ) (is : List ℕ) (column stripe n j : ℕ) : Type 0 where
  pub a : ℕ
  pub b : ℕ
  pub c : ℕ
  pub d : ℕ
  pub rows : AreRows w column stripe n j a b c d
  pub places : IsSplit (w * h) is a b c d
