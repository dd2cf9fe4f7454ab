-- Codes that stand one after the other, each found by where it ends.
use Rattle.std.specs.Prelude.{ℕ, List, ◌∷◌, get_or, slice_range}

-- where code n ends, and where it begins: where the one before it ends
abbrev pub end_of : List ℕ → ℕ → ℕ
end_of ends n = get_or ends n 0

abbrev pub start_of : List ℕ → ℕ → ℕ
start_of ends n = get_or (0 ∷ ends) n 0

-- code n
unfoldable pub code_in : List ℕ → List ℕ → ℕ → List ℕ
code_in bytes ends n = slice_range bytes (start_of ends n) (end_of ends n)
