-- What one budget holds of two blocks, for tests: of each block so many bytes at each count.
use Rattle.std.specs.Prelude.{ℕ, zero, suc, ◌+◌, ◌%◌, List, get_or}

-- numbers of bytes are read below 2^20
abbrev pub size_at : List ℕ → ℕ → ℕ
size_at sizes count = get_or sizes count 0 % 1048576

abbrev pub both_at : List ℕ → List ℕ → List ℕ → ℕ
both_at firsts seconds counts =
    size_at firsts (get_or counts 0 0) + size_at seconds (get_or counts 1 0)

-- budget 0 is the only one
abbrev pub held_at : List ℕ → List ℕ → List ℕ → ℕ → ℕ
held_at firsts seconds counts zero = both_at firsts seconds counts
held_at firsts seconds counts (suc j) = 0
