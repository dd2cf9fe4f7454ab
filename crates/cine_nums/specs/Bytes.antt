-- Numbers as bytes, the high byte first (ISO/IEC 15444-1, A.1.3).
use Rattle.std.specs.Prelude.{ℕ, ◌+◌, ◌*◌, ◌/◌, ◌%◌, List, [], ◌∷◌, slice_index}

-- the number of 16 bits at a place
abbrev pub word_at : List ℕ → ℕ → ℕ
word_at bytes at = slice_index bytes at * 256 + slice_index bytes (at + 1)

-- the number of 32 bits at a place
abbrev pub long_at : List ℕ → ℕ → ℕ
long_at bytes at = word_at bytes at * 65536 + word_at bytes (at + 2)

-- a number of 16 bits, and one of 32 bits, as bytes
abbrev pub word_bytes : ℕ → List ℕ
word_bytes n = n / 256 ∷ n % 256 ∷ []

abbrev pub long_bytes : ℕ → List ℕ
long_bytes n = n / 16777216 ∷ n / 65536 % 256 ∷ n / 256 % 256 ∷ n % 256 ∷ []
