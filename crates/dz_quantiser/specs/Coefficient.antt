-- A quantised coefficient (ISO/IEC 15444-1, Annex E.2): its magnitude and its sign.
use Rattle.std.specs.Prelude.{ℕ, ◌+◌, ◌%◌, Bool, false, nat_le, if◌then◌else◌}

-- the size of the index, and whether its sign is minus
pub record Coefficient : Type 0 where
  pub magnitude : ℕ
  pub negative : Bool

-- the index 0, whose sign is plus
abbrev pub zero_coefficient : Coefficient
zero_coefficient = record { magnitude = 0; negative = false }

-- a coefficient whose magnitude has at most 31 bits as a word of 32 bits: the sign is the highest
-- bit
abbrev pub word_of : Coefficient → ℕ
word_of c = c.magnitude + (if c.negative then 2147483648 else 0)

-- the coefficient of such a word
abbrev pub of_word : ℕ → Coefficient
of_word word = record { magnitude = word % 2147483648; negative = nat_le 2147483648 word }
