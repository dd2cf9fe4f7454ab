-- A context as the coder holds it: the row of its state in one word.
use Rattle.std.specs.Prelude.{ℕ, zero, suc, ◌+◌, ◌*◌, ◌/◌, ◌%◌, ◌<◌, ◌≡◌, Bool, true, false, not}
use Rattle.std.specs.Prelude.{◌==◌, if◌then◌else◌}
use Rattle.mq_coder.specs.States.{row, after_symbol}

abbrev pub bit_value : Bool → ℕ
bit_value true = 1
bit_value false = 0

-- a context as a number below 94: twice its state, and one more where its MPS is 1
abbrev pub number_of : ℕ × Bool → ℕ
number_of context = 2 * context.0 + bit_value context.1

abbrev pub numbered : ℕ → ℕ × Bool
numbered n = (n / 2, n % 2 == 1)

-- The row of a context: Qe in bits 0 to 14, the MPS in bit 15, the number of the context that
-- follows the MPS in bits 16 to 22 and of the one that follows the LPS in bits 24 to 30.
unfoldable pub row_word : ℕ × Bool → ℕ
row_word context =
    (row context.0).qe + 0x8000 * bit_value context.1
    + 0x10000 * number_of (after_symbol context context.1)
    + 0x1000000 * number_of (after_symbol context (not context.1))

-- the context whose row a word is, among those with numbers below n
unfoldable pub context_below : ℕ → ℕ → ℕ × Bool
context_below zero word = (0, false)
context_below (suc n) word =
    let lower = context_below n word in
    if row_word (numbered n) == word then numbered n else lower

abbrev pub context_of : ℕ → ℕ × Bool
context_of word = context_below 94 word

-- a word that is the row of a context
pub record IsRow (word : ℕ) : Type 0 where
  pub in_table : (context_of word).0 < 47
  pub is_row : word ≡ row_word (context_of word)
