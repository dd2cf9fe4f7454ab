-- Coding as a row of questions, each asked in a context. An encoder answers them by the
-- coefficients and puts the answers out as symbols, a decoder takes the answers from the bytes. So
-- both have the same contexts, in the same order, and what is asked is written once.
use Rattle.std.specs.Prelude.{ℕ, ◌%◌, ◌≡◌, Bool, true, false, not, ◌||◌, ◌==◌, nat_le, List, []}
use Rattle.std.specs.Prelude.{◌∷◌}
use Rattle.ebcot_contexts.specs.Cells.{Cell, coef_at, bit_of}

pub data Question : Type 0 where
  -- bit p of place i
  bit : ℕ → ℕ → Question
  -- the sign bit of a place, 1 for negative, flipped where the XOR bit of Table D.3 is 1
  sign : Bool → ℕ → Question
  -- Run mode (Table D.5), of plane p and the four places of a column from the top: whether one of
  -- them has a 1, and the high and the low bit of the row, 0 to 3, of the first such place.
  interrupted row_high row_low : ℕ → ℕ → ℕ → ℕ → ℕ → Question

-- one bit, flipped or not
abbrev pub flipped : Bool → Bool → Bool
flipped true b = not b
flipped false b = b

-- the number of the first true one of three, or else 3
abbrev pub first : Bool → Bool → Bool → ℕ
first true b c = 0
first false true c = 1
first false false true = 2
first false false false = 3

abbrev pub first_one : List (ℕ × Bool) → ℕ → ℕ → ℕ → ℕ → ℕ
first_one coefs p a b c =
    first (bit_of (coef_at coefs a).0 p) (bit_of (coef_at coefs b).0 p)
    (bit_of (coef_at coefs c).0 p)

-- the answer that the coefficients give
abbrev pub truth : List (ℕ × Bool) → Question → Bool
truth coefs (bit p i) = bit_of (coef_at coefs i).0 p
truth coefs (sign flip i) = flipped flip (coef_at coefs i).1
truth coefs (interrupted p a b c d) =
    bit_of (coef_at coefs a).0 p || bit_of (coef_at coefs b).0 p
    || bit_of (coef_at coefs c).0 p || bit_of (coef_at coefs d).0 p
truth coefs (row_high p a b c d) = nat_le 2 (first_one coefs p a b c)
truth coefs (row_low p a b c d) = first_one coefs p a b c % 2 == 1

-- What is asked, answer by answer: a context, a question and what follows each answer; in the end
-- the cells that are known then.
pub data Asks : Type 0 where
  done : List Cell → Asks
  ask : ℕ → Question → (Bool → Asks) → Asks

-- one after the other
abbrev pub chain : Asks → (List Cell → Asks) → Asks
chain (done cells) next = next cells
chain (ask cx q answered) next = ask cx q (λ b. chain (answered b) next)

-- the symbols of a coder: contexts and the coefficients' answers
abbrev pub symbols : List (ℕ × Bool) → Asks → List (ℕ × Bool)
symbols coefs (done cells) = []
symbols coefs (ask cx q answered) =
    (cx, truth coefs q) ∷ symbols coefs (answered (truth coefs q))

-- what is known after the coefficients' answers
abbrev pub outcome : List (ℕ × Bool) → Asks → List Cell
outcome coefs (done cells) = cells
outcome coefs (ask cx q answered) = outcome coefs (answered (truth coefs q))

-- What a source of decisions gives: `next` is the decision in a context, and the source after it.
abbrev pub read : {S : Type 0} → (S → ℕ → Bool × S) → S → Asks → List Cell × S
read next d (done cells) = (cells, d)
read next d (ask cx q answered) = let b = next d cx in read next b.1 (answered b.0)

-- A source decides symbols: asked for their contexts in turn, it gives their bits.
abbrev pub Decides : {S : Type 0} → (S → ℕ → Bool × S) → S → List (ℕ × Bool) → Type 0
Decides next d [] = Unit {0}
Decides next d (s ∷ rest) = ((next d s.0).0 ≡ s.1) × Decides next (next d s.0).1 rest
