-- What the definitions of bit-plane coding promise together.
use Rattle.std.specs.Prelude.{ℕ, ◌-◌, ◌*◌, ◌≤◌, ◌≡◌, Bool, List, length}
use Rattle.cine_nums.specs.declared.orient.Orient.{Orient}
use Rattle.mq_coder.specs.Code.{code}
use Rattle.ebcot_contexts.specs.Cells.{Cell, view}
use Rattle.ebcot_contexts.specs.Contexts.{Shape}
use Rattle.ebcot_contexts.specs.Meaning.{symbols_of, known_after, unknown_after, IsBlock, Means}
use Rattle.ebcot_contexts.specs.Meaning.{DecidedBy, read_block}

-- what is read is a meaning of the bytes, and it is the only one
abbrev pub MeaningHolds : Type 0
MeaningHolds =
    (bytes : List ℕ) (s : Shape) (k : ℕ) → k ≤ 3 * s.planes - 2
    → Means (DecidedBy bytes) s k (read_block bytes s k)

abbrev pub OneMeaning : Type 0
OneMeaning =
    (bytes : List ℕ) (s : Shape) (k : ℕ) (cells : List Cell) → Means (DecidedBy bytes) s k cells
    → cells ≡ read_block bytes s k

-- the code of a block's first k passes is read back: the coefficients without the unknown planes
abbrev pub ReadBack : Type 0
ReadBack =
    (coefs : List (ℕ × Bool)) (s : Shape) (k : ℕ) → IsBlock coefs s
    → read_block (code (symbols_of coefs s k)) s k ≡ view coefs (unknown_after coefs s k)

abbrev pub shaped : ℕ → ℕ → ℕ → Orient → Shape
shaped w h n o = record { orient = o; width = w; height = h; planes = n }

-- what is known after the passes doesn't depend on the band's orientation
abbrev pub WithoutOrient : Type 0
WithoutOrient =
    (coefs : List (ℕ × Bool)) (w h n : ℕ) (o o' : Orient) (k : ℕ)
    → known_after coefs (shaped w h n o) k ≡ known_after coefs (shaped w h n o') k

-- a block of at most 32 by 32 places and 20 bit-planes has at most 31,744 symbols
abbrev pub FewSymbols : Type 0
FewSymbols =
    (coefs : List (ℕ × Bool)) (s : Shape) (k : ℕ) → s.width ≤ 32 → s.height ≤ 32 → s.planes ≤ 20
    → k ≤ 3 * s.planes - 2 → length (symbols_of coefs s k) ≤ 31744
