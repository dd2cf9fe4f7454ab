-- The symbols of a code-block's passes, and the meaning of its bytes.
use Rattle.std.specs.Prelude.{ℕ, ◌-◌, ◌*◌, ◌^◌, ◌≤◌, ◌<◌, ◌≡◌, Bool, List, length, map}
use Rattle.mq_coder.specs.Decisions.{Interval, start_interval, part_symbol, is_lower, next_interval}
use Rattle.mq_coder.specs.Decisions.{decisions}
use Rattle.mq_coder.specs.Laws.{contexts_of, bits_of}
use Rattle.ebcot_contexts.specs.Cells.{Cell, cell_at, coef_at, IsPlain, coef_of}
use Rattle.ebcot_contexts.specs.Contexts.{Shape}
use Rattle.ebcot_contexts.specs.Asks.{symbols, outcome, read}
use Rattle.ebcot_contexts.specs.Passes.{block}

-- the symbols of the first k passes over coefficients
abbrev pub symbols_of : List (ℕ × Bool) → Shape → ℕ → List (ℕ × Bool)
symbols_of coefs s k = symbols coefs (block s k)

-- the cells after them
abbrev pub known_after : List (ℕ × Bool) → Shape → ℕ → List Cell
known_after coefs s k = outcome coefs (block s k)

-- the numbers of unknown bit-planes, and those after the first k passes
abbrev pub unknown_of : List Cell → List ℕ
unknown_of cells = map (λ (c : Cell). c.unknown) cells

abbrev pub unknown_after : List (ℕ × Bool) → Shape → ℕ → List ℕ
unknown_after coefs s k = unknown_of (known_after coefs s k)

-- the coefficients of a block: as many as it has places, each magnitude below 2 to the number of
-- bit-planes
pub record IsBlock (coefs : List (ℕ × Bool)) (s : Shape) : Type 0 where
  pub long : length coefs ≡ s.width * s.height
  pub below : (i : ℕ) → (coef_at coefs i).0 < 2 ^ s.planes

-- Cells are what the first k passes mean, whose symbols are decided: the coefficients of the cells
-- are a block's, their symbols in these passes are decided, and the bit-planes that are unknown
-- after the passes are those unknown in the cells.
pub record Means (Decided : List (ℕ × Bool) → Type 0) (s : Shape) (k : ℕ) (cells : List Cell)
    : Type 0 where
  pub few : k ≤ 3 * s.planes - 2
  pub plain : (i : ℕ) → IsPlain (cell_at cells i)
  pub fits : IsBlock (map coef_of cells) s
  pub decided : Decided (symbols_of (map coef_of cells) s k)
  pub planes : unknown_after (map coef_of cells) s k ≡ unknown_of cells

-- a byte string decides symbols (Annex C)
abbrev pub DecidedBy : List ℕ → List (ℕ × Bool) → Type 0
DecidedBy bytes syms = decisions bytes (contexts_of syms) ≡ bits_of syms

-- the decisions of a byte string, one by one
abbrev pub next_decision : List ℕ → Interval → ℕ → Bool × Interval
next_decision bytes it cx =
    (part_symbol it.contexts it.size cx (is_lower bytes it cx), next_interval bytes it cx)

-- the cells that the first k passes give over a byte string
abbrev pub read_block : List ℕ → Shape → ℕ → List Cell
read_block bytes s k = (read (next_decision bytes) start_interval (block s k)).0
