-- What the reader of a block holds, as relations to the definitions over cells.
use Rattle.std.specs.Prelude.{ℕ, ◌+◌, ◌*◌, ◌/◌, ◌%◌, ◌^◌, ◌<◌, ◌≤◌, ◌≡◌, List, length, get_or}
use Rattle.mq_coder.specs.Decisions.{Interval, start_interval, interval_after}
use Rattle.mq_decoder.specs.Decoder.{Stands}
use Rattle.mq_decoder.specs.declared.decoder.Decoder.{Decoder}
use Rattle.ebcot_contexts.specs.Cells.{Cell, cell_at, number, IsPlain}
use Rattle.ebcot_contexts.specs.Contexts.{Shape}
use Rattle.ebcot_contexts.specs.Asks.{Asks, read}
use Rattle.ebcot_contexts.specs.Passes.{block}
use Rattle.ebcot_contexts.specs.Meaning.{next_decision}
use Rattle.flag_words.specs.Words.{AreFlags}

-- What is known, and the interval that the decisions so far leave, after some questions more.
abbrev pub after : List ℕ → List Cell × Interval → (List Cell → Asks) → List Cell × Interval
after bytes st asks = read (next_decision bytes) st.1 (asks st.0)

-- the same after a block's first k passes
unfoldable pub state_after : List ℕ → Shape → ℕ → List Cell × Interval
state_after bytes s k = read (next_decision bytes) start_interval (block s k)

-- a cell as one word: its magnitude with 0 for each unknown bit, and its sign in the top bit
abbrev pub word_of : Cell → ℕ
word_of c = 0x80000000 * number c.negative + c.magnitude * 2 ^ c.unknown

-- The cells of a block w places wide stand in a grid 32 words wide.
pub record AreKnown (w : ℕ) (cells : List Cell) (grid : List ℕ) : Type 0 where
  pub long : length grid ≡ 1024
  pub each : (i : ℕ) → i < length cells
      → get_or grid (32 * (i / w) + i % w) 0 ≡ word_of (cell_at cells i)

-- a decoder of a byte string is at an interval
pub record IsAt (bytes : List ℕ) (it : Interval) (d : Decoder) : Type 0 where
  pub string : d.bytes.now ≡ bytes
  pub asked : List ℕ
  pub stands : Stands d asked
  pub interval : interval_after bytes asked ≡ it

-- What is known of a block in plane p, and where the decisions are: words and grid show the cells,
-- and the decoder is at the interval.
pub record Holds (bytes : List ℕ) (s : Shape) (p : ℕ) (st : List Cell × Interval)
    (words grid : List ℕ) (d : Decoder) : Type 0 where
  pub narrow : s.width ≤ 32
  pub long : length st.0 ≡ s.width * s.height
  pub plain : (i : ℕ) → IsPlain (cell_at st.0 i)
  pub flags : AreFlags s.width p st.0 words
  pub grid_is : AreKnown s.width st.0 grid
  pub decoder : IsAt bytes st.1 d
