-- What the registers of a decoder hold (ISO/IEC 15444-1, Annex C.3), as a relation to the interval
-- that its decisions leave.
use Rattle.std.specs.Prelude.{◌≡◌, ℕ, ◌+◌, ◌*◌, ◌/◌, ◌^◌, ◌<◌, ◌≤◌, min, Bool, false, List}
use Rattle.mq_coder.specs.Decisions.{look, Interval}

-- C, read as a number without a bound, and CT hold the digits after `low` of the bytes read so far;
-- `rest` is what follows the last byte read, and after_ff says whether that byte is FF.
pub record Reads (bytes : List ℕ) (c ct : ℕ) (after_ff : Bool) (rest : List ℕ)
    (low scale : ℕ) : Type 0 where
  pub read : ℕ
  pub count : ℕ
  pub count_is : count ≡ scale + 15 + ct
  pub c_is : (c + low * 2 ^ 16) * 2 ^ ct ≡ read * 2 ^ 16
  pub prefix : (r d : ℕ) → r ≤ ct → d + r ≡ count → look 0 false bytes d ≡ read / 2 ^ r
  pub back : (d : ℕ) → 1 ≤ d → look 0 false bytes (count + d) ≡ look read after_ff rest d

-- A register of 32 bits holds no more than A * 2 ^ 16: a value that has left the interval decides
-- for the upper part, however large it is.
pub record Holds (bytes : List ℕ) (c ct : ℕ) (after_ff : Bool) (rest : List ℕ)
    (it : Interval) : Type 0 where
  pub whole : ℕ
  pub reads : Reads bytes whole ct after_ff rest it.low it.scale
  pub cut : c ≡ min whole (it.size * 2 ^ 16)
  pub few : ct ≤ 7
  pub some : 1 ≤ it.size
  pub narrow : it.size < 2 ^ 16
