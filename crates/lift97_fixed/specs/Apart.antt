-- A line whose samples at even places and at odd places stand in two lists, the low-pass part and
-- the high-pass part of the line while it is filtered.
use Rattle.std.specs.Prelude.{ℕ, ◌+◌, ◌-◌, ◌*◌, ◌/◌, ◌<◌, ◌≡◌, ℤ, List, length}
use Rattle.lift97_fixed.specs.Line.{at}

pub record IsApart (xs lows highs : List ℤ) : Type 0 where
  pub low_count : length lows ≡ length xs - length xs / 2
  pub high_count : length highs ≡ length xs / 2
  pub low : (k : ℕ) → k < length lows → at lows k ≡ at xs (2 * k)
  pub high : (k : ℕ) → k < length highs → at highs k ≡ at xs (2 * k + 1)
