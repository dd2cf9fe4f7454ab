-- What the registers hold.
use Rattle.std.specs.Prelude.{ℕ, ◌≡◌, List}
use Rattle.mq_coder.specs.Decisions.{Interval}
use Rattle.mq_coder.specs.Reading.{Holds}
use Rattle.mq_decoder.specs.Bytes.{is_ff, rest_of}
use Rattle.mq_decoder.specs.declared.registers.Registers.{Registers}

-- the registers hold an interval and the string's value in it
pub record HoldsAt (bytes : List ℕ) (r : Registers) (it : Interval) : Type 0 where
  pub size : r.a ≡ it.size
  pub holds : Holds bytes r.c r.ct (is_ff bytes r.place) (rest_of bytes r.place) it
