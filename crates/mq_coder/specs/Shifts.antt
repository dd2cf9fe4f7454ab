-- Turns of RENORME that are counted before.
use Rattle.std.specs.Prelude.{ℕ, zero, suc}
use Rattle.mq_coder.specs.Code.{Coding, shift}

-- n turns
unfoldable pub shifts : ℕ → Coding → Coding
shifts zero x = x
shifts (suc n) x = shifts n (shift x)
