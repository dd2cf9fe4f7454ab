-- Turns of RENORMD that are counted before.
use Rattle.std.specs.Prelude.{ℕ, zero, suc}
use Rattle.mq_coder.specs.Decisions.{Interval, twice}

-- n turns
unfoldable pub twices : ℕ → Interval → Interval
twices zero it = it
twices (suc n) it = twices n (twice it)
