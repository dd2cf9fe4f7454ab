-- What the loop over the steps of a node's bound keeps.
use Rattle.std.specs.Prelude.{ℕ, ◌-◌, ◌≤◌, max, false, replicate}
use Rattle.bit_stuffing.specs.Source.{BitSource, Took}

-- Within a node's reading: the zeros are taken.
pub record Reads (old : BitSource) (new : BitSource) (from threshold bound : ℕ) : Type 0 where
  pub took : Took old (replicate (bound - from) false) new
  pub from_on : from ≤ bound
  pub most : bound ≤ max from threshold
