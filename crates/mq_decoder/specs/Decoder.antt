-- What a decoder stands for.
use Rattle.std.specs.Prelude.{ℕ, ◌≡◌, List}
use Rattle.mq_coder.specs.Decisions.{interval_after}
use Rattle.mq_decoder.specs.Registers.{HoldsAt}
use Rattle.mq_decoder.specs.declared.decoder.Decoder.{Decoder}

-- A decoder stands for a list of contexts where it holds the interval that the decisions of its
-- string leave after that list.
pub record Stands (d : Decoder) (cxs : List ℕ) : Type 0 where
  pub holds : HoldsAt d.bytes.now d.registers (interval_after d.bytes.now cxs)
  pub contexts : d.contexts ≡ (interval_after d.bytes.now cxs).contexts
