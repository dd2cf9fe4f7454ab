use Rattle.std.proofs.Common.{refl, inl, arith}
use Rattle.bit_stuffing.specs.Bits.{number, useful, IsStuffed, ends_in_ff}
use Rattle.bit_stuffing.proofs.bit_in.BitIn.new.Goals as goal

pub invariant_of-result : goal.invariant_of-result
unfolding number useful IsStuffed ends_in_ff
invariant_of-result c = record {
  short = c.requires;
  within = omega arith;
  few = omega arith;
  stuffed = tt;
  behind = refl;
  split = refl;
  begun = inl (refl, refl);
}

pub returns : goal.returns
unfolding number useful
returns c = refl
