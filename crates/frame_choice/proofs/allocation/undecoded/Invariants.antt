use Rattle.std.proofs.Common.{◌≡◌, ◌≤◌, ◌*◌, ◌^◌}
use Rattle.allocation_bound.specs.Sums.{upto}
use Rattle.frame_choice.specs.PriceLaws.{planes_in}
use Rattle.frame_choice.proofs.Ready.{block_undecoded}
use Rattle.frame_choice.proofs.allocation.undecoded.Given as goal

abbrev pub invariant-loop-n : goal.invariant-loop-n
invariant-loop-n l = record {
  sum : l.sum ≡ upto l.n (block_undecoded l.frame.geometry.now (planes_in l.frame));
  small : l.sum ≤ l.n * 2 ^ 64;
}
