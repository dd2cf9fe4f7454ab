use Rattle.std.proofs.Common.{ℕ, ◌≡◌, ◌<◌, ◌≤◌, length, get_or, vec_capacity, IsTrue}
use Rattle.ebcot_passes.specs.Block.{IsAfter}
use Rattle.ebcot_passes.specs.Code.{ArePasses}
use Rattle.ebcot_passes.specs.declared.coded.CodedPass.{CodedPass}
use Rattle.demand_blocks.specs.Views.{coefs_in, shape_in}
use Rattle.demand_blocks.proofs.coding.code_up_to.Given as goal

abbrev pub invariant-loop-k : goal.invariant-loop-k
invariant-loop-k l = record {
  planes : l.coder.planes ≡ l.planes;
  passes : l.coder.passes ≡ l.k;
  length : length l.buffer ≡ length l.fn.buffer;
  capacity : vec_capacity l.passes ≡ vec_capacity l.fn.passes;
  after : IsAfter (coefs_in l.view) (shape_in l.view l.fn.orient l.planes) l.k l.coder l.buffer;
  coded : ArePasses (coefs_in l.view) (shape_in l.view l.fn.orient l.planes) l.k l.passes.items
      l.buffer;
  last : (j : ℕ) (other : CodedPass) → j < l.k →
      (get_or l.passes.items j other).mark.count ≤ l.coder.mark.count;
  few : l.coder.mark.count ≤ 68023;
  done : IsTrue l.done → l.reach.least ≤ l.k;
}
