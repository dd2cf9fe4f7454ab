use Rattle.std.proofs.Common.{◌≡◌, ◌≤◌, take}
use Rattle.std.specs.Prelude.{count_by, ltb}
use Rattle.cinema_run.proofs.verdict.included.Given as goal

-- the included ones of the blocks so far
abbrev pub invariant-loop-block : goal.invariant-loop-block
invariant-loop-block l = record {
  few : l.count ≤ l.block-index;
  made : l.count ≡ count_by (λ block. ltb 0 block.passes) (take l.block-index l.blocks);
}
