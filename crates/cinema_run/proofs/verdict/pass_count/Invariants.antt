use Rattle.std.proofs.Common.{◌≡◌, ◌≤◌, ◌*◌, take}
use Rattle.std.specs.Prelude.{sum_by}
use Rattle.cinema_run.proofs.verdict.pass_count.Given as goal

-- the passes of the blocks so far
abbrev pub invariant-loop-block : goal.invariant-loop-block
invariant-loop-block l = record {
  few : l.count ≤ 255 * l.block-index;
  made : l.count ≡ sum_by (λ block. block.passes) (take l.block-index l.blocks);
}
