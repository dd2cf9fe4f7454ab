use Rattle.std.proofs.Common.{ℕ, ◌<◌, ◌≤◌, get_or}
use Rattle.coded_blocks.specs.Coded.{passes_at}
use Rattle.coded_blocks.proofs.blocks.CodedBlocks.has_passes.Given as goal

-- the numbers so far
abbrev pub invariant-loop-n : goal.invariant-loop-n
invariant-loop-n l = (k : ℕ) → k < l.n → get_or l.counts k 0 ≤ passes_at l.self k
