use Rattle.std.proofs.Common.{◌≡◌, map}
use Rattle.std.specs.List.{range_with_len}
use Rattle.frame_encoder.specs.Empty.{empty_part_length}
use Rattle.frame_encoder.proofs.counts.empty_part_lengths.Given as goal

-- the lengths so far
abbrev pub invariant-loop-index : goal.invariant-loop-index
invariant-loop-index l =
    l.lengths.items ≡ map (empty_part_length l.fn.geometry) (range_with_len 0 l.index)
