use Rattle.std.proofs.Common.{◌≡◌, ◌+◌, ◌++◌}
use Rattle.std.specs.List.{flat_map, range_with_len}
use Rattle.packet_order.specs.Blocks.{block_at}
use Rattle.profile_reader.specs.Chosen.{Planes}
use Rattle.frame_encoder.specs.Writing.{IsFrameOf, code_of}
use Rattle.frame_encoder.proofs.writing.ChosenPasses.push_row.Given as goal

-- the blocks of the row so far
abbrev pub invariant-loop-column : goal.invariant-loop-column
invariant-loop-column l = (planes : Planes) → IsFrameOf planes l.self → l.out.items
    ≡ l.fn.out.items ++ flat_map (λ i. code_of planes l.self
    (block_at l.packet l.orient (l.range.y0 + l.row) (l.range.x0 + i))) (range_with_len 0 l.column)
