use Rattle.std.proofs.Common.{◌≡◌, ◌++◌}
use Rattle.std.specs.List.{flat_map, range_with_len}
use Rattle.packet_order.specs.Blocks.{row_in}
use Rattle.profile_reader.specs.Chosen.{Planes}
use Rattle.frame_encoder.specs.Writing.{IsFrameOf, code_of}
use Rattle.frame_encoder.proofs.writing.ChosenPasses.push_band.Given as goal

-- the rows so far
abbrev pub invariant-loop-row : goal.invariant-loop-row
invariant-loop-row l = (planes : Planes) → IsFrameOf planes l.self → l.out.items
    ≡ l.fn.out.items ++ flat_map (λ j. flat_map (code_of planes l.self)
    (row_in l.self.geometry l.packet l.orient j)) (range_with_len 0 l.row)
