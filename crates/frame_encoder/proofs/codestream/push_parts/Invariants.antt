use Rattle.std.proofs.Common.{◌≡◌, ◌++◌}
use Rattle.std.specs.List.{flat_map, range_with_len}
use Rattle.profile_reader.specs.Chosen.{Planes}
use Rattle.frame_encoder.specs.Writing.{IsFrameOf, part_of}
use Rattle.frame_encoder.proofs.codestream.push_parts.Given as goal

-- the tile-parts so far
abbrev pub invariant-loop-index : goal.invariant-loop-index
invariant-loop-index l = (planes : Planes) → IsFrameOf planes l.chosen → l.out.items
    ≡ l.fn.out.items ++ flat_map (part_of planes l.chosen) (range_with_len 0 l.index)
