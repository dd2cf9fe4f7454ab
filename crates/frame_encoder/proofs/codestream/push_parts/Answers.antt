use Rattle.frame_encoder.specs.Writing.{part_of}
use Rattle.frame_encoder.proofs.Appends.{step_range}
use Rattle.frame_encoder.proofs.codestream.push_parts.Goals as goal

pub loop-index-preserved : goal.loop-index-preserved
loop-index-preserved c = λ planes is.
    step_range (part_of planes c.args.chosen.now) c.loop-index.index c.args.out.now.items
    c.loop-index.out.items c.push_part.new.out.items (c.loop-index.invariant planes is)
    (c.in_ok-push_part.ensures planes is)
