use Rattle.std.proofs.Common.{rules, slice_index_or}
use Rattle.demo_frames.proofs.Pixels.{pixel_more}
use Rattle.demo_frames.proofs.frame.Planes.push.Goals as goal

-- src/frame.rt:38:5
pub returns : goal.returns
returns c =
    let made = c.pixel_at-made.result.samples in
    pixel_more c.args.number c.args.width c.args.place (slice_index_or made 0 0)
    (slice_index_or made 1 0) (slice_index_or made 2 0) c.args.self.now _ c.requires.made
    (search rules) (search rules) (search rules) (search rules) (search rules) (search rules)
    (search rules) (search rules) (search rules) (search rules)
