use Rattle.std.proofs.Common.{rules}
use Rattle.demo_frames.proofs.Pixels.{made_length, none}
use Rattle.demo_frames.proofs.frame.demo_frame.Goals as goal

pub loop-place-init : goal.loop-place-init
loop-place-init c =
    none c.args.number c.size_of-width.result.0 _ (search rules) (search rules) (search rules)
    (search rules)

pub invariant_of-result : goal.invariant_of-result
invariant_of-result c = record {
  x_size = made_length c.args.number c.size_of-width.result.0 0 _ _ (search rules);
  y_size = made_length c.args.number c.size_of-width.result.0 1 _ _ (search rules);
  z_size = made_length c.args.number c.size_of-width.result.0 2 _ _ (search rules);
  x_range = search rules;
  y_range = search rules;
  z_range = search rules;
}
