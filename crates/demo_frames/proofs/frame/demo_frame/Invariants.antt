use Rattle.demo_frames.specs.Made.{AreMade}
use Rattle.demo_frames.proofs.frame.demo_frame.Given as goal

abbrev pub invariant-loop-place : goal.invariant-loop-place
invariant-loop-place l = AreMade l.number l.width l.place l.planes
