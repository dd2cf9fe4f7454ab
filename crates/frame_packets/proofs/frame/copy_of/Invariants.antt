use Rattle.std.proofs.Common.{◌≡◌, take}
use Rattle.frame_packets.proofs.frame.copy_of.Given as goal

abbrev pub invariant-loop-step : goal.invariant-loop-step
invariant-loop-step l = l.bands.items ≡ take l.step-index l.steps.bands.items
