use Rattle.frame_choice.specs.Demanded.{AreDemandedBelow}
use Rattle.frame_choice.specs.PriceLaws.{planes_in}
use Rattle.frame_choice.proofs.blocks.frame_blocks.Given as goal

abbrev pub invariant-loop-n : goal.invariant-loop-n
invariant-loop-n l = AreDemandedBelow l.frame.geometry.now (planes_in l.frame) l.n l.blocks.items
