use Rattle.frame_choice.specs.Present.{ArePresentBelow}
use Rattle.frame_choice.specs.PriceLaws.{planes_in}
use Rattle.frame_choice.proofs.present.none_present.Given as goal

abbrev pub invariant-loop-n : goal.invariant-loop-n
invariant-loop-n l = ArePresentBelow l.frame.geometry.now l.frame.steps.now (planes_in l.frame)
    (λ b. 0) l.n l.present.items
