use Rattle.lift97_fixed.proofs.Levels.{LevelsDone}
use Rattle.lift97_fixed.proofs.transform.forward.Given as goal

abbrev pub invariant-loop-level : goal.invariant-loop-level
invariant-loop-level l =
    LevelsDone l.fn.levels l._level l.fn.plane.width l.fn.plane.height l.width l.height l.fn.plane.cells.items l.cells
