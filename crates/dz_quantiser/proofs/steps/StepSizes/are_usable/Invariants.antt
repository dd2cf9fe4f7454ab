use Rattle.std.proofs.Common.{ℕ, ◌<◌, ◌≤◌}
use Rattle.cine_nums.specs.declared.orient.Orient.{Orient}
use Rattle.dz_quantiser.specs.Bands.{IsUsableAt}
use Rattle.dz_quantiser.proofs.steps.StepSizes.are_usable.Given as goal

abbrev pub invariant-loop-res : goal.invariant-loop-res
invariant-loop-res l = record {
  done : (r : ℕ) (o : Orient) → 1 ≤ r → r < l.res → IsUsableAt l.fn.self r o;
}
