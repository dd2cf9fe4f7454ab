use Rattle.std.proofs.Common.{◌≡◌, ◌+◌, ◌*◌, ◌-◌, ◌++◌, length}
use Rattle.cine_nums.specs.Profile.{levels_of}
use Rattle.dz_quantiser.specs.Bands.{built_in_above, built_in_bands}
use Rattle.dz_quantiser.proofs.steps.StepSizes.built_in.Given as goal

abbrev pub invariant-loop-done : goal.invariant-loop-done
invariant-loop-done l = record {
  count : length l.bands.items ≡ 3 * l.done + 1;
  rest : l.bands.items ++ built_in_above (l.levels - l.done)
      ≡ built_in_bands (levels_of l.fn.profile);
}
