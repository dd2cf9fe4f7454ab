-- The built-in steps of a profile as one value, for a definition that has a profile and no steps.
use Rattle.cine_nums.specs.Profile.{levels_of, guard_of}
use Rattle.cine_nums.specs.declared.profile.Profile.{Profile}
use Rattle.dz_quantiser.specs.Bands.{built_in_bands}
use Rattle.dz_quantiser.specs.declared.steps.StepSizes.{StepSizes}

abbrev pub built_in_steps : Profile → StepSizes
built_in_steps profile = record {
  guard = guard_of profile;
  bands = record { items = built_in_bands (levels_of profile) };
}
