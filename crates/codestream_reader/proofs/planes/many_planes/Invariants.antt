use Rattle.std.proofs.Common.{◌≤◌, take}
use Rattle.std.specs.List.{All}
use Rattle.dz_quantiser.specs.Bands.{planes_of}
use Rattle.dz_quantiser.specs.declared.band.BandStep.{BandStep}
use Rattle.codestream_reader.proofs.planes.many_planes.Given as goal

abbrev pub invariant-loop-band : goal.invariant-loop-band
invariant-loop-band l =
    All (λ (step : BandStep). planes_of l.steps.guard step.exponent ≤ 31)
    (take l.band l.steps.bands.items)
