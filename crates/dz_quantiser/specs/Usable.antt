-- Steps that the quantiser takes.
use Rattle.std.specs.Prelude.{ℕ, ◌<◌, ◌≤◌}
use Rattle.dz_quantiser.specs.declared.band.BandStep.{BandStep}

-- The quantiser takes this step for a band of this range and number of magnitude bit-planes: the
-- exponent is at least the range and at most 24, the mantissa has 11 bits, and there are 1 to 20
-- magnitude bit-planes.
pub record IsUsable (range planes : ℕ) (step : BandStep) : Type 0 where
  pub range_low : 12 ≤ range
  pub range_high : range ≤ 14
  pub exponent_low : range ≤ step.exponent
  pub exponent_high : step.exponent ≤ 24
  pub mantissa : step.mantissa < 2048
  pub planes_low : 1 ≤ planes
  pub planes_high : planes ≤ 20
