-- The bands of a component in the order of the QCD segment (ISO/IEC 15444-1, Annex A.6.4), with
-- their ranges and numbers of magnitude bit-planes (Annex E.1) and the built-in steps.
use Rattle.std.specs.Prelude.{◌≡◌, ℕ, zero, suc, ◌+◌, ◌-◌, ◌*◌, ◌≤◌, List, [], ◌∷◌, length}
use Rattle.std.specs.Prelude.{slice_index_or}
use Rattle.cine_nums.specs.declared.orient.Orient.{Orient}
use Rattle.cine_nums.specs.declared.orient.Orient.TheVariants.{LL, HL, LH, HH}
use Rattle.dz_quantiser.specs.Usable.{IsUsable}
use Rattle.dz_quantiser.specs.declared.band.BandStep.{BandStep}
use Rattle.dz_quantiser.specs.declared.steps.StepSizes.{StepSizes}

-- the place of a band of resolution r: LL, then HL, LH, HH of resolution 1, those of resolution 2,
-- ..
abbrev pub band_number : ℕ → Orient → ℕ
band_number r LL = 0
band_number r HL = 3 * (r - 1) + 1
band_number r LH = 3 * (r - 1) + 2
band_number r HH = 3 * (r - 1) + 3

-- the dynamic range of a band in bits: the 12 of the samples and the gain of the band's filters
-- (E-4)
abbrev pub range_of : Orient → ℕ
range_of LL = 12
range_of HL = 13
range_of LH = 13
range_of HH = 14

-- the magnitude bit-planes of a band with this exponent (E-2)
abbrev pub planes_of : ℕ → ℕ → ℕ
planes_of guard exponent = guard + exponent - 1

-- the built-in step of a band of level n is 2 ^ (range - 13 - n)
abbrev pub built_in_step : ℕ → BandStep
built_in_step n = record { exponent = 13 + n; mantissa = 0 }

-- those of the bands HL, LH, HH of the levels n, n - 1, .. 1
abbrev pub built_in_above : ℕ → List BandStep
built_in_above zero = []
built_in_above (suc n) =
    built_in_step (suc n) ∷ built_in_step (suc n) ∷ built_in_step (suc n) ∷ built_in_above n

-- those of all bands
abbrev pub built_in_bands : ℕ → List BandStep
built_in_bands levels = built_in_step levels ∷ built_in_above levels

-- the step of a band, and its number of magnitude bit-planes
abbrev pub step_of : StepSizes → ℕ → Orient → BandStep
step_of steps r o = slice_index_or steps.bands.items (band_number r o)
    (record { exponent = 0; mantissa = 0 })

abbrev pub band_planes : StepSizes → ℕ → Orient → ℕ
band_planes steps r o = planes_of steps.guard (step_of steps r o).exponent

-- the quantiser takes the step of a band
abbrev pub IsUsableAt : StepSizes → ℕ → Orient → Type 0
IsUsableAt steps r o = IsUsable (range_of o) (band_planes steps r o) (step_of steps r o)

-- The quantiser takes these steps for a component of so many levels: the guard bits are at most 7
-- (QCD has 3 bits for them), there is one step a band, and it takes each.
pub record AreUsable (levels : ℕ) (steps : StepSizes) : Type 0 where
  pub guard : steps.guard ≤ 7
  pub count : length steps.bands.items ≡ 3 * levels + 1
  pub lowest : IsUsableAt steps 0 LL
  pub above : (r : ℕ) (o : Orient) → 1 ≤ r → r ≤ levels → IsUsableAt steps r o
