-- Usable steps, one after the other.
use Rattle.std.proofs.Common.{◌≡◌, ℕ, zero, suc, ◌+◌, ◌-◌, ◌*◌, ◌/◌, ◌%◌, ◌<◌, ◌≤◌, get_or}
use Rattle.std.proofs.Common.{arith, subst, inl, inr, ◌⊎◌}
use Rattle.std.specs.List.{All}
use Rattle.std.proofs.lemmas.Bool.{cases_lt}
use Rattle.std.proofs.lemmas.List.Elements.{All-from_get_or}
use Rattle.cine_nums.specs.declared.orient.Orient.{Orient}
use Rattle.cine_nums.specs.declared.orient.Orient.TheVariants.{LL, HL, LH, HH}
use Rattle.band_geometry.specs.Bands.{HasBand}
use Rattle.band_geometry.specs.declared.geometry.Geometry.{Geometry}
use Rattle.dz_quantiser.specs.Bands.{range_of, planes_of, band_planes}
use Rattle.dz_quantiser.specs.Bands.{AreUsable}
use Rattle.dz_quantiser.specs.Usable.{IsUsable}
use Rattle.dz_quantiser.specs.declared.band.BandStep.{BandStep}
use Rattle.dz_quantiser.specs.declared.steps.StepSizes.{StepSizes}

abbrev no_step : BandStep
no_step = record { exponent = 0; mantissa = 0 }

-- a step that the quantiser takes for some range
abbrev pub IsTaken : ℕ → BandStep → Type 0
IsTaken guard step = (o : Orient) × IsUsable (range_of o) (planes_of guard step.exponent) step

third : (j : ℕ) → (j % 3 ≡ 0) ⊎ (j % 3 ≡ 1) ⊎ (j % 3 ≡ 2)
third j = elim (cases_lt (j % 3) 1) [
  | inl none ↦ inl (omega (arith, none))
  | inr some ↦ elim (cases_lt (j % 3) 2) [
    | inl one ↦ inr (inl (omega (arith, some, one)))
    | inr two ↦ inr (inr (omega (arith, two)))
  ]
]

taken_at : (levels : ℕ) (steps : StepSizes) → AreUsable levels steps → (k : ℕ) →
    k < 3 * levels + 1 → IsTaken steps.guard (get_or steps.bands.items k no_step)
taken_at levels steps usable zero below = (LL, usable.lowest)
taken_at levels steps usable (suc j) below =
    let at : (n : ℕ) → n ≡ suc j → (o : Orient) →
    IsUsable (range_of o) (planes_of steps.guard (get_or steps.bands.items n no_step).exponent)
    (get_or steps.bands.items n no_step) →
    IsTaken steps.guard (get_or steps.bands.items (suc j) no_step) =
    λ n same o is. subst (λ m. IsTaken steps.guard (get_or steps.bands.items m no_step)) same
    (o, is) in
    elim (third j) [
      | inl none ↦ at (3 * (j / 3 + 1 - 1) + 1) (omega arith) HL
          (usable.above (j / 3 + 1) HL (omega arith) (omega arith))
      | inr (inl one) ↦ at (3 * (j / 3 + 1 - 1) + 2) (omega arith) LH
          (usable.above (j / 3 + 1) LH (omega arith) (omega arith))
      | inr (inr two) ↦ at (3 * (j / 3 + 1 - 1) + 3) (omega arith) HH
          (usable.above (j / 3 + 1) HH (omega arith) (omega arith))
    ]

-- each step of the list is one that the quantiser takes
pub all_taken : (levels : ℕ) (steps : StepSizes) → AreUsable levels steps →
    All (IsTaken steps.guard) steps.bands.items
all_taken levels steps usable =
    All-from_get_or (IsTaken steps.guard) steps.bands.items no_step
    (λ k below. taken_at levels steps usable k (omega (arith, below, usable.count)))

-- the bit-planes of a band
pub few_planes : (g : Geometry) (steps : StepSizes) (r : ℕ) (o : Orient) → AreUsable g.levels steps
    → HasBand g r o → (1 ≤ band_planes steps r o) × (band_planes steps r o ≤ 20)
few_planes g steps zero LL usable has = (usable.lowest.planes_low, usable.lowest.planes_high)
few_planes g steps (suc r) LL usable has = absurd (omega (arith, has.orient))
few_planes g steps r HL usable has =
    let is = usable.above r HL has.orient has.res in (is.planes_low, is.planes_high)
few_planes g steps r LH usable has =
    let is = usable.above r LH has.orient has.res in (is.planes_low, is.planes_high)
few_planes g steps r HH usable has =
    let is = usable.above r HH has.orient has.res in (is.planes_low, is.planes_high)
