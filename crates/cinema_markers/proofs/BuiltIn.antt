-- The built-in steps fit the fields of QCD.
use Rattle.std.proofs.Common.{◌≡◌, ℕ, zero, suc, ◌<◌, ◌≤◌, ◌∷◌, arith, sym, subst}
use Rattle.std.specs.List.{All}
use Rattle.std.proofs.lemmas.List.Elements.{All-nil, All-cons}
use Rattle.cine_nums.specs.Profile.{levels_of}
use Rattle.cine_nums.specs.declared.profile.Profile.{Profile}
use Rattle.cine_nums.specs.declared.profile.Profile.TheVariants.{TwoK, FourK}
use Rattle.dz_quantiser.specs.Bands.{built_in_step, built_in_above, built_in_bands}
use Rattle.dz_quantiser.specs.declared.band.BandStep.{BandStep}
use Rattle.dz_quantiser.specs.declared.steps.StepSizes.{StepSizes}

-- the steps of all bands have what each built-in step has
above : (Fits : BandStep → Type 0) (n : ℕ) → n ≤ 6 → ((k : ℕ) → k ≤ 6 → Fits (built_in_step k)) →
    All Fits (built_in_above n)
above Fits zero le each = All-nil Fits
above Fits (suc n) le each =
    let step = built_in_step (suc n) in
    let here = each (suc n) le in
    let below = built_in_above n in
    All-cons Fits step (step ∷ step ∷ below) here
    (All-cons Fits step (step ∷ below) here
    (All-cons Fits step below here (above Fits n (omega arith) each)))

all : (Fits : BandStep → Type 0) (profile : Profile) (steps : StepSizes) →
    steps.bands.items ≡ built_in_bands (levels_of profile) →
    ((k : ℕ) → k ≤ 6 → Fits (built_in_step k)) → All Fits steps.bands.items
all Fits profile steps are each =
    let levels = levels_of profile in
    let few = levels_few profile in
    subst (All Fits) (sym are) (All-cons Fits (built_in_step levels) (built_in_above levels)
    (each levels few) (above Fits levels few each))
  where
    levels_few : (p : Profile) → levels_of p ≤ 6
    levels_few TwoK = omega arith
    levels_few FourK = omega arith

pub exponents_fit : (profile : Profile) (steps : StepSizes) →
    steps.bands.items ≡ built_in_bands (levels_of profile) →
    All (λ step. step.exponent < 32) steps.bands.items
exponents_fit profile steps are =
    all (λ step. step.exponent < 32) profile steps are (λ k le. omega arith)

pub mantissas_fit : (profile : Profile) (steps : StepSizes) →
    steps.bands.items ≡ built_in_bands (levels_of profile) →
    All (λ step. step.mantissa < 2048) steps.bands.items
mantissas_fit profile steps are =
    all (λ step. step.mantissa < 2048) profile steps are (λ k le. omega arith)
