-- What holds of the built-in steps of every level holds of those of a profile.
use Rattle.std.proofs.Common.{◌≡◌, ℕ, zero, suc, ◌<◌, ◌≤◌, ◌∷◌, arith}
use Rattle.std.specs.List.{All}
use Rattle.std.proofs.lemmas.List.Elements.{All-nil, All-cons}
use Rattle.cine_nums.specs.Profile.{guard_of, levels_of}
use Rattle.dz_quantiser.specs.declared.steps.StepSizes.{StepSizes}
use Rattle.frame_coefficients.specs.BuiltIn.{built_in_steps}
use Rattle.cine_nums.specs.declared.profile.Profile.{Profile}
use Rattle.cine_nums.specs.declared.profile.Profile.TheVariants.{TwoK, FourK}
use Rattle.dz_quantiser.specs.Bands.{built_in_step, built_in_above, built_in_bands}
use Rattle.dz_quantiser.specs.declared.band.BandStep.{BandStep}

all_above : (P : BandStep → Type 0) (n : ℕ) → ((k : ℕ) → k ≤ n → P (built_in_step k)) →
    All P (built_in_above n)
all_above P zero each = All-nil P
all_above P (suc n) each =
    let step = built_in_step (suc n) in
    let below = built_in_above n in
    let e : P step = each (suc n) (omega arith) in
    All-cons P step (step ∷ step ∷ below) e
    (All-cons P step (step ∷ below) e
    (All-cons P step below e (all_above P n (λ k h. each k (omega (arith, h))))))

all_built_in : (P : BandStep → Type 0) (n : ℕ) → n ≤ 6 → ((k : ℕ) → k ≤ 6 → P (built_in_step k)) →
    All P (built_in_bands n)
all_built_in P n few each =
    All-cons P (built_in_step n) (built_in_above n) (each n few)
    (all_above P n (λ k h. each k (omega (arith, h, few))))

few_levels : (p : Profile) → levels_of p ≤ 6
few_levels TwoK = omega arith
few_levels FourK = omega arith

pub exponents : (p : Profile) →
    All (λ (step : BandStep). step.exponent < 32) (built_in_bands (levels_of p))
exponents p = all_built_in (λ (step : BandStep). step.exponent < 32) (levels_of p) (few_levels p)
    (λ k h. omega (arith, h))

pub mantissas : (p : Profile) →
    All (λ (step : BandStep). step.mantissa < 2048) (built_in_bands (levels_of p))
mantissas p = all_built_in (λ (step : BandStep). step.mantissa < 2048) (levels_of p) (few_levels p)
    (λ k h. omega arith)

-- steps with the same guard bits and bands are the built-in ones
pub same_steps : (p : Profile) (s : StepSizes) → s.guard ≡ guard_of p →
    s.bands.items ≡ built_in_bands (levels_of p) → s ≡ built_in_steps p
same_steps p s guard bands = λ i. record { guard = guard i; bands = record { items = bands i } }
