-- The built-in steps can be read.
use Rattle.std.proofs.Common.{◌≡◌, ℕ, zero, suc, ◌*◌, ◌≤◌, List, ◌∷◌, arith, sym, subst, ap, ◌∙◌}
use Rattle.std.proofs.Common.{length}
use Rattle.std.specs.List.{All}
use Rattle.std.proofs.lemmas.List.Elements.{All-nil, All-cons}
use Rattle.cine_nums.specs.Profile.{guard_of, levels_of}
use Rattle.cine_nums.specs.declared.profile.Profile.{Profile}
use Rattle.cine_nums.specs.declared.profile.Profile.TheVariants.{TwoK, FourK}
use Rattle.cinema_markers.specs.Words.{IsStep}
use Rattle.dz_quantiser.specs.Bands.{built_in_step, built_in_above, built_in_bands, planes_of}
use Rattle.dz_quantiser.specs.declared.band.BandStep.{BandStep}
use Rattle.dz_quantiser.specs.declared.steps.StepSizes.{StepSizes}
use Rattle.codestream_reader.specs.Spans.{AreReadable}

above : (Fits : BandStep → Type 0) (n : ℕ) → n ≤ 6 → ((k : ℕ) → k ≤ 6 → Fits (built_in_step k)) →
    All Fits (built_in_above n)
above Fits zero le each = All-nil Fits
above Fits (suc n) le each =
    let step = built_in_step (suc n) in
    let here = each (suc n) le in
    let below = built_in_above n in
    All-cons Fits step (step ∷ step ∷ below) here
    (All-cons Fits step (step ∷ below) here
    (All-cons Fits step below here (above Fits n (omega arith) each)))

all : (Fits : BandStep → Type 0) (n : ℕ) → n ≤ 6 → ((k : ℕ) → k ≤ 6 → Fits (built_in_step k)) →
    All Fits (built_in_bands n)
all Fits n few each =
    All-cons Fits (built_in_step n) (built_in_above n) (each n few) (above Fits n few each)

count : (n : ℕ) → length (built_in_above n) ≡ 3 * n
count zero = omega arith
count (suc n) = let rest = count n in omega (arith, rest)

few_levels : (profile : Profile) → levels_of profile ≤ 6
few_levels TwoK = omega arith
few_levels FourK = omega arith

few_guard : (profile : Profile) → guard_of profile ≤ 7
few_guard TwoK = omega arith
few_guard FourK = omega arith

pub are_readable : (profile : Profile) (levels : ℕ) (steps : StepSizes) →
    levels ≡ levels_of profile → steps.guard ≡ guard_of profile →
    steps.bands.items ≡ built_in_bands (levels_of profile) → AreReadable levels steps
are_readable profile levels steps is guard are =
    let few = few_levels profile in
    let low : steps.guard ≤ 7 = subst (λ n. n ≤ 7) (sym guard) (few_guard profile) in
    record {
      guard = low;
      count =
          ap (λ (l : List BandStep). length l) are
          ∙ (let rest = count (levels_of profile) in omega (arith, rest, is));
      each = subst (All (IsStep steps.guard)) (sym are) (all (IsStep steps.guard)
          (levels_of profile) few (λ k le. record {
            exponent = omega (arith, le);
            mantissa = omega arith;
            planes = omega (arith, le, low);
          }));
      few = subst (All (λ step. planes_of steps.guard step.exponent ≤ 31)) (sym are)
          (all (λ step. planes_of steps.guard step.exponent ≤ 31) (levels_of profile) few
          (λ k le. omega (arith, le, low)));
    }
