-- The built-in steps: how their list grows, what stands at the place of a band, and that each can
-- be used.
use Rattle.std.proofs.Common.{◌≡◌, ◌≢◌, ℕ, zero, suc, ◌+◌, ◌-◌, ◌*◌, ◌<◌, ◌≤◌, List, [], ◌∷◌, ◌++◌}
use Rattle.std.proofs.Common.{length, get_or, append_assoc, refl, ap, subst, sym, arith}
use Rattle.cine_nums.specs.Levels.{band_level}
use Rattle.cine_nums.specs.Profile.{levels_of, guard_of}
use Rattle.cine_nums.specs.declared.orient.Orient.{Orient}
use Rattle.cine_nums.specs.declared.orient.Orient.TheVariants.{LL, HL, LH, HH}
use Rattle.cine_nums.specs.declared.profile.Profile.{Profile}
use Rattle.cine_nums.specs.declared.profile.Profile.TheVariants.{TwoK, FourK}
use Rattle.cine_nums.proofs.Levels.{band_level-above}
use Rattle.dz_quantiser.specs.Bands.{built_in_step, built_in_above, built_in_bands, range_of}
use Rattle.dz_quantiser.specs.Bands.{planes_of, step_of, IsUsableAt, AreUsable}
use Rattle.dz_quantiser.specs.Usable.{IsUsable}
use Rattle.dz_quantiser.specs.declared.band.BandStep.{BandStep}
use Rattle.dz_quantiser.specs.declared.steps.StepSizes.{StepSizes}

pub three_more : (xs : List BandStep) (s : BandStep) (level below : ℕ) →
    s ≡ built_in_step level → level ≡ suc below →
    (((xs ++ s ∷ []) ++ s ∷ []) ++ s ∷ []) ++ built_in_above below ≡ xs ++ built_in_above level
three_more xs s level below is next = rw (is, next) (simp append_assoc)

first : (n : ℕ) → built_in_step (suc n) ≡ built_in_step (suc n - 0)
first n = let same : suc n ≡ suc n - 0 = omega arith in ap built_in_step same

-- the three steps of each level
above-at : (n k j : ℕ) (d : BandStep) → k < n → j < 3 →
    get_or (built_in_above n) (3 * k + j) d ≡ built_in_step (n - k)
above-at zero k j d lt three = absurd (omega arith)
above-at (suc n) zero zero d lt three = first n
above-at (suc n) zero (suc zero) d lt three = first n
above-at (suc n) zero (suc (suc zero)) d lt three = first n
above-at (suc n) zero (suc (suc (suc j))) d lt three = absurd (omega arith)
above-at (suc n) (suc k) j d lt three =
    let place : 3 * suc k + j ≡ suc (suc (suc (3 * k + j))) = omega arith in
    let level : suc n - suc k ≡ n - k = omega arith in
    rw (place, level) (above-at n k j d (omega arith) three)

bands-at : (levels r j : ℕ) (d : BandStep) → 1 ≤ r → r ≤ levels → j < 3 →
    get_or (built_in_bands levels) (3 * (r - 1) + j + 1) d ≡ built_in_step (band_level levels r)
bands-at levels zero j d one le three = absurd (omega arith)
bands-at levels (suc r) j d one le three =
    let place : 3 * (suc r - 1) + j + 1 ≡ suc (3 * r + j) = omega arith in
    rw place (above-at levels r j d (omega arith) three)

pub step-at : (levels r : ℕ) (o : Orient) (steps : StepSizes) →
    steps.bands.items ≡ built_in_bands levels →
    1 ≤ r → r ≤ levels → o ≢ LL → step_of steps r o ≡ built_in_step (band_level levels r)
step-at levels r LL steps is one le other = absurd (other refl)
step-at levels r HL steps is one le other =
    let place : 3 * (r - 1) + 1 ≡ 3 * (r - 1) + 0 + 1 = omega arith in
    rw (is, place) (bands-at levels r 0 (record { exponent = 0; mantissa = 0 }) one le
    (omega arith))
step-at levels r LH steps is one le other =
    let place : 3 * (r - 1) + 2 ≡ 3 * (r - 1) + 1 + 1 = omega arith in
    rw (is, place) (bands-at levels r 1 (record { exponent = 0; mantissa = 0 }) one le
    (omega arith))
step-at levels r HH steps is one le other =
    let place : 3 * (r - 1) + 3 ≡ 3 * (r - 1) + 2 + 1 = omega arith in
    rw (is, place) (bands-at levels r 2 (record { exponent = 0; mantissa = 0 }) one le
    (omega arith))

-- a level from 1 to 6 gives a step that the quantiser takes
usable : (guard range n : ℕ) → guard ≤ 2 → 12 ≤ range → range ≤ 14 → 1 ≤ n → n + guard ≤ 8 →
    IsUsable range (planes_of guard (13 + n)) (built_in_step n)
usable guard range n few at_least in_bits one small = record {
  range_low = at_least;
  range_high = in_bits;
  exponent_low = omega arith;
  exponent_high = omega arith;
  mantissa = omega arith;
  planes_low = omega arith;
  planes_high = omega arith;
}

range-least : (o : Orient) → 12 ≤ range_of o
range-least LL = omega arith
range-least HL = omega arith
range-least LH = omega arith
range-least HH = omega arith

range-most : (o : Orient) → range_of o ≤ 14
range-most LL = omega arith
range-most HL = omega arith
range-most LH = omega arith
range-most HH = omega arith

length-above : (n : ℕ) → length (built_in_above n) ≡ 3 * n
length-above zero = refl
length-above (suc n) = let before : length (built_in_above n) ≡ 3 * n =
    length-above n in omega arith

step-usable : (levels r : ℕ) (o : Orient) (steps : StepSizes) → steps.guard ≤ 2 →
    levels + steps.guard ≤ 8 →
    steps.bands.items ≡ built_in_bands levels → 1 ≤ r → r ≤ levels → o ≢ LL →
    IsUsableAt steps r o
step-usable levels r o steps few small is low high other =
    let level : band_level levels r ≡ suc (levels - r) = band_level-above levels r low high in
    subst (λ step. IsUsable (range_of o) (planes_of steps.guard step.exponent) step)
    (sym (step-at levels r o steps is low high other))
    (usable steps.guard (range_of o) (band_level levels r) few (range-least o) (range-most o)
    (omega (arith, level)) (omega (arith, level)))

lowest-usable : (levels : ℕ) (steps : StepSizes) → steps.guard ≤ 2 → levels + steps.guard ≤ 8 →
    1 ≤ levels →
    steps.bands.items ≡ built_in_bands levels → IsUsableAt steps 0 LL
lowest-usable levels steps few small one is =
    let lowest_is : step_of steps 0 LL ≡ built_in_step levels = rw is refl in
    subst (λ step. IsUsable 12 (planes_of steps.guard step.exponent) step) (sym lowest_is)
    (usable steps.guard 12 levels few (omega arith) (omega arith) one small)

above-usable : (levels : ℕ) (steps : StepSizes) → steps.guard ≤ 2 → levels + steps.guard ≤ 8 →
    1 ≤ levels →
    steps.bands.items ≡ built_in_bands levels → (r : ℕ) (o : Orient) → 1 ≤ r → r ≤ levels →
    IsUsableAt steps r o
above-usable levels steps few small one is r LL low high =
    lowest-usable levels steps few small one is
above-usable levels steps few small one is r HL low high =
    step-usable levels r HL steps few small is low high (λ e. cc)
above-usable levels steps few small one is r LH low high =
    step-usable levels r LH steps few small is low high (λ e. cc)
above-usable levels steps few small one is r HH low high =
    step-usable levels r HH steps few small is low high (λ e. cc)

pub are_usable : (levels : ℕ) (steps : StepSizes) → steps.guard ≤ 2 → levels + steps.guard ≤ 8 →
    1 ≤ levels →
    steps.bands.items ≡ built_in_bands levels → AreUsable levels steps
are_usable levels steps few small one is =
    let above : length (built_in_above levels) ≡ 3 * levels = length-above levels in
    record {
      guard = omega arith;
      count = rw is (omega arith);
      lowest = lowest-usable levels steps few small one is;
      above = above-usable levels steps few small one is;
    }

in_profile : (p : Profile) → (guard_of p ≤ 2) × (levels_of p + guard_of p ≤ 8) × (1 ≤ levels_of p)
in_profile TwoK = (omega arith, omega arith, omega arith)
in_profile FourK = (omega arith, omega arith, omega arith)

pub built_in_usable : (p : Profile) (steps : StepSizes) → steps.guard ≡ guard_of p →
    steps.bands.items ≡ built_in_bands (levels_of p) → AreUsable (levels_of p) steps
built_in_usable p steps guard is =
    let small = in_profile p in
    are_usable (levels_of p) steps (rw guard small.0) (rw guard small.1) small.2 is
