-- What a codestream of few bytes holds is within the limits of the profile.
use Rattle.std.proofs.Common.{◌≡◌, ℕ, zero, suc, ◌+◌, ◌<◌, ◌≤◌, List, [], ◌∷◌, Some}
use Rattle.std.proofs.Common.{sum, take, slice_index_or, arith}
use Rattle.std.specs.List.{AllByRecursion}
use Rattle.std.proofs.lemmas.List.Sums.{sum_by-take-le}
use Rattle.cine_nums.specs.declared.budget.Budget.TheVariants.{Frame, Inner, C0, C1, C2}
use Rattle.cine_nums.specs.declared.profile.Profile.{Profile}
use Rattle.cine_nums.specs.declared.profile.Profile.TheVariants.{TwoK, FourK}
use Rattle.budget_duals.specs.Held.{held_of, limits_of, IsWithin}

abbrev AreFew : List ℕ → Type 0
AreFew = AllByRecursion (λ (n : ℕ). n ≤ 11795)

place_few : (xs : List ℕ) (i : ℕ) → AreFew xs → slice_index_or xs i 0 ≤ 11795
place_few [] i all = omega arith
place_few (x ∷ xs) zero all = all.0
place_few (x ∷ xs) (suc i) all = place_few xs i all.1

take_few : (n : ℕ) (xs : List ℕ) → AreFew xs → AreFew (take n xs)
take_few zero xs all = tt
take_few (suc n) [] all = tt
take_few (suc n) (x ∷ xs) all = (all.0, take_few n xs all.1)

none_broken : (m held : ℕ) → held ≤ m → ((n : ℕ) × (Some m ≡ Some n) × (n < held)) → ⊥
none_broken m held few broken =
    let same : m ≡ broken.0 = cc in
    let high = broken.2 in
    absurd (omega (arith, same, few, high))

component_few : (xs : List ℕ) (i : ℕ) → AreFew xs → slice_index_or (take 3 xs) i 0 ≤ 1041666
component_few xs i all =
    let few = place_few (take 3 xs) i (take_few 3 xs all) in
    omega (arith, few)

pub short_held : (profile : Profile) (main : ℕ) (xs : List ℕ) → main ≤ 192 → sum xs ≤ 70770 →
    AreFew xs → IsWithin (limits_of profile) (held_of profile main xs)
short_held profile main xs few total all Frame broken =
    none_broken 1302083 (main + sum xs + 2) (omega (arith, few, total)) broken
short_held TwoK main xs few total all Inner broken = absurd (let none = broken.1 in cc)
short_held FourK main xs few total all Inner broken =
    let some = sum_by-take-le (λ (n : ℕ). n) xs 3 in
    none_broken 1302083 (main + sum (take 3 xs) + 2) (omega (arith, few, total, some)) broken
short_held profile main xs few total all C0 broken =
    none_broken 1041666 (slice_index_or (take 3 xs) 0 0) (component_few xs 0 all) broken
short_held profile main xs few total all C1 broken =
    none_broken 1041666 (slice_index_or (take 3 xs) 1 0) (component_few xs 1 all) broken
short_held profile main xs few total all C2 broken =
    none_broken 1041666 (slice_index_or (take 3 xs) 2 0) (component_few xs 2 all) broken
