-- The resolution of a column or a row, where the sides of the resolutions don't fall.
use Rattle.std.proofs.Common.{◌≡◌, ℕ, zero, suc, ◌+◌, ◌-◌, ◌<◌, ◌≤◌, arith, ◌∙◌, inl, inr}
use Rattle.std.proofs.lemmas.Bool.{cases_lt}
use Rattle.std.proofs.lemmas.Bool.Decides.{nat_tests}
use Rattle.band_geometry.specs.Sizes.{res_side}
use Rattle.band_geometry.specs.Places.{res_of, res_at}
use Rattle.band_geometry.proofs.SideLemmas.{res_side-monotone}

step_in : (side : ℕ → ℕ) (t i : ℕ) → i < side t → res_of side (suc t) i ≡ res_of side t i
step_in side t i lt = grind (arith, nat_tests)

step_out : (side : ℕ → ℕ) (t i : ℕ) → side t ≤ i → res_of side (suc t) i ≡ suc t
step_out side t i le = grind (arith, nat_tests)

-- one resolution down, while the place is inside it
pub step_down : (side : ℕ → ℕ) (r i : ℕ) → 0 < r → i < side (r - 1) →
    res_of side r i ≡ res_of side (r - 1) i
step_down side zero i some lt = absurd (omega arith)
step_down side (suc t) i some lt =
    let less : suc t - 1 ≡ t = omega arith in
    rw less (step_in side t i (rw less at lt))

-- it is one of the resolutions
pub res_of-le : (side : ℕ → ℕ) (top i : ℕ) → res_of side top i ≤ top
res_of-le side zero i = omega arith
res_of-le side (suc t) i =
    elim (cases_lt i (side t)) [
      | inl lt ↦ omega (arith, step_in side t i lt, res_of-le side t i)
      | inr le ↦ omega (arith, step_out side t i le)
    ]

-- place i is resolution r's where it is inside r and all above it, and outside the one below
pub res_of-is : (side : ℕ → ℕ) (top r i : ℕ) → r ≤ top → (1 ≤ r → side (r - 1) ≤ i) →
    ((k : ℕ) → r ≤ k → k < top → i < side k) → res_of side top i ≡ r
res_of-is side zero r i le outside inside = omega arith
res_of-is side (suc t) r i le outside inside =
    elim (cases_lt t r) [
      | inl lt ↦
          let top : r ≡ suc t = omega arith in
          let below : r - 1 ≡ t = omega arith in
          let out : side (r - 1) ≤ i = outside (omega arith) in
          let at_top : side t ≤ i = rw below at out in
          omega (arith, step_out side t i at_top)
      | inr low ↦
          step_in side t i (inside t low (omega arith))
          ∙ res_of-is side t r i low outside (λ k from below. inside k from (omega arith))
    ]

-- a place inside resolution k has no larger one
pub res_of-below : (side : ℕ → ℕ) (top k i : ℕ) → k ≤ top →
    ((m : ℕ) → k ≤ m → m < top → i < side m) → res_of side top i ≤ k
res_of-below side zero k i le inside = omega arith
res_of-below side (suc t) k i le inside =
    elim (cases_lt t k) [
      | inl lt ↦ omega (arith, res_of-le side (suc t) i)
      | inr low ↦
          omega (
            arith,
            step_in side t i (inside t low (omega arith)),
            res_of-below side t k i low (λ m from below. inside m from (omega arith)),
          )
    ]

-- a column or a row that lies in resolution k
pub res_low : (levels side k i : ℕ) → k ≤ levels → i < res_side levels side k →
    res_at levels side i ≤ k
res_low levels side k i within lt =
    res_of-below (res_side levels side) levels k i within (λ m low high.
    let le : res_side levels side k ≤ res_side levels side m =
    res_side-monotone levels side k m low (omega arith) in omega arith)

-- one that lies in the part that resolution r has and the one below it has not
pub res_high : (levels side r i : ℕ) → 1 ≤ r → r ≤ levels → res_side levels side (r - 1) ≤ i →
    i < res_side levels side (r - 1) + (res_side levels side r - res_side levels side (r - 1)) →
    res_at levels side i ≡ r
res_high levels side zero i some within from to = absurd (omega arith)
res_high levels side (suc r) i some within from to =
    let less : suc r - 1 ≡ r = omega arith in
    let top : i < res_side levels side r + (res_side levels side (suc r) - res_side levels side r) =
    rw less at to in
    let le : res_side levels side r ≤ res_side levels side (suc r) =
    res_side-monotone levels side r (suc r) (omega arith) within in
    res_of-is (res_side levels side) levels (suc r) i within (λ some. from) (λ k low high.
    let above : res_side levels side (suc r) ≤ res_side levels side k =
    res_side-monotone levels side (suc r) k low (omega arith) in omega arith)
