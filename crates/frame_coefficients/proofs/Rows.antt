-- Places in raster order, the columns of a resolution, and the coefficients there.
use Rattle.std.proofs.Common.{◌≡◌, ℕ, zero, suc, ◌+◌, ◌-◌, ◌*◌, ◌/◌, ◌%◌, ◌^◌, ◌<◌, ◌≤◌, max, ℤ}
use Rattle.std.proofs.Common.{pos, List, length, get_or, false, refl, arith, ap, ◌∙◌}
use Rattle.std.specs.List.{All, range_with_len}
use Rattle.std.proofs.lemmas.List.FromFn.{fill_by_all}
use Rattle.std.proofs.lemmas.List.Elements.{All-map}
use Rattle.std.proofs.lemmas.Nat.{div-mul-add, mod-mul-add}
use Rattle.band_geometry.specs.Sizes.{res_side}
use Rattle.band_geometry.proofs.SideLemmas.{res_side-monotone}
use Rattle.dz_quantiser.specs.Bands.{AreUsable, step_of, range_of, band_planes}
use Rattle.dz_quantiser.specs.Index.{index_of}
use Rattle.dz_quantiser.specs.declared.band.BandStep.{BandStep}
use Rattle.dz_quantiser.specs.Coefficient.{Coefficient}
use Rattle.dz_quantiser.specs.declared.steps.StepSizes.{StepSizes}
use Rattle.band_geometry.specs.Places.{res_at, orient_of}
use Rattle.frame_coefficients.specs.Places.{index_at, coef_at, quantised}
use Rattle.frame_coefficients.proofs.BandSteps.{index-small}
use Rattle.band_geometry.proofs.ResolutionLemmas.{res_of-is, res_of-le}

-- column and row of a place
pub column_is : (y w k : ℕ) → y * w ≤ k → k < y * w + w → k % w ≡ k - y * w
column_is y w k from to =
    let place : k ≡ y * w + (k - y * w) = omega arith in
    ap (λ n. n % w) place ∙ mod-mul-add y w (k - y * w) (omega arith)

pub row_is : (y w k : ℕ) → y * w ≤ k → k < y * w + w → k / w ≡ y
row_is y w k from to =
    let place : k ≡ y * w + (k - y * w) = omega arith in
    ap (λ n. n / w) place ∙ div-mul-add y w (k - y * w) (omega arith)

-- the side of the resolution below, 0 below the lowest
abbrev pub before : (ℕ → ℕ) → ℕ → ℕ
before side zero = 0
before side (suc r) = side r

pub before-le : (levels side r : ℕ) → r ≤ levels →
    before (res_side levels side) r ≤ res_side levels side r
before-le levels side zero within = omega arith
before-le levels side (suc r) within = res_side-monotone levels side r (suc r) (omega arith) within

pub before-suc : (side : ℕ → ℕ) (r : ℕ) → before side (r + 1) ≡ side r
before-suc side r = let next : r + 1 ≡ suc r = omega arith in rw next refl

-- a column or a row from the side of the resolution below up to the next one's is of that
-- resolution
pub res_is : (levels side r i : ℕ) → r ≤ levels → before (res_side levels side) r ≤ i →
    i < res_side levels side r →
    res_at levels side i ≡ r
res_is levels side r i within from to =
    res_of-is (res_side levels side) levels r i within (outside r from)
    (λ k low high. let le : res_side levels side r ≤ res_side levels side k =
    res_side-monotone levels side r k low (omega arith) in omega arith)
  where
    outside : (r : ℕ) → before (res_side levels side) r ≤ i → 1 ≤ r →
        res_side levels side (r - 1) ≤ i
    outside zero from some = absurd (omega arith)
    outside (suc r) from some = let less : suc r - 1 ≡ r = omega arith in rw less from

-- the coefficient of a cell in such a column
pub coef_in_column : (levels width height : ℕ) (steps : StepSizes) (cells : List ℤ) (y c k : ℕ) →
    c ≤ levels →
    y * width + before (res_side levels width) c ≤ k → k < y * width + res_side levels width c →
    k < y * width + width →
    coef_at levels width height steps cells k
    ≡ index_at steps c (res_at levels height y) (get_or cells k (pos 0))
unfolding coef_at
coef_in_column levels width height steps cells y c k within from to end =
    let x : k % width ≡ k - y * width = column_is y width k (omega arith) end in
    let row : k / width ≡ y = row_is y width k (omega arith) end in
    let column : res_at levels width (k - y * width) ≡ c =
    res_is levels width c (k - y * width) within (omega arith) (omega arith) in
    rw (x, row, column) refl

-- the index by the step, range and planes of a band
pub index_at-is : (steps : StepSizes) (c r : ℕ) (v : ℤ) (step : BandStep) (range planes : ℕ) →
    step ≡ step_of steps (max c r) (orient_of c r) → range ≡ range_of (orient_of c r) →
    planes ≡ band_planes steps (max c r) (orient_of c r) →
    index_of v step range planes ≡ index_at steps c r v
index_at-is steps c r v step range planes step_is range_is planes_is =
    rw (planes_is, range_is, step_is) refl

-- each coefficient is below 2 ^ 20
coef_at-small : (levels width height : ℕ) (steps : StepSizes) (cells : List ℤ) (k : ℕ) →
    AreUsable levels steps →
    (coef_at levels width height steps cells k).magnitude < 2 ^ 20
unfolding coef_at
coef_at-small levels width height steps cells k are =
    index-small levels (res_at levels width (k % width)) (res_at levels height (k / width)) steps
    (get_or cells k (pos 0)) are
    (res_of-le (res_side levels width) levels (k % width))
    (res_of-le (res_side levels height) levels (k / width))

pub quantised-small : (levels width height : ℕ) (steps : StepSizes) (cells : List ℤ) →
    AreUsable levels steps →
    All (λ q. q.magnitude < 2 ^ 20) (quantised levels width height steps cells)
unfolding quantised
quantised-small levels width height steps cells are =
    All-map (λ q. q.magnitude < 2 ^ 20) (coef_at levels width height steps cells)
    (range_with_len 0 (length cells))
    (λ k d lt. coef_at-small levels width height steps cells _ are)

-- a list with the coefficient of each place
pub quantised-from : (levels width height : ℕ) (steps : StepSizes) (cells : List ℤ)
    (coefs : List Coefficient) →
    length coefs ≡ length cells →
    ((k : ℕ) (d : Coefficient) → k < length cells →
    get_or coefs k d ≡ coef_at levels width height steps cells k) →
    coefs ≡ quantised levels width height steps cells
unfolding quantised
quantised-from levels width height steps cells coefs len at =
    let none : Coefficient = record { magnitude = 0; negative = false } in
    fill_by_all (coef_at levels width height steps cells) coefs (length cells) none len
    (λ k lt. at k none lt)
