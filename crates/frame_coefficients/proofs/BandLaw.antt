-- Each place of each band has its index by that band's step, below 2 to that band's planes, and
-- with the sign plus where it is 0.
use Rattle.std.proofs.Common.{◌≡◌, ℕ, ◌+◌, ◌-◌, ◌*◌, ◌/◌, ◌%◌, ◌<◌, ◌≤◌, max, ℤ, pos, List, length}
use Rattle.std.proofs.Common.{get_or, refl, arith, sym, subst, ◌∙◌, ◌^◌, Bool, false, ◌&&◌, nat_lt}
use Rattle.std.proofs.lemmas.List.FromFn.{get_or-map-range_with_len}
use Rattle.std.specs.List.{range_with_len}
use Rattle.std.proofs.Math.Nat.{mul-le-mul}
use Rattle.std.proofs.lemmas.Nat.{pow_pos}
use Rattle.std.proofs.lemmas.List.Elements.{All-map}
use Rattle.cine_nums.specs.declared.orient.Orient.{Orient}
use Rattle.band_geometry.specs.Bands.{band_of, HasBand, IsPlaceIn}
use Rattle.band_geometry.specs.Places.{res_at, orient_of}
use Rattle.band_geometry.specs.declared.geometry.Geometry.{Geometry}
use Rattle.band_geometry.proofs.BlockPlaces.{band_at_place}
use Rattle.band_geometry.proofs.PlaneLemmas.{column_in_plane, row_in_plane}
use Rattle.dz_quantiser.specs.Bands.{band_planes}
use Rattle.dz_quantiser.specs.Coefficient.{Coefficient, zero_coefficient}
use Rattle.dz_quantiser.specs.declared.steps.StepSizes.{StepSizes}
use Rattle.frame_coefficients.specs.Planes.{AreBelow, ArePlain}
use Rattle.frame_coefficients.specs.Places.{index_in, coef_at, quantised}
use Rattle.frame_coefficients.proofs.Rows.{column_is, row_is}

pub coef_in_band : (g : Geometry) (steps : StepSizes) (cells : List ℤ) (r : ℕ) (o : Orient)
    (x y : ℕ) (d : Coefficient) →
    length cells ≡ g.height * g.width → HasBand g r o → IsPlaceIn (band_of g r o) x y →
    get_or (quantised g.levels g.width g.height steps cells) (y * g.width + x) d
    ≡ index_in steps r o (get_or cells (y * g.width + x) (pos 0))
unfolding quantised coef_at
coef_in_band g steps cells r o x y d len has place =
    let across : x < g.width = column_in_plane g r o x y has place in
    let down : y < g.height = row_in_plane g r o x y has place in
    let more : y + 1 ≤ g.height = omega arith in
    let same : g.width ≤ g.width = omega arith in
    let rows : (y + 1) * g.width ≤ g.height * g.width = mul-le-mul more same in
    let column : (y * g.width + x) % g.width ≡ y * g.width + x - y * g.width =
    column_is y g.width (y * g.width + x) (omega arith) (omega arith) in
    let column_x : y * g.width + x - y * g.width ≡ x = omega arith in
    let row : (y * g.width + x) / g.width ≡ y =
    row_is y g.width (y * g.width + x) (omega arith) (omega arith) in
    let is = band_at_place g r o x y has place in
    let res : max (res_at g.levels g.width x) (res_at g.levels g.height y) ≡ r = is.res in
    let orient : orient_of (res_at g.levels g.width x) (res_at g.levels g.height y) ≡ o =
    is.orient in
    get_or-map-range_with_len (coef_at g.levels g.width g.height steps cells) 0 (length cells)
    (y * g.width + x) (y * g.width + x) d (omega arith) (omega arith)
    ∙ rw (column, column_x, row, res, orient) refl

-- so its magnitude is below 2 to that band's planes
index_in-below : (steps : StepSizes) (r : ℕ) (o : Orient) (v : ℤ) →
    (index_in steps r o v).magnitude < 2 ^ band_planes steps r o
index_in-below steps r o v =
    let some : 0 < 2 ^ band_planes steps r o = pow_pos (band_planes steps r o) in
    omega (arith, some)

pub quantised-below : (g : Geometry) (steps : StepSizes) (cells : List ℤ) →
    length cells ≡ g.height * g.width →
    AreBelow g steps (quantised g.levels g.width g.height steps cells)
quantised-below g steps cells len = λ r o x y has place.
    subst (λ q. q.magnitude < 2 ^ band_planes steps r o)
    (sym (coef_in_band g steps cells r o x y zero_coefficient len has place))
    (index_in-below steps r o (get_or cells (y * g.width + x) (pos 0)))

-- and its sign is plus where it is 0
plus_at_zero : (magnitude : ℕ) (minus : Bool) → magnitude ≡ 0 →
    (nat_lt 0 magnitude && minus) ≡ false
plus_at_zero magnitude minus zero_is = rw zero_is refl

pub quantised-plain : (levels width height : ℕ) (steps : StepSizes) (cells : List ℤ) →
    ArePlain (quantised levels width height steps cells)
unfolding quantised coef_at
quantised-plain levels width height steps cells =
    All-map (λ q. q.magnitude ≡ 0 → q.negative ≡ false) (coef_at levels width height steps cells)
    (range_with_len 0 (length cells)) (λ k d lt. plus_at_zero _ _)
