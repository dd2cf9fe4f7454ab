-- A band's size as the rest of its resolution is its size by equation B-15.
use Rattle.std.proofs.Common.{◌≡◌, ℕ, zero, suc, ◌+◌, ◌-◌, ◌*◌, ◌/◌, ◌^◌, ◌<◌, ◌≤◌, ◌⊎◌, inl, inr}
use Rattle.std.proofs.Common.{arith, ◌∙◌, sym, ap}
use Rattle.std.proofs.Math.Nat.{pow-suc, div-div-eq-div-mul, div-eq_of_lt}
use Rattle.std.proofs.lemmas.Bool.{cases_lt}
use Rattle.std.proofs.lemmas.Nat.{pow_pos}
use Rattle.cine_nums.specs.Division.{div_up}
use Rattle.cine_nums.specs.Levels.{band_level}
use Rattle.cine_nums.proofs.Levels.{band_level-above}
use Rattle.cine_nums.specs.declared.orient.Orient.{Orient}
use Rattle.cine_nums.specs.declared.orient.Orient.TheVariants.{LL, HL, LH, HH}
use Rattle.band_geometry.specs.Sizes.{res_side, band_side}
use Rattle.band_geometry.specs.Bands.{HasBand, band_of, offset_across, offset_down}
use Rattle.band_geometry.specs.declared.geometry.Geometry.{Geometry}
use Rattle.band_geometry.proofs.SideLemmas.{res_side-below}

-- half of n / d, both rounded up, and rounded down in the end: n without its first d, over twice d
half_of_rest : (n d : ℕ) → 0 < d → (n + (d - 1)) / d / 2 ≡ div_up (n - d * 1) (d * 2)
half_of_rest n d pos = div-div-eq-div-mul (n + (d - 1)) d 2 ∙ by_size (cases_lt n d)
  where
    by_size : (n < d) ⊎ (d ≤ n) → (n + (d - 1)) / (d * 2) ≡ div_up (n - d * 1) (d * 2)
    by_size (inl less) =
        let small : n + (d - 1) < d * 2 = omega arith in
        let rest : n - d * 1 + (d * 2 - 1) < d * 2 = omega arith in
        div-eq_of_lt small ∙ sym (div-eq_of_lt rest)
    by_size (inr enough) =
        let e : n + (d - 1) ≡ n - d * 1 + (d * 2 - 1) = omega arith in
        ap (λ m. m / (d * 2)) e

low_side_at : (level side : ℕ) → div_up side (2 ^ level) ≡ band_side level side 0
unfolding band_side
low_side_at level side =
    let e : side ≡ side - 2 ^ (level - 1) * 0 = omega arith in
    ap (λ s. div_up s (2 ^ level)) e

high_side_at : (l side : ℕ) → div_up side (2 ^ l) / 2 ≡ band_side (suc l) side 1
unfolding band_side
high_side_at l side =
    let e : suc l - 1 ≡ l = omega arith in
    rw (e, pow-suc 2 l) (half_of_rest side (2 ^ l) (pow_pos l))

low_side : (levels side r : ℕ) → 1 ≤ r → r ≤ levels →
    res_side levels side (r - 1) ≡ band_side (band_level levels r) side 0
low_side levels side r some enough =
    let level = band_level-above levels r some enough in
    let e : levels - (r - 1) ≡ band_level levels r = omega (arith, level) in
    ap (λ l. div_up side (2 ^ l)) e ∙ low_side_at (band_level levels r) side

high_side : (levels side r : ℕ) → 1 ≤ r → r ≤ levels →
    res_side levels side r - res_side levels side (r - 1) ≡ band_side (band_level levels r) side 1
high_side levels side r some enough =
    let n = res_side levels side r in
    let below = res_side-below levels side r some enough in
    let half : n - res_side levels side (r - 1) ≡ n / 2 = omega (arith, below) in
    half ∙ high_side_at (levels - r) side
    ∙ ap (λ l. band_side l side 1) (sym (band_level-above levels r some enough))

lowest_side : (levels side r : ℕ) → r ≡ 0 →
    res_side levels side 0 ≡ band_side (band_level levels r) side 0
lowest_side levels side zero lowest =
    let e : levels - 0 ≡ levels = omega arith in
    ap (λ l. div_up side (2 ^ l)) e ∙ low_side_at levels side
lowest_side levels side (suc r) lowest = absurd (omega (arith, lowest))

width_of : (g : Geometry) (r : ℕ) (o : Orient) → HasBand g r o →
    (band_of g r o).width ≡ band_side (band_level g.levels r) g.width (offset_across o)
width_of g r LL has = lowest_side g.levels g.width r has.orient
width_of g r HL has = high_side g.levels g.width r has.orient has.res
width_of g r LH has = low_side g.levels g.width r has.orient has.res
width_of g r HH has = high_side g.levels g.width r has.orient has.res

height_of : (g : Geometry) (r : ℕ) (o : Orient) → HasBand g r o →
    (band_of g r o).height ≡ band_side (band_level g.levels r) g.height (offset_down o)
height_of g r LL has = lowest_side g.levels g.height r has.orient
height_of g r HL has = low_side g.levels g.height r has.orient has.res
height_of g r LH has = high_side g.levels g.height r has.orient has.res
height_of g r HH has = high_side g.levels g.height r has.orient has.res

pub standard_width : (g : Geometry) (r : ℕ) (o : Orient) (width : ℕ) → HasBand g r o →
    width ≡ (band_of g r o).width →
    width ≡ band_side (band_level g.levels r) g.width (offset_across o)
standard_width g r o width has is = is ∙ width_of g r o has

pub standard_height : (g : Geometry) (r : ℕ) (o : Orient) (height : ℕ) → HasBand g r o →
    height ≡ (band_of g r o).height →
    height ≡ band_side (band_level g.levels r) g.height (offset_down o)
standard_height g r o height has is = is ∙ height_of g r o has
