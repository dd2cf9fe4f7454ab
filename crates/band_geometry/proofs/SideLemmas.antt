-- Each resolution is the one above it, halved and rounded up.
use Rattle.std.proofs.Common.{◌≡◌, ℕ, zero, suc, ◌+◌, ◌-◌, ◌*◌, ◌/◌, ◌^◌, ◌<◌, ◌≤◌, inl, inr, arith}
use Rattle.std.proofs.Common.{◌∙◌, sym, ap}
use Rattle.std.proofs.Math.Nat.{pow-suc, add-div_right, div-div-eq-div-mul, eq-or-lt_of_le}
use Rattle.std.proofs.lemmas.Nat.{pow_pos}
use Rattle.cine_nums.specs.Division.{div_up}
use Rattle.band_geometry.specs.Sizes.{res_side}

-- division by d and then by 2, each rounded up, is division by twice d, rounded up
div_up_twice : (n d : ℕ) → 0 < d → (n + (d * 2 - 1)) / (d * 2) ≡ ((n + (d - 1)) / d + (2 - 1)) / 2
div_up_twice n d pos =
    let e : n + (d * 2 - 1) ≡ n + (d - 1) + d = omega arith in
    ap (λ m. m / (d * 2)) e ∙ sym (div-div-eq-div-mul (n + (d - 1) + d) d 2) ∙
    ap (λ m. m / 2) (add-div_right (n + (d - 1)) pos)

-- the resolution below has half the side, rounded up
pub res_side-below : (levels side r : ℕ) → 1 ≤ r → r ≤ levels →
    res_side levels side (r - 1) ≡ div_up (res_side levels side r) 2
res_side-below levels side r some enough =
    let e : levels - (r - 1) ≡ suc (levels - r) = omega arith in
    rw (e, pow-suc 2 (levels - r)) (div_up_twice side (2 ^ (levels - r)) (pow_pos (levels - r)))

-- so it is no larger
pub res_side_below_le : (levels side r : ℕ) → 1 ≤ r → r ≤ levels →
    res_side levels side (r - 1) ≤ res_side levels side r
res_side_below_le levels side r some enough =
    let n = res_side levels side r in
    let e = res_side-below levels side r some enough in
    omega (arith, e)

-- nor than any above it: the sides of the resolutions don't fall
pub res_side-monotone : (levels side a b : ℕ) → a ≤ b → b ≤ levels →
    res_side levels side a ≤ res_side levels side b
res_side-monotone levels side a zero le within = let same : a ≡ 0 =
    omega arith in rw same (omega arith)
res_side-monotone levels side a (suc b) le within =
    elim (eq-or-lt_of_le le) [
      | inl same ↦ rw same (omega arith)
      | inr lt ↦
          let step : res_side levels side (suc b - 1) ≤ res_side levels side (suc b) =
          res_side_below_le levels side (suc b) (omega arith) within in
          let less : suc b - 1 ≡ b = omega arith in
          let below : res_side levels side a ≤ res_side levels side b =
          res_side-monotone levels side a b (omega arith) (omega arith) in
          omega (arith, rw less at step)
    ]

-- the largest resolution is the whole frame
pub res_side-top : (levels side : ℕ) → res_side levels side levels ≡ side
res_side-top levels side =
    let none : levels - levels ≡ 0 = omega arith in
    rw none (omega arith)
