use Rattle.std.proofs.Common.{◌≡◌, ℕ, ◌^◌, ◌<◌, ◌≤◌, List, length, arith}
use Rattle.std.proofs.Common.{get_or, set, replicate, subst, sym, ap, inl, inr}
use Rattle.std.proofs.Math.Nat.{pow-le-pow_right}
use Rattle.std.specs.List.{All}
use Rattle.std.proofs.lemmas.Bool.{cases_lt}
use Rattle.std.proofs.lemmas.List.{get_or_past}
use Rattle.std.proofs.lemmas.List.Elements.{All-get_or}
use Rattle.std.proofs.lemmas.List.Elements.{All-replicate, All-set}
use Rattle.cine_nums.specs.declared.orient.Orient.{Orient}
use Rattle.cine_nums.specs.declared.orient.Orient.TheVariants.{LL, HL, LH, HH}
use Rattle.band_geometry.specs.Bands.{HasBand}
use Rattle.band_geometry.specs.declared.geometry.Geometry.{Geometry}
use Rattle.dz_quantiser.specs.Bands.{AreUsable, IsUsableAt, band_planes}
use Rattle.dz_quantiser.specs.Coefficient.{Coefficient, zero_coefficient}
use Rattle.dz_quantiser.specs.declared.steps.StepSizes.{StepSizes}
use Rattle.frame_coefficients.specs.Planes.{AreBelow}
use Rattle.frame_choice.proofs.tests.plane_of.Goals as goal

usable : (g : Geometry) (steps : StepSizes) (r : ℕ) (o : Orient) → AreUsable g.levels steps →
    HasBand g r o → IsUsableAt steps r o
usable g steps r LL are has = are.lowest
usable g steps r HL are has = are.above r HL has.orient has.res
usable g steps r LH are has = are.above r LH has.orient has.res
usable g steps r HH are has = are.above r HH has.orient has.res

low : (coefs : List Coefficient) (k n : ℕ) → 2048 ≤ n → All (λ q. q.magnitude < 2048) coefs →
    (get_or coefs k zero_coefficient).magnitude < n
low coefs k n le each = elim (cases_lt k (length coefs)) [
  | inl lt ↦
      let here : (get_or coefs k zero_coefficient).magnitude < 2048 =
      All-get_or (λ q. q.magnitude < 2048) coefs k zero_coefficient lt each in
      omega (arith, here, le)
  | inr past ↦
      let is = ap (λ (q : Coefficient). q.magnitude) (get_or_past coefs k zero_coefficient past) in
      omega (arith, is, le)
]

below : (g : Geometry) (steps : StepSizes) (coefs : List Coefficient) → AreUsable g.levels steps →
    All (λ q. q.magnitude < 2048) coefs → AreBelow g steps coefs
below g steps coefs are each = λ r o x y has place.
    let is = usable g steps r o are has in
    let planes : 11 ≤ band_planes steps r o = omega (arith, is.range_low, is.exponent_low) in
    low coefs _ _ (pow-le-pow_right {n = 2} (omega arith) planes) each

-- one cell of a plane of zeros is set
cells_below : (cells : List Coefficient) (count place most : ℕ) (q : Coefficient) →
    cells ≡ replicate count zero_coefficient → 0 < most → q.magnitude < most →
    All (λ p. p.magnitude < most) (set cells place q)
cells_below cells count place most q are some small =
    let is_below : Coefficient → Type 0 = λ p. p.magnitude < most in
    All-set is_below cells place q small
    (subst (All is_below) (sym are) (All-replicate is_below count zero_coefficient some))

pub returns : goal.returns
returns c = record {
  size = record { width = c.in_ok-plane.ensures.width; height = c.in_ok-plane.ensures.height };
  small = cells_below _ _ _ (2 ^ 20) _ c.in_ok-plane.ensures.cells (omega arith)
      (omega (arith, c.new-2.ensures.magnitude, c.requires.low));
  below = below c.args.geometry.now c.args.steps.now _ c.requires.usable
      (cells_below _ _ _ 2048 _ c.in_ok-plane.ensures.cells (omega arith)
      (omega (arith, c.new-2.ensures.magnitude, c.requires.low)));
}
