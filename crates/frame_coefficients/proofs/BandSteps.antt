-- The step of the band of a column and a row can be used, and gives small indexes.
use Rattle.std.proofs.Common.{ℕ, zero, suc, ◌-◌, ◌^◌, ◌<◌, ◌≤◌, max, min, ℤ, arith}
use Rattle.std.proofs.Math.Nat.{pow-le-pow_right}
use Rattle.std.proofs.lemmas.Nat.{pow_pos}
use Rattle.dz_quantiser.specs.Bands.{IsUsableAt, AreUsable}
use Rattle.dz_quantiser.specs.declared.steps.StepSizes.{StepSizes}
use Rattle.band_geometry.specs.Places.{orient_of}
use Rattle.frame_coefficients.specs.Places.{index_at}

pub usable_at : (levels c r : ℕ) (steps : StepSizes) → AreUsable levels steps → c ≤ levels →
    r ≤ levels →
    IsUsableAt steps (max c r) (orient_of c r)
usable_at levels zero zero steps are column row = are.lowest
usable_at levels (suc c) r steps are column row =
    are.above (max (suc c) r) (orient_of (suc c) r) (omega arith) (omega arith)
usable_at levels zero (suc r) steps are column row =
    are.above (max zero (suc r)) (orient_of zero (suc r)) (omega arith) (omega arith)

small_index : (size planes : ℕ) → planes ≤ 20 → min size (2 ^ planes - 1) < 2 ^ 20
small_index size planes few =
    let most : 2 ^ planes ≤ 2 ^ 20 = pow-le-pow_right {n = 2} (omega arith) few in
    let some : 0 < 2 ^ planes = pow_pos planes in
    omega arith

-- so that an index is below 2 ^ 20
pub index-small : (levels c r : ℕ) (steps : StepSizes) (v : ℤ) → AreUsable levels steps →
    c ≤ levels → r ≤ levels →
    (index_at steps c r v).magnitude < 2 ^ 20
index-small levels c r steps v are column row =
    small_index _ _ (usable_at levels c r steps are column row).planes_high
