-- Each code block lies in one of the resolution's precincts.
use Rattle.std.proofs.Common.{ℕ, zero, suc, ◌+◌, ◌*◌, ◌/◌, ◌<◌, ◌≤◌, arith}
use Rattle.cine_nums.specs.declared.orient.Orient.{Orient}
use Rattle.cine_nums.specs.declared.orient.Orient.TheVariants.{LL, HL, LH, HH}
use Rattle.band_geometry.specs.Sizes.{res_side, precinct_count}
use Rattle.band_geometry.specs.Bands.{HasBand, block_columns, block_rows}
use Rattle.band_geometry.specs.declared.geometry.Geometry.{Geometry}
use Rattle.band_geometry.proofs.SideLemmas.{res_side-below}

-- a block of a band whose side is at most half of the resolution's, rounded up
in_precinct : (side band x : ℕ) → band ≤ (side + 1) / 2 → x < (band + 31) / 32 →
    32 * x / 128 < (side + 255) / 256
in_precinct side band x half below = omega arith

across : (g : Geometry) (r : ℕ) (o : Orient) (x : ℕ) → HasBand g r o → x < block_columns g r o →
    32 * x / 128 < precinct_count g.levels g.width r
across g zero LL x has below = omega arith
across g zero HL x has below = absurd (omega (arith, has.orient))
across g zero LH x has below = absurd (omega (arith, has.orient))
across g zero HH x has below = absurd (omega (arith, has.orient))
across g (suc r) LL x has below = absurd (omega (arith, has.orient))
across g (suc r) HL x has below =
    let half = res_side-below g.levels g.width (suc r) has.orient has.res in
    in_precinct (res_side g.levels g.width (suc r)) _ x (omega (arith, half)) below
across g (suc r) LH x has below =
    let half = res_side-below g.levels g.width (suc r) has.orient has.res in
    in_precinct (res_side g.levels g.width (suc r)) _ x (omega (arith, half)) below
across g (suc r) HH x has below =
    let half = res_side-below g.levels g.width (suc r) has.orient has.res in
    in_precinct (res_side g.levels g.width (suc r)) _ x (omega (arith, half)) below

down : (g : Geometry) (r : ℕ) (o : Orient) (y : ℕ) → HasBand g r o → y < block_rows g r o →
    32 * y / 128 < precinct_count g.levels g.height r
down g zero LL y has below = omega arith
down g zero HL y has below = absurd (omega (arith, has.orient))
down g zero LH y has below = absurd (omega (arith, has.orient))
down g zero HH y has below = absurd (omega (arith, has.orient))
down g (suc r) LL y has below = absurd (omega (arith, has.orient))
down g (suc r) HL y has below =
    let half = res_side-below g.levels g.height (suc r) has.orient has.res in
    in_precinct (res_side g.levels g.height (suc r)) _ y (omega (arith, half)) below
down g (suc r) LH y has below =
    let half = res_side-below g.levels g.height (suc r) has.orient has.res in
    in_precinct (res_side g.levels g.height (suc r)) _ y (omega (arith, half)) below
down g (suc r) HH y has below =
    let half = res_side-below g.levels g.height (suc r) has.orient has.res in
    in_precinct (res_side g.levels g.height (suc r)) _ y (omega (arith, half)) below

pub blocks_in_precincts : (g : Geometry) (r : ℕ) (o : Orient) (x y : ℕ) → HasBand g r o →
    x < block_columns g r o → y < block_rows g r o →
    (32 * x / 128 < precinct_count g.levels g.width r) ×
    (32 * y / 128 < precinct_count g.levels g.height r)
blocks_in_precincts g r o x y has column row = (across g r o x has column, down g r o y has row)
