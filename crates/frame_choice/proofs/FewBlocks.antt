-- A frame has at most 26,292 code-blocks.
use Rattle.std.proofs.Common.{◌≡◌, ℕ, zero, suc, ◌+◌, ◌-◌, ◌*◌, ◌/◌, ◌^◌, ◌<◌, ◌≤◌, length, arith}
use Rattle.std.proofs.Common.{ap, sym, ◌∙◌, subst, refl}
use Rattle.std.proofs.Math.Nat.{mul_comm, pow-succ'}
use Rattle.std.proofs.lemmas.Nat.{div_below, div-add-mod', mod_below, pow_pos}
use Rattle.cine_nums.specs.Division.{div_up}
use Rattle.cine_nums.specs.Profile.{levels_of, max_height_of, max_width_of}
use Rattle.cine_nums.specs.declared.orient.Orient.{Orient}
use Rattle.cine_nums.specs.declared.orient.Orient.TheVariants.{LL, HL, LH, HH}
use Rattle.cine_nums.specs.declared.profile.Profile.{Profile}
use Rattle.cine_nums.specs.declared.profile.Profile.TheVariants.{TwoK, FourK}
use Rattle.band_geometry.specs.Bands.{IsOrientAt, band_of, block_columns, block_rows, res_height}
use Rattle.band_geometry.specs.Bands.{res_width}
use Rattle.band_geometry.specs.Counts.{band_count, component_count, count_below}
use Rattle.band_geometry.specs.Numbering.{all_blocks}
use Rattle.band_geometry.specs.Sizes.{res_side}
use Rattle.band_geometry.specs.declared.geometry.Geometry.{Geometry}
use Rattle.band_geometry.proofs.NumberLemmas.{length_all_blocks}

-- ---- division that rounds up

at_most : (n d m : ℕ) → 0 < d → n ≤ d * m → div_up n d ≤ m
at_most n d m some le =
    let below : n + (d - 1) < suc m * d = grind arith in
    let less : (n + (d - 1)) / d < suc m = div_below (n + (d - 1)) d (suc m) some below in
    omega (arith, less)

covers : (n d : ℕ) → 0 < d → n ≤ d * div_up n d
covers n d some =
    let whole = div-add-mod' (n + (d - 1)) d in
    let rest = mod_below (n + (d - 1)) d some in
    let product : (n + (d - 1)) / d * d ≡ d * ((n + (d - 1)) / d) = grind arith in
    omega (arith, whole, rest, product, some)

halves : (n d : ℕ) → 0 < d → div_up n d ≤ 2 * div_up n (2 * d)
halves n d some =
    let whole : n ≤ 2 * d * div_up n (2 * d) = covers n (2 * d) (omega (arith, some)) in
    at_most n d (2 * div_up n (2 * d)) some (grind (arith, whole))

-- ---- the sides of resolutions and bands

power : (levels r : ℕ) → suc r ≤ levels → 2 ^ (levels - r) ≡ 2 * 2 ^ (levels - suc r)
power levels r below =
    let more : levels - r ≡ suc (levels - suc r) = omega (arith, below) in
    ap (λ k. 2 ^ k) more ∙ pow-succ' 2 (levels - suc r)

side_halves : (levels side r : ℕ) → suc r ≤ levels →
    res_side levels side (suc r) ≤ 2 * res_side levels side r
side_halves levels side r below =
    subst (λ d. div_up side (2 ^ (levels - suc r)) ≤ 2 * div_up side d)
    (sym (power levels r below))
    (halves side (2 ^ (levels - suc r)) (pow_pos (levels - suc r)))

doubled : (a m b : ℕ) → a * (m * (2 * b)) ≡ 2 * a * (m * b)
doubled a m b = grind arith

powers : (levels r m : ℕ) → r ≤ levels → 2 ^ (levels - r) * (m * 2 ^ r) ≡ m * 2 ^ levels
powers levels zero m le =
    let all : levels - 0 ≡ levels = omega arith in
    let same : 2 ^ (levels - 0) ≡ 2 ^ levels = ap (λ k. 2 ^ k) all in
    let product : 2 ^ (levels - 0) * (m * 2 ^ 0) ≡ 2 ^ (levels - 0) * m =
    ap (λ k. 2 ^ (levels - 0) * k) (omega arith) in
    product ∙ ap (λ k. k * m) same ∙ mul_comm (2 ^ levels) m
powers levels (suc r) m le =
    ap (λ k. 2 ^ (levels - suc r) * (m * k)) (pow-succ' 2 r)
    ∙ doubled (2 ^ (levels - suc r)) m (2 ^ r)
    ∙ ap (λ k. k * (m * 2 ^ r)) (sym (power levels r le))
    ∙ powers levels r m (omega (arith, le))

side_within : (levels side r m : ℕ) → r ≤ levels → side ≤ m * 2 ^ levels →
    res_side levels side r ≤ m * 2 ^ r
side_within levels side r m le fits =
    at_most side (2 ^ (levels - r)) (m * 2 ^ r) (pow_pos (levels - r))
    (let same = powers levels r m le in omega (arith, same, fits))

-- the sides of the bands above a resolution are no longer than its own
before : (r : ℕ) → suc r - 1 ≡ r
before r = omega arith

low_part : (levels side r : ℕ) → res_side levels side (suc r - 1) ≤ res_side levels side r
low_part levels side r =
    let same = ap (res_side levels side) (before r) in omega (arith, same)

high_part : (levels side r : ℕ) → suc r ≤ levels →
    res_side levels side (suc r) - res_side levels side (suc r - 1) ≤ res_side levels side r
high_part levels side r below =
    let half = side_halves levels side r below in
    let same = ap (res_side levels side) (before r) in
    omega (arith, half, same)

width_within : (g : Geometry) (r : ℕ) (o : Orient) → suc r ≤ g.levels → IsOrientAt (suc r) o →
    (band_of g (suc r) o).width ≤ res_width g r
width_within g r LL below is = absurd (omega (arith, is))
width_within g r HL below is = high_part g.levels g.width r below
width_within g r LH below is = low_part g.levels g.width r
width_within g r HH below is = high_part g.levels g.width r below

height_within : (g : Geometry) (r : ℕ) (o : Orient) → suc r ≤ g.levels → IsOrientAt (suc r) o →
    (band_of g (suc r) o).height ≤ res_height g r
height_within g r LL below is = absurd (omega (arith, is))
height_within g r HL below is = low_part g.levels g.height r
height_within g r LH below is = high_part g.levels g.height r below
height_within g r HH below is = high_part g.levels g.height r below

-- ---- counts

product_le : (a b m n : ℕ) → a ≤ m → b ≤ n → a * b ≤ m * n
product_le a b m n first second = grind arith

along : (side m : ℕ) → side ≤ 32 * m → div_up side 32 ≤ m
along side m fits = at_most side 32 m (omega arith) fits

band_few : (g : Geometry) (r : ℕ) (o : Orient) (m n : ℕ) → (band_of g r o).width ≤ 32 * m →
    (band_of g r o).height ≤ 32 * n → band_count g r o ≤ n * m
unfolding band_count
band_few g r o m n wide high =
    product_le (block_rows g r o) (block_columns g r o) n m (along (band_of g r o).height n high)
    (along (band_of g r o).width m wide)

-- the frame is so small that its lowest resolution is at most 64 by 34
pub record IsSized (g : Geometry) : Type 0 where
  pub width : g.width ≤ 64 * 2 ^ g.levels
  pub height : g.height ≤ 34 * 2 ^ g.levels

above_few : (g : Geometry) (r : ℕ) (o : Orient) (m n : ℕ) → IsSized g → suc r ≤ g.levels →
    IsOrientAt (suc r) o → 64 * 2 ^ r ≤ 32 * m → 34 * 2 ^ r ≤ 32 * n →
    band_count g (suc r) o ≤ n * m
above_few g r o m n sized below is wide high =
    let width = width_within g r o below is in
    let height = height_within g r o below is in
    let across = side_within g.levels g.width r 64 (omega (arith, below)) sized.width in
    let down = side_within g.levels g.height r 34 (omega (arith, below)) sized.height in
    band_few g (suc r) o m n (omega (arith, width, across, wide)) (omega (arith, height, down, high))

lowest_few : (g : Geometry) → IsSized g → count_below g 1 ≤ 4
unfolding count_below
lowest_few g sized =
    let across : res_width g 0 ≤ 64 * 2 ^ 0 =
    side_within g.levels g.width 0 64 (omega arith) sized.width in
    let down : res_height g 0 ≤ 34 * 2 ^ 0 =
    side_within g.levels g.height 0 34 (omega arith) sized.height in
    let few : band_count g 0 LL ≤ 2 * 2 = band_few g 0 LL 2 2 (omega (arith, across))
    (omega (arith, down)) in
    omega (arith, few)

more : (g : Geometry) (r all m n : ℕ) → IsSized g → suc r ≤ g.levels → 64 * 2 ^ r ≤ 32 * m →
    34 * 2 ^ r ≤ 32 * n → count_below g (suc r) ≤ all →
    count_below g (suc (suc r)) ≤ all + 3 * (n * m)
unfolding count_below
more g r all m n sized below wide high few =
    let hl = above_few g r HL m n sized below (omega arith) wide high in
    let lh = above_few g r LH m n sized below (omega arith) wide high in
    let hh = above_few g r HH m n sized below (omega arith) wide high in
    omega (arith, hl, lh, hh, few)

-- with five levels, and with six
five : (g : Geometry) → IsSized g → 5 ≤ g.levels → count_below g 6 ≤ 2236
five g sized levels =
    more g 4 604 32 17 sized levels (omega arith) (omega arith)
    (more g 3 172 16 9 sized (omega (arith, levels)) (omega arith) (omega arith)
    (more g 2 52 8 5 sized (omega (arith, levels)) (omega arith) (omega arith)
    (more g 1 16 4 3 sized (omega (arith, levels)) (omega arith) (omega arith)
    (more g 0 4 2 2 sized (omega (arith, levels)) (omega arith) (omega arith)
    (lowest_few g sized)))))

six : (g : Geometry) → IsSized g → 6 ≤ g.levels → count_below g 7 ≤ 8764
six g sized levels =
    more g 5 2236 64 34 sized levels (omega arith) (omega arith)
    (five g sized (omega (arith, levels)))

-- ---- the two profiles

component_few : (g : Geometry) (p : Profile) → g.profile ≡ p → g.levels ≡ levels_of p →
    component_count g ≤ 8764
component_few g TwoK is levels =
    let wide : g.width ≤ 2048 = subst (λ q. g.width ≤ max_width_of q) is g.width_in_profile in
    let high : g.height ≤ 1080 = subst (λ q. g.height ≤ max_height_of q) is g.height_in_profile in
    let sized : IsSized g = record {
      width = subst (λ n. g.width ≤ 64 * 2 ^ n) (sym levels) (omega (arith, wide));
      height = subst (λ n. g.height ≤ 34 * 2 ^ n) (sym levels) (omega (arith, high));
    } in
    let few = five g sized (omega (arith, levels)) in
    let same : count_below g (g.levels + 1) ≡ count_below g 6 =
    ap (λ n. count_below g (n + 1)) levels in
    omega (arith, few, same)
component_few g FourK is levels =
    let wide : g.width ≤ 4096 = subst (λ q. g.width ≤ max_width_of q) is g.width_in_profile in
    let high : g.height ≤ 2160 = subst (λ q. g.height ≤ max_height_of q) is g.height_in_profile in
    let sized : IsSized g = record {
      width = subst (λ n. g.width ≤ 64 * 2 ^ n) (sym levels) (omega (arith, wide));
      height = subst (λ n. g.height ≤ 34 * 2 ^ n) (sym levels) (omega (arith, high));
    } in
    let few = six g sized (omega (arith, levels)) in
    let same : count_below g (g.levels + 1) ≡ count_below g 7 =
    ap (λ n. count_below g (n + 1)) levels in
    omega (arith, few, same)

pub few_blocks : (g : Geometry) → g.levels ≡ levels_of g.profile → length (all_blocks g) ≤ 26292
few_blocks g levels =
    let few = component_few g g.profile refl levels in
    let long = length_all_blocks g in
    omega (arith, few, long)
