-- How long the parts of a codestream of empty packets can be, of whichever profile.
use Rattle.std.proofs.Common.{◌≡◌, ℕ, zero, suc, ◌+◌, ◌-◌, ◌*◌, ◌^◌, ◌≤◌, ◌==◌, Bool, true, false}
use Rattle.std.proofs.Common.{cond, List, [], ◌∷◌, length, map}
use Rattle.std.proofs.Common.{length-append, arith, sym, ◌∙◌, ap, add-one, sum}
use Rattle.std.specs.List.{flat_map, range_with_len, AllByRecursion}
use Rattle.std.proofs.Math.Nat.{div-le_of_le-mul}
use Rattle.std.proofs.lemmas.Nat.{pow_pos}
use Rattle.std.proofs.lemmas.Bool.{eq-eqb}
use Rattle.std.proofs.lemmas.List.{length-replicate}
use Rattle.std.proofs.lemmas.List.FromFn.{length-range_with_len, length-map-range_with_len}
use Rattle.std.proofs.lemmas.List.Sorted.{length_permutation}
use Rattle.std.proofs.lemmas.List.Sums.{sum_by-cons}
use Rattle.cine_nums.specs.Profile.{levels_of, parts_of, max_width_of, max_height_of}
use Rattle.cine_nums.specs.declared.profile.Profile.{Profile}
use Rattle.cine_nums.specs.declared.profile.Profile.TheVariants.{TwoK, FourK}
use Rattle.band_geometry.specs.Sizes.{res_side, precinct_count}
use Rattle.band_geometry.specs.TileParts.{part_of_res}
use Rattle.band_geometry.specs.declared.geometry.Geometry.{Geometry}
use Rattle.frame_coefficients.specs.BuiltIn.{built_in_steps}
use Rattle.packet_order.specs.Order.{packet_at, packets_of_row, packets_of_res, packets_of_res_in}
use Rattle.packet_order.specs.Order.{packets_of_component, packets_of_part, ordered_packets}
use Rattle.packet_order.proofs.SortedLemmas.{packets_permuted}
use Rattle.packet_order.proofs.MemberLemmas.{pieces_more}
use Rattle.profile_reader.specs.Spell.{part_indexes}
use Rattle.frame_encoder.specs.Empty.{empty_body, empty_part_length}
use Rattle.frame_encoder.specs.Empty.{empty_part_lengths}
use Rattle.frame_encoder.proofs.EmptyPackets.{body_is_0}

-- ---- precincts

wide : (d side : ℕ) → 1 ≤ d → side + (d - 1) ≤ d * (side + 1)
wide d side some = grind arith

side_few : (levels side r : ℕ) → res_side levels side r ≤ side + 1
side_few levels side r =
    div-le_of_le-mul (2 ^ (levels - r)) (wide (2 ^ (levels - r)) side (pow_pos (levels - r)))

across_few : (levels side r : ℕ) → side ≤ 4096 → precinct_count levels side r ≤ 33
across_few levels side zero h = let few = side_few levels side 0 in omega (arith, few)
across_few levels side (suc r) h = let few = side_few levels side (suc r) in omega (arith, few)

down_few : (levels side r : ℕ) → side ≤ 2160 → precinct_count levels side r ≤ 17
down_few levels side zero h = let few = side_few levels side 0 in omega (arith, few)
down_few levels side (suc r) h = let few = side_few levels side (suc r) in omega (arith, few)

wide_few : (g : Geometry) → g.width ≤ 4096
wide_few g = go g.profile g.width_in_profile
  where
    go : (p : Profile) → g.width ≤ max_width_of p → g.width ≤ 4096
    go TwoK h = omega (arith, h)
    go FourK h = h

high_few : (g : Geometry) → g.height ≤ 2160
high_few g = go g.profile g.height_in_profile
  where
    go : (p : Profile) → g.height ≤ max_height_of p → g.height ≤ 2160
    go TwoK h = omega (arith, h)
    go FourK h = h

levels_few : (g : Geometry) → g.levels ≤ 6
levels_few g = go g.profile g.few_levels
  where
    go : (p : Profile) → g.levels ≤ levels_of p → g.levels ≤ 6
    go TwoK h = omega (arith, h)
    go FourK h = h

-- ---- packets

one_piece : (a b n m : ℕ) → a ≤ m → b ≤ n * m → a + b ≤ suc n * m
one_piece a b n m h k = grind arith

pieces_few : {A B : Type 0} (f : A → List B) (m : ℕ) (xs : List A) → ((x : A) → length (f x) ≤ m) →
    length (flat_map f xs) ≤ length xs * m
pieces_few f m [] each = omega arith
pieces_few f m (x ∷ xs) each =
    let whole = length-append (f x) (flat_map f xs) in
    let both = one_piece (length (f x)) (length (flat_map f xs)) (length xs) m (each x)
    (pieces_few f m xs each) in
    omega (arith, whole, both)

product_within : (a b m n : ℕ) → a ≤ m → b ≤ n → a * b ≤ m * n
product_within a b m n h k = grind arith

row_few : (g : Geometry) (c r py : ℕ) → length (packets_of_row g c r py) ≤ 33
unfolding packets_of_row
row_few g c r py =
    let count = length-map-range_with_len (packet_at c r py) 0
    (precinct_count g.levels g.width r) in
    let few = across_few g.levels g.width r (wide_few g) in
    omega (arith, count, few)

res_few : (g : Geometry) (c r : ℕ) → length (packets_of_res g c r) ≤ 561
unfolding packets_of_res
res_few g c r =
    let rows = range_with_len 0 (precinct_count g.levels g.height r) in
    let pieces = pieces_few (packets_of_row g c r) 33 rows (row_few g c r) in
    let count = length-range_with_len 0 (precinct_count g.levels g.height r) in
    let few = down_few g.levels g.height r (high_few g) in
    omega (arith, pieces, count, few)

pub res_in_few : (g : Geometry) (part c r : ℕ) → length (packets_of_res_in g part c r) ≤ 561
res_in_few g part c r = go (part_of_res g.profile g.levels c r == part)
  where
    go : (b : Bool) → length (cond b (packets_of_res g c r) []) ≤ 561
    go true = res_few g c r
    go false = omega arith

pub component_few : (g : Geometry) (part c : ℕ) → length (packets_of_component g part c) ≤ 3927
unfolding packets_of_component
component_few g part c =
    let pieces = pieces_few (packets_of_res_in g part c) 561 (range_with_len 0 (g.levels + 1))
    (res_in_few g part c) in
    let count = length-range_with_len 0 (g.levels + 1) in
    let few = levels_few g in
    omega (arith, pieces, count, few)

part_few : (g : Geometry) (part : ℕ) → length (packets_of_part g part) ≤ 11781
unfolding packets_of_part
part_few g part =
    let pieces = pieces_few (packets_of_component g part) 3927 (range_with_len 0 3)
    (component_few g part) in
    let count = length-range_with_len 0 3 in
    omega (arith, pieces, count)

pub part_count : (g : Geometry) (part : ℕ) →
    length (packets_of_part g part) ≡ length (ordered_packets g part)
part_count g part = sym
    (length_permutation (packets_of_part g part) (ordered_packets g part) (packets_permuted g part))

-- as many of each piece
same_pieces : {A B : Type 0} (f : A → List B) (m : ℕ) (xs : List A) →
    ((x : A) → length (f x) ≡ m) → length (flat_map f xs) ≡ length xs * m
same_pieces f m [] each = omega arith
same_pieces f m (x ∷ xs) each =
    let whole = length-append (f x) (flat_map f xs) in
    let rest = same_pieces f m xs each in
    let first = each x in
    grind (arith, whole, rest, first)

pub res_count : (g : Geometry) (c r : ℕ) → length (packets_of_res g c r)
    ≡ precinct_count g.levels g.height r * precinct_count g.levels g.width r
unfolding packets_of_res packets_of_row
res_count g c r =
    let down = precinct_count g.levels g.height r in
    let across = precinct_count g.levels g.width r in
    let pieces = same_pieces (packets_of_row g c r) across (range_with_len 0 down)
    (λ py. length-map-range_with_len (packet_at c r py) 0 across) in
    let count = length-range_with_len 0 down in
    pieces ∙ ap (λ n. n * across) count

-- all packets of a resolution that the tile-part holds, and none of another
pub held_count : (g : Geometry) (part c r : ℕ) → part_of_res g.profile g.levels c r ≡ part →
    length (packets_of_res_in g part c r)
    ≡ precinct_count g.levels g.height r * precinct_count g.levels g.width r
held_count g part c r is =
    ap (λ b. length (cond b (packets_of_res g c r) []))
    (eq-eqb (part_of_res g.profile g.levels c r) part is) ∙ res_count g c r

-- one piece more
pub length_more : {B : Type 0} (f : ℕ → List B) (n : ℕ) →
    length (flat_map f (range_with_len 0 (n + 1)))
    ≡ length (flat_map f (range_with_len 0 n)) + length (f n)
length_more f n =
    ap (λ k. length (flat_map f (range_with_len 0 k))) (add-one n)
    ∙ ap (λ xs. length xs) (pieces_more f n) ∙ length-append (flat_map f (range_with_len 0 n)) (f n)

pub packets_few : (g : Geometry) (part : ℕ) → length (ordered_packets g part) ≤ 11781
packets_few g part =
    let same = length_permutation (packets_of_part g part) (ordered_packets g part)
    (packets_permuted g part) in
    let few = part_few g part in
    omega (arith, same, few)

-- ---- tile-parts

pub body_count : (g : Geometry) (index : ℕ) →
    length (empty_body g index) ≡ length (ordered_packets g index)
body_count g index =
    let e = body_is_0 g (built_in_steps g.profile) index in
    rw e (length-replicate (length (ordered_packets g index)) 0)

length_few : (g : Geometry) (index : ℕ) → empty_part_length g index ≤ 11795
length_few g index =
    let few = packets_few g index in
    let count = body_count g index in
    omega (arith, few, count)

pub parts_few : (p : Profile) → parts_of p ≤ 6
parts_few TwoK = omega arith
parts_few FourK = omega arith

all_few : {A : Type 0} (f : A → ℕ) (m : ℕ) (xs : List A) → ((x : A) → f x ≤ m) →
    sum (map f xs) ≤ length xs * m
all_few f m [] each = omega arith
all_few f m (x ∷ xs) each =
    let both = one_piece (f x) (sum (map f xs)) (length xs) m (each x) (all_few f m xs each) in
    let whole = sum_by-cons (λ (n : ℕ). n) (f x) (map f xs) in
    omega (arith, both, whole)

pub sum_few : (g : Geometry) → sum (empty_part_lengths g) ≤ 70770
sum_few g =
    let pieces = all_few (empty_part_length g) 11795 (part_indexes g) (length_few g) in
    let count = length-range_with_len 0 (parts_of g.profile) in
    let few = parts_few g.profile in
    omega (arith, pieces, count, few)

pub lengths_count : (g : Geometry) → length (empty_part_lengths g) ≡ parts_of g.profile
lengths_count g = length-map-range_with_len (empty_part_length g) 0 (parts_of g.profile)

pub lengths_few : (g : Geometry) → AllByRecursion (λ (n : ℕ). n ≤ 11795) (empty_part_lengths g)
lengths_few g = go (part_indexes g)
  where
    go : (xs : List ℕ) → AllByRecursion (λ (n : ℕ). n ≤ 11795) (map (empty_part_length g) xs)
    go [] = tt
    go (x ∷ xs) = (length_few g x, go xs)
