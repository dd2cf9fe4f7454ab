-- The lengths of tile-parts, and of the codestream, fit 32 bits.
use Rattle.std.proofs.Common.{◌≡◌, ℕ, zero, suc, ◌+◌, ◌-◌, ◌*◌, ◌<◌, ◌≤◌, ◌==◌, min, Bool}
use Rattle.std.proofs.Common.{true, false, cond, if◌then◌else◌, List, [], ◌∷◌, length}
use Rattle.std.proofs.Common.{map, sum, get_or, refl, sym, subst, arith, length-append}
use Rattle.std.specs.List.{flat_map, range_with_len, All}
use Rattle.std.proofs.lemmas.List.FromFn.{length-range_with_len, get_or-range_with_len}
use Rattle.std.proofs.lemmas.List.FromFn.{length-map-range_with_len}
use Rattle.std.proofs.lemmas.List.Sorted.{length_permutation}
use Rattle.std.proofs.lemmas.List.Sums.{sum_by-cons}
use Rattle.cine_nums.specs.Profile.{levels_of, parts_of, max_width_of, max_height_of}
use Rattle.cine_nums.specs.declared.orient.Orient.{Orient}
use Rattle.cine_nums.specs.declared.profile.Profile.{Profile}
use Rattle.cine_nums.specs.declared.profile.Profile.TheVariants.{TwoK, FourK}
use Rattle.band_geometry.specs.Bands.{precinct_blocks_of, block_columns, block_rows}
use Rattle.band_geometry.specs.Numbering.{orients_of}
use Rattle.band_geometry.specs.Sizes.{precinct_count}
use Rattle.band_geometry.specs.TileParts.{part_of_res}
use Rattle.band_geometry.specs.declared.geometry.Geometry.{Geometry}
use Rattle.band_geometry.specs.declared.places.BlockId.{BlockId}
use Rattle.bit_stuffing.specs.Stuffing.{packed}
use Rattle.dz_quantiser.specs.declared.steps.StepSizes.{StepSizes}
use Rattle.packet_order.specs.Blocks.{blocks_in, blocks_of_packet}
use Rattle.packet_order.specs.Order.{packet_at, packets_of_row, packets_of_res, packets_of_res_in}
use Rattle.packet_order.specs.Order.{packets_of_component, packets_of_part, ordered_packets}
use Rattle.packet_order.specs.declared.packet.PacketId.{PacketId}
use Rattle.packet_order.proofs.BlockLemmas.{all_in_packet, band_count}
use Rattle.packet_order.proofs.MemberLemmas.{ordered_are_packets}
use Rattle.packet_order.proofs.SortedLemmas.{packets_permuted}
use Rattle.packet_headers.specs.declared.entry.Entry.{Entry}
use Rattle.packet_headers.specs.Kept.{header_length}
use Rattle.packet_headers.specs.Written.{CanWriteEntry, IsPlain, written_bits}
use Rattle.profile_reader.specs.Packets.{BlockBytes, packet_with, written_body, written_packet}
use Rattle.profile_reader.specs.Spell.{part_indexes, part_length, part_lengths}
use Rattle.frame_packets.specs.Keeps.{CanWriteBlocks}
use Rattle.frame_packets.proofs.Lists.{pieces_few}
use Rattle.frame_packets.proofs.Packets.{IsAny}

-- ---- precincts of a resolution, of at most 4096 by 2160 samples

-- how many precincts a resolution has at most, of the levels of a profile
abbrev pub most_of : ℕ → ℕ
most_of zero = 1
most_of (suc zero) = 1
most_of (suc (suc zero)) = 1
most_of (suc (suc (suc zero))) = 4
most_of (suc (suc (suc (suc zero)))) = 12
most_of (suc (suc (suc (suc (suc zero))))) = 40
most_of (suc (suc (suc (suc (suc (suc r)))))) = 144

product_within : (a b m n : ℕ) → a ≤ m → b ≤ n → a * b ≤ m * n
product_within a b m n h k = grind arith

two_k_res : (w h r : ℕ) → w ≤ 2048 → h ≤ 1080 → r < 6 →
    precinct_count 5 h r * precinct_count 5 w r ≤ most_of r
two_k_res w h zero few high below =
    product_within (precinct_count 5 h 0) (precinct_count 5 w 0) 1 1 (omega (arith, high))
    (omega (arith, few))
two_k_res w h (suc zero) few high below =
    product_within (precinct_count 5 h 1) (precinct_count 5 w 1) 1 1 (omega (arith, high))
    (omega (arith, few))
two_k_res w h (suc (suc zero)) few high below =
    product_within (precinct_count 5 h 2) (precinct_count 5 w 2) 1 1 (omega (arith, high))
    (omega (arith, few))
two_k_res w h (suc (suc (suc zero))) few high below =
    product_within (precinct_count 5 h 3) (precinct_count 5 w 3) 2 2 (omega (arith, high))
    (omega (arith, few))
two_k_res w h (suc (suc (suc (suc zero)))) few high below =
    product_within (precinct_count 5 h 4) (precinct_count 5 w 4) 3 4 (omega (arith, high))
    (omega (arith, few))
two_k_res w h (suc (suc (suc (suc (suc zero))))) few high below =
    product_within (precinct_count 5 h 5) (precinct_count 5 w 5) 5 8 (omega (arith, high))
    (omega (arith, few))
two_k_res w h (suc (suc (suc (suc (suc (suc r)))))) few high below = absurd (omega (arith, below))

four_k_res : (w h r : ℕ) → w ≤ 4096 → h ≤ 2160 → r < 7 →
    precinct_count 6 h r * precinct_count 6 w r ≤ most_of r
four_k_res w h zero few high below =
    product_within (precinct_count 6 h 0) (precinct_count 6 w 0) 1 1 (omega (arith, high))
    (omega (arith, few))
four_k_res w h (suc zero) few high below =
    product_within (precinct_count 6 h 1) (precinct_count 6 w 1) 1 1 (omega (arith, high))
    (omega (arith, few))
four_k_res w h (suc (suc zero)) few high below =
    product_within (precinct_count 6 h 2) (precinct_count 6 w 2) 1 1 (omega (arith, high))
    (omega (arith, few))
four_k_res w h (suc (suc (suc zero))) few high below =
    product_within (precinct_count 6 h 3) (precinct_count 6 w 3) 2 2 (omega (arith, high))
    (omega (arith, few))
four_k_res w h (suc (suc (suc (suc zero)))) few high below =
    product_within (precinct_count 6 h 4) (precinct_count 6 w 4) 3 4 (omega (arith, high))
    (omega (arith, few))
four_k_res w h (suc (suc (suc (suc (suc zero))))) few high below =
    product_within (precinct_count 6 h 5) (precinct_count 6 w 5) 5 8 (omega (arith, high))
    (omega (arith, few))
four_k_res w h (suc (suc (suc (suc (suc (suc zero)))))) few high below =
    product_within (precinct_count 6 h 6) (precinct_count 6 w 6) 9 16 (omega (arith, high))
    (omega (arith, few))
four_k_res w h (suc (suc (suc (suc (suc (suc (suc r))))))) few high below =
    absurd (omega (arith, below))

profile_res : (p : Profile) (levels w h r : ℕ) → levels ≡ levels_of p → w ≤ max_width_of p →
    h ≤ max_height_of p → r < levels + 1 →
    precinct_count levels h r * precinct_count levels w r ≤ most_of r
profile_res TwoK levels w h r at few high below =
    subst (λ n. precinct_count n h r * precinct_count n w r ≤ most_of r) (sym at)
    (two_k_res w h r few high (omega (arith, at, below)))
profile_res FourK levels w h r at few high below =
    subst (λ n. precinct_count n h r * precinct_count n w r ≤ most_of r) (sym at)
    (four_k_res w h r few high (omega (arith, at, below)))

res_length : (g : Geometry) (c r : ℕ) → length (packets_of_res g c r)
    ≤ precinct_count g.levels g.height r * precinct_count g.levels g.width r
unfolding packets_of_res packets_of_row
res_length g c r =
    let rows = range_with_len 0 (precinct_count g.levels g.height r) in
    subst (λ n. length (packets_of_res g c r) ≤ n * precinct_count g.levels g.width r)
    (length-range_with_len 0 (precinct_count g.levels g.height r))
    (pieces_few (packets_of_row g c r) (precinct_count g.levels g.width r) rows (λ k d below.
    let count = length-map-range_with_len (packet_at c r (get_or rows k d)) 0
    (precinct_count g.levels g.width r) in omega (arith, count)))

res_few : (g : Geometry) (c r : ℕ) → g.levels ≡ levels_of g.profile → r < g.levels + 1 →
    length (packets_of_res g c r) ≤ most_of r
res_few g c r levels below =
    let few = profile_res g.profile g.levels g.width g.height r levels g.width_in_profile
    g.height_in_profile below in
    let count = res_length g c r in
    omega (arith, few, count)

-- ---- packets of a tile-part

-- as many as the resolutions have that it holds
abbrev most_in : Profile → ℕ → ℕ → ℕ → ℕ
most_in p part c r = if part_of_res p (levels_of p) c r == part then most_of r else 0

abbrev most_of_component : Profile → ℕ → ℕ → ℕ
most_of_component p part c = sum (map (most_in p part c) (range_with_len 0 (levels_of p + 1)))

abbrev pub most_packets : Profile → ℕ → ℕ
most_packets p part = sum (map (most_of_component p part) (range_with_len 0 3))

sum-cons : (x : ℕ) (xs : List ℕ) → sum (x ∷ xs) ≡ x + sum xs
sum-cons x xs = sum_by-cons (λ y. y) x xs

-- pieces whose lengths are bounded one by one
pieces_within : {A B : Type 0} (f : A → List B) (m : A → ℕ) (xs : List A) →
    All (λ x. length (f x) ≤ m x) xs → length (flat_map f xs) ≤ sum (map m xs)
pieces_within f m [] each = omega arith
pieces_within f m (x ∷ xs) each =
    let here : length (f x) ≤ m x = each zero x (omega arith) in
    let rest = pieces_within f m xs (λ k d below. each (suc k) d (omega (arith, below))) in
    let whole = length-append (f x) (flat_map f xs) in
    let more = sum-cons (m x) (map m xs) in
    omega (arith, here, rest, whole, more)

res_in_few : (g : Geometry) (part c r : ℕ) → g.levels ≡ levels_of g.profile → r < g.levels + 1 →
    length (packets_of_res_in g part c r) ≤ most_in g.profile part c r
res_in_few g part c r levels below =
    subst (λ n. length (packets_of_res_in g part c r)
    ≤ (if part_of_res g.profile n c r == part then most_of r else 0)) levels
    (go (part_of_res g.profile g.levels c r == part))
  where
    go : (b : Bool) → length (cond b (packets_of_res g c r) []) ≤ cond b (most_of r) 0
    go true = res_few g c r levels below
    go false = omega arith

component_few : (g : Geometry) (part c : ℕ) → g.levels ≡ levels_of g.profile →
    length (packets_of_component g part c) ≤ most_of_component g.profile part c
unfolding packets_of_component
component_few g part c levels =
    subst (λ n. length (packets_of_component g part c)
    ≤ sum (map (most_in g.profile part c) (range_with_len 0 (n + 1)))) levels
    (pieces_within (packets_of_res_in g part c) (most_in g.profile part c)
    (range_with_len 0 (g.levels + 1)) (λ k d below.
    let inside : k < g.levels + 1 =
    omega (arith, below, length-range_with_len 0 (g.levels + 1)) in
    let at = get_or-range_with_len 0 (g.levels + 1) k d inside in
    res_in_few g part c (get_or (range_with_len 0 (g.levels + 1)) k d) levels
    (omega (arith, at, inside))))

pub packets_few : (g : Geometry) (part : ℕ) → g.levels ≡ levels_of g.profile →
    length (ordered_packets g part) ≤ most_packets g.profile part
unfolding packets_of_part
packets_few g part levels =
    let same = length_permutation (packets_of_part g part) (ordered_packets g part)
    (packets_permuted g part) in
    let few = pieces_within (packets_of_component g part) (most_of_component g.profile part)
    (range_with_len 0 3) (λ k d below.
    component_few g part (get_or (range_with_len 0 3) k d) levels) in
    omega (arith, same, few)

-- ---- the bytes of a packet

pub entry_few : (planes : ℕ) (e : Entry) → CanWriteEntry planes e → IsPlain e → e.len ≤ 131072
entry_few planes e can_write plain = go e.included refl
  where
    go : (b : Bool) → e.included ≡ b → e.len ≤ 131072
    go true is = (can_write is).len
    go false is = let zero_len = (plain is).len in omega (arith, zero_len)

pub four_at_most : (p n : ℕ) → min (4 * p + 4) n - min (4 * p) n ≤ 4
four_at_most p n = omega arith

band_few : (g : Geometry) (p : PacketId) (o : Orient) → length (blocks_in g p o) ≤ 16
band_few g p o =
    let range = precinct_blocks_of g p.res o p.px p.py in
    let rows = range.y1 - range.y0 in
    let columns = range.x1 - range.x0 in
    let few = product_within rows columns 4 4 (four_at_most p.py (block_rows g p.res o))
    (four_at_most p.px (block_columns g p.res o)) in
    subst (λ n. n ≤ 16) (sym (band_count g p o rows columns refl refl)) few

orients_few : (r : ℕ) → length (orients_of r) ≤ 3
orients_few zero = omega arith
orients_few (suc r) = omega arith

blocks_few : (g : Geometry) (p : PacketId) → length (blocks_of_packet g p) ≤ 48
unfolding blocks_of_packet
blocks_few g p =
    let pieces = pieces_few (blocks_in g p) 16 (orients_of p.res)
    (λ k d below. band_few g p (get_or (orients_of p.res) k d)) in
    let few = orients_few p.res in
    omega (arith, pieces, few)

pub written_few : (g : Geometry) (steps : StepSizes) (given : BlockId → BlockBytes) (p : PacketId) →
    CanWriteBlocks g steps given → IsAny g p →
    header_length (packet_with g steps given p) ≤ 449 →
    length (written_packet g steps given p) ≤ 6291905
unfolding written_packet
written_few g steps given p can_write any short =
    let blocks = blocks_of_packet g p in
    let codes = pieces_few (λ b. (given b).code) 131072 blocks (λ k d below.
    let b = get_or blocks k d in
    let is = can_write b (all_in_packet g p any.component any.res k d below).block in
    let few = entry_few _ (given b).entry is.entry is.plain in
    let code = is.code in
    omega (arith, few, code)) in
    let few = blocks_few g p in
    let whole = length-append (packed (written_bits (packet_with g steps given p)))
    (flat_map (λ b. (given b).code) blocks) in
    omega (arith, codes, few, whole, short)

-- ---- the bytes of tile-parts

-- every header is short
abbrev pub AreShort : Geometry → StepSizes → (BlockId → BlockBytes) → Type 0
AreShort g steps given = (p : PacketId) → p.component < 3 → p.res ≤ g.levels →
    header_length (packet_with g steps given p) ≤ 449

abbrev most_bytes : Profile → ℕ → ℕ
most_bytes p part = 14 + most_packets p part * 6291905

times : (a m n b : ℕ) → a ≤ m * n → m ≤ b → a ≤ b * n
times a m n b h k = grind arith

part_few : (g : Geometry) (steps : StepSizes) (given : BlockId → BlockBytes) (index : ℕ) →
    g.levels ≡ levels_of g.profile → CanWriteBlocks g steps given → AreShort g steps given →
    part_length g steps given index ≤ most_bytes g.profile index
unfolding written_body
part_few g steps given index levels can_write short =
    let ids = ordered_packets g index in
    let body = pieces_few (written_packet g steps given) 6291905 ids (λ k d below.
    let is = ordered_are_packets g index k d below in
    written_few g steps given (get_or ids k d) can_write
    (record { component = is.component; res = is.res })
    (short (get_or ids k d) is.component is.res)) in
    let all = times (length (flat_map (written_packet g steps given) ids)) (length ids) 6291905
    (most_packets g.profile index) body (packets_few g index levels) in
    omega (arith, all)

sums_within : (f m : ℕ → ℕ) (xs : List ℕ) → ((x : ℕ) → f x ≤ m x) → sum (map f xs) ≤ sum (map m xs)
sums_within f m [] each = omega arith
sums_within f m (x ∷ xs) each =
    let here = each x in
    let rest = sums_within f m xs each in
    let one = sum-cons (f x) (map f xs) in
    let other = sum-cons (m x) (map m xs) in
    omega (arith, here, rest, one, other)

most_in_all : (p : Profile) → sum (map (most_bytes p) (range_with_len 0 (parts_of p))) ≤ 3831770229
most_in_all TwoK = omega arith
most_in_all FourK = omega arith

pub frame_few : (g : Geometry) (steps : StepSizes) (given : BlockId → BlockBytes) →
    g.levels ≡ levels_of g.profile → CanWriteBlocks g steps given → AreShort g steps given →
    sum (part_lengths g steps given) ≤ 3831770229
frame_few g steps given levels can_write short =
    let each = sums_within (part_length g steps given) (most_bytes g.profile) (part_indexes g)
    (λ index. part_few g steps given index levels can_write short) in
    let all = most_in_all g.profile in
    omega (arith, each, all)

-- of one tile-part
most_in_one : (p : Profile) (index : ℕ) → index < parts_of p → most_bytes p index < 2147483648
most_in_one TwoK zero below = omega arith
most_in_one TwoK (suc zero) below = omega arith
most_in_one TwoK (suc (suc zero)) below = omega arith
most_in_one TwoK (suc (suc (suc n))) below = absurd (omega (arith, below))
most_in_one FourK zero below = omega arith
most_in_one FourK (suc zero) below = omega arith
most_in_one FourK (suc (suc zero)) below = omega arith
most_in_one FourK (suc (suc (suc zero))) below = omega arith
most_in_one FourK (suc (suc (suc (suc zero)))) below = omega arith
most_in_one FourK (suc (suc (suc (suc (suc zero))))) below = omega arith
most_in_one FourK (suc (suc (suc (suc (suc (suc n)))))) below = absurd (omega (arith, below))

pub one_few : (g : Geometry) (steps : StepSizes) (given : BlockId → BlockBytes) (index : ℕ) →
    g.levels ≡ levels_of g.profile → CanWriteBlocks g steps given → AreShort g steps given →
    index < parts_of g.profile → part_length g steps given index < 2147483648
one_few g steps given index levels can_write short below =
    let few = part_few g steps given index levels can_write short in
    let one = most_in_one g.profile index below in
    omega (arith, few, one)
