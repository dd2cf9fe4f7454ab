-- Packets in which no code-block is included, and that packets can be written.
use Rattle.std.proofs.Common.{◌≡◌, ℕ, zero, suc, ◌+◌, ◌-◌, ◌*◌, ◌^◌, ◌<◌, ◌≤◌, Bool, false}
use Rattle.std.proofs.Common.{◌||◌, List, [], ◌∷◌, ◌++◌, length, map, replicate, get_or, refl, sym, ap}
use Rattle.std.proofs.Common.{◌∙◌, subst, arith}
use Rattle.std.specs.List.{flat_map, list_any}
use Rattle.std.proofs.Math.Nat.{le-div_iff_mul-le}
use Rattle.std.proofs.lemmas.Nat.{pow_pos}
use Rattle.std.proofs.lemmas.List.{length-map}
use Rattle.std.proofs.lemmas.List.Elements.{All-map}
use Rattle.cine_nums.specs.Coding.{precinct_side}
use Rattle.cine_nums.specs.Division.{div_up}
use Rattle.cine_nums.specs.declared.orient.Orient.{Orient}
use Rattle.cine_nums.specs.declared.orient.Orient.TheVariants.{LL, HL, LH, HH}
use Rattle.band_geometry.specs.Bands.{HasBand, precinct_blocks_of, block_columns, block_rows}
use Rattle.band_geometry.specs.Numbering.{orients_of}
use Rattle.band_geometry.specs.Sizes.{res_side, precinct_count}
use Rattle.band_geometry.specs.declared.geometry.Geometry.{Geometry}
use Rattle.band_geometry.specs.declared.places.BlockId.{BlockId}
use Rattle.band_geometry.specs.declared.places.BlockRange.{BlockRange}
use Rattle.dz_quantiser.specs.Bands.{AreUsable, IsUsableAt, band_planes}
use Rattle.dz_quantiser.specs.declared.steps.StepSizes.{StepSizes}
use Rattle.packet_order.specs.Blocks.{blocks_in, blocks_of_packet}
use Rattle.packet_order.specs.Order.{ordered_packets, place_of}
use Rattle.packet_order.specs.declared.packet.PacketId.{PacketId}
use Rattle.packet_order.proofs.BlockLemmas.{all_in_band, band_count}
use Rattle.packet_order.proofs.MemberLemmas.{some_side}
use Rattle.packet_headers.specs.declared.entry.Entry.{Entry}
use Rattle.packet_headers.specs.declared.packet.Packet.{Packet}
use Rattle.packet_headers.specs.declared.packet.PacketBand.{PacketBand}
use Rattle.packet_headers.specs.Written.{CanWrite, CanWriteBand, CanWriteEntry, band_has_any}
use Rattle.packet_headers.specs.Written.{has_any, written_bits}
use Rattle.packet_headers.proofs.HeaderLemmas.{empty_header}
use Rattle.bit_stuffing.specs.Stuffing.{packed}
use Rattle.profile_reader.specs.Packets.{BlockBytes, band_with, left_out, packet_with}
use Rattle.profile_reader.specs.Packets.{written_body, written_packet}
use Rattle.profile_reader.specs.Spell.{part_length}
use Rattle.frame_packets.specs.Keeps.{CanWriteBlocks, nothing}
use Rattle.frame_packets.proofs.Bounds.{AreShort, four_at_most}
use Rattle.frame_packets.proofs.Packets.{IsAny, band_is}

-- ---- precincts of packets

begun : (p n d : ℕ) → 0 < d → p * d < n → p < div_up n d
begun p n d some below =
    let whole : suc p * d ≤ n + (d - 1) = omega arith in
    (le-div_iff_mul-le {x = suc p} {y = n + (d - 1)} some).1 whole

pub within_begun : (levels side r p : ℕ) → place_of levels r p < side →
    p < precinct_count levels side r
within_begun levels side r p within =
    begun p (res_side levels side r) (precinct_side r) (some_side r)
    (begun (p * precinct_side r) side (2 ^ (levels - r)) (pow_pos (levels - r)) within)

-- ---- packets can be written

usable_at : (g : Geometry) (steps : StepSizes) (r : ℕ) (o : Orient) → AreUsable g.levels steps →
    HasBand g r o → IsUsableAt steps r o
usable_at g steps r LL usable is = subst (λ n. IsUsableAt steps n LL) (sym is.orient) usable.lowest
usable_at g steps r HL usable is = usable.above r HL is.orient is.res
usable_at g steps r LH usable is = usable.above r LH is.orient is.res
usable_at g steps r HH usable is = usable.above r HH is.orient is.res

turned : (a b : ℕ) → a * b ≡ b * a
turned a b = grind arith

can_write_band : (g : Geometry) (steps : StepSizes) (given : BlockId → BlockBytes) (p : PacketId)
    (o : Orient) → AreUsable g.levels steps → CanWriteBlocks g steps given → IsAny g p →
    HasBand g p.res o → CanWriteBand (band_with g steps given p o)
can_write_band g steps given p o usable all any has =
    let range = precinct_blocks_of g p.res o p.px p.py in
    let rows = range.y1 - range.y0 in
    let columns = range.x1 - range.x0 in
    let is = usable_at g steps p.res o usable has in
    record {
      width = four_at_most p.px (block_columns g p.res o);
      height = four_at_most p.py (block_rows g p.res o);
      count = length-map (blocks_in g p o) (λ b. (given b).entry)
          ∙ band_count g p o rows columns refl refl ∙ turned rows columns;
      some_planes = is.planes_low;
      planes = is.planes_high;
      entries = All-map (CanWriteEntry (band_planes steps p.res o)) (λ b. (given b).entry)
          (blocks_in g p o) (λ k d below.
          let b = get_or (blocks_in g p o) k d in
          let there = all_in_band g p o any.component has k d below in
          subst (λ q. CanWriteEntry (band_planes steps p.res q) (given b).entry) there.orient
          (subst (λ q. CanWriteEntry (band_planes steps q.res b.orient) (given b).entry)
          there.of_packet.packet (all b there.of_packet.block).entry));
    }

pub can_write_packet : (g : Geometry) (steps : StepSizes) (given : BlockId → BlockBytes)
    (p : PacketId) → AreUsable g.levels steps → CanWriteBlocks g steps given → IsAny g p →
    CanWrite (packet_with g steps given p)
unfolding packet_with
can_write_packet g steps given p usable all any =
    All-map CanWriteBand (band_with g steps given p) (orients_of p.res) (λ k d below.
    can_write_band g steps given p (get_or (orients_of p.res) k d) usable all any
    (band_is g p k d any below))

-- ---- nothing is written

pub nothing_written : (g : Geometry) (steps : StepSizes) → CanWriteBlocks g steps nothing
nothing_written g steps b is = record {
  entry = λ included. absurd cc;
  plain = λ is. record { zero_planes = refl; passes = refl; len = refl };
  code = refl;
}

none_included : (blocks : List BlockId) →
    list_any (λ (entry : Entry). entry.included) (map (λ b. (nothing b).entry) blocks) ≡ false
none_included [] = refl
none_included (b ∷ blocks) = none_included blocks

both_false : (a b : Bool) → a ≡ false → b ≡ false → (a || b) ≡ false
both_false a b p q = ap (λ x. x || b) p ∙ q

no_band : (g : Geometry) (steps : StepSizes) (p : PacketId) (orients : List Orient) →
    list_any band_has_any (map (band_with g steps nothing p) orients) ≡ false
no_band g steps p [] = refl
no_band g steps p (o ∷ orients) =
    both_false (band_has_any (band_with g steps nothing p o))
    (list_any band_has_any (map (band_with g steps nothing p) orients))
    (none_included (blocks_in g p o)) (no_band g steps p orients)

has_nothing : (g : Geometry) (steps : StepSizes) (p : PacketId) →
    has_any (packet_with g steps nothing p) ≡ false
unfolding packet_with
has_nothing g steps p = no_band g steps p (orients_of p.res)

header_is_0 : (g : Geometry) (steps : StepSizes) (p : PacketId) →
    packed (written_bits (packet_with g steps nothing p)) ≡ 0 ∷ []
header_is_0 g steps p = empty_header (packet_with g steps nothing p) (has_nothing g steps p)

pub nothing_short : (g : Geometry) (steps : StepSizes) → AreShort g steps nothing
nothing_short g steps p component res =
    subst (λ n. n ≤ 449) (sym (ap (λ (bytes : List ℕ). length bytes) (header_is_0 g steps p)))
    (omega arith)

no_codes : (blocks : List BlockId) → flat_map (λ b. (nothing b).code) blocks ≡ []
no_codes [] = refl
no_codes (b ∷ blocks) = no_codes blocks

packet_is_0 : (g : Geometry) (steps : StepSizes) (p : PacketId) →
    written_packet g steps nothing p ≡ 0 ∷ []
unfolding written_packet
packet_is_0 g steps p =
    ap (λ bytes. bytes ++ flat_map (λ b. (nothing b).code) (blocks_of_packet g p))
    (header_is_0 g steps p)
    ∙ ap (λ bytes. (0 ∷ []) ++ bytes) (no_codes (blocks_of_packet g p))

all_0 : {A : Type 0} (f : A → List ℕ) (xs : List A) → ((x : A) → f x ≡ 0 ∷ []) →
    length (flat_map f xs) ≡ length xs
all_0 f [] each = refl
all_0 f (x ∷ xs) each =
    let same = ap (λ bytes. length (bytes ++ flat_map f xs)) (each x) in
    let rest = all_0 f xs each in
    omega (arith, same, rest)

-- one byte a packet
pub part_is_few : (g : Geometry) (steps : StepSizes) (index : ℕ) →
    part_length g steps nothing index ≡ 14 + length (ordered_packets g index)
unfolding written_body
part_is_few g steps index =
    ap (λ n. 14 + n)
    (all_0 (written_packet g steps nothing) (ordered_packets g index) (packet_is_0 g steps))

-- the entries of a band
pub same_entries : (g : Geometry) (p : PacketId) (o : Orient) (width height : ℕ) →
    width ≡ (precinct_blocks_of g p.res o p.px p.py).x1
    - (precinct_blocks_of g p.res o p.px p.py).x0 →
    height ≡ (precinct_blocks_of g p.res o p.px p.py).y1
    - (precinct_blocks_of g p.res o p.px p.py).y0 →
    replicate (width * height) left_out.entry ≡ map (λ b. (nothing b).entry) (blocks_in g p o)
same_entries g p o width height across down =
    ap (λ n. replicate n left_out.entry)
    (turned width height ∙ sym (band_count g p o height width down across))
    ∙ sym (all_same (blocks_in g p o))
  where
    all_same : (xs : List BlockId) →
        map (λ b. (nothing b).entry) xs ≡ replicate (length xs) left_out.entry
    all_same [] = refl
    all_same (x ∷ xs) = ap (λ (es : List Entry). left_out.entry ∷ es) (all_same xs)

-- the bands of a packet at the lowest resolution, and above it
pub packet_lowest : (g : Geometry) (steps : StepSizes) (p : PacketId) → p.res ≡ 0 →
    record { bands = record { items = band_with g steps nothing p LL ∷ [] } }
    ≡ packet_with g steps nothing p
unfolding packet_with
packet_lowest g steps p lowest =
    ap (λ (os : List Orient). record {
      bands = record {
        items = map (band_with g steps nothing p) os;
      };
    }) (sym (at p.res lowest))
  where
    at : (r : ℕ) → r ≡ 0 → orients_of r ≡ LL ∷ []
    at zero is = refl
    at (suc r) is = absurd (omega (arith, is))

pub packet_above : (g : Geometry) (steps : StepSizes) (p : PacketId) → (p.res ≡ 0 → ⊥) →
    record {
      bands = record {
        items = band_with g steps nothing p HL ∷ band_with g steps nothing p LH
            ∷ band_with g steps nothing p HH ∷ [];
      };
    }
    ≡ packet_with g steps nothing p
unfolding packet_with
packet_above g steps p above =
    ap (λ (os : List Orient). record {
      bands = record {
        items = map (band_with g steps nothing p) os;
      };
    }) (sym (at p.res above))
  where
    at : (r : ℕ) → (r ≡ 0 → ⊥) → orients_of r ≡ HL ∷ LH ∷ HH ∷ []
    at zero isnt = absurd (isnt refl)
    at (suc r) isnt = refl

pub three_bands : (g : Geometry) (steps : StepSizes) (p : PacketId) (items : List PacketBand)
    (a b c : PacketBand) → items ≡ a ∷ b ∷ c ∷ [] → a ≡ band_with g steps nothing p HL →
    b ≡ band_with g steps nothing p LH → c ≡ band_with g steps nothing p HH →
    (p.res ≡ 0 → ⊥) →
    record { bands = record { items = items } } ≡ packet_with g steps nothing p
three_bands g steps p items a b c are hl lh hh above =
    let made : List PacketBand → Packet = λ xs. record { bands = record { items = xs } } in
    let first = band_with g steps nothing p HL in
    let second = band_with g steps nothing p LH in
    ap made are
    ∙ ap (λ x. made (x ∷ b ∷ c ∷ [])) hl
    ∙ ap (λ x. made (first ∷ x ∷ c ∷ [])) lh
    ∙ ap (λ x. made (first ∷ second ∷ x ∷ [])) hh
    ∙ packet_above g steps p above

pub band_made : (g : Geometry) (steps : StepSizes) (p : PacketId) (o : Orient) (range : BlockRange)
    (planes : ℕ) (items : List Entry) → range ≡ precinct_blocks_of g p.res o p.px p.py →
    planes ≡ band_planes steps p.res o →
    items ≡ replicate ((range.x1 - range.x0) * (range.y1 - range.y0)) left_out.entry →
    record {
      width = range.x1 - range.x0;
      height = range.y1 - range.y0;
      planes = planes;
      entries = record { items = items };
    }
    ≡ band_with g steps nothing p o
band_made g steps p o range planes items is planes_are are =
    let width = range.x1 - range.x0 in
    let height = range.y1 - range.y0 in
    let whole = precinct_blocks_of g p.res o p.px p.py in
    let all = map (λ b. (nothing b).entry) (blocks_in g p o) in
    let made : ℕ → ℕ → ℕ → List Entry → PacketBand = λ w h n xs. record {
      width = w;
      height = h;
      planes = n;
      entries = record { items = xs };
    } in
    let across = ap (λ (r : BlockRange). r.x1 - r.x0) is in
    let down = ap (λ (r : BlockRange). r.y1 - r.y0) is in
    ap (made width height planes) (are ∙ same_entries g p o width height across down)
    ∙ ap (λ n. made width height n all) planes_are
    ∙ ap (λ w. made w height (band_planes steps p.res o) all) across
    ∙ ap (λ h. made (whole.x1 - whole.x0) h (band_planes steps p.res o) all) down
