-- Packets of which the entry of one code-block changes.
use Rattle.std.proofs.Common.{◌≡◌, ℕ, zero, suc, ◌+◌, ◌-◌, ◌<◌, ◌≤◌, List, [], ◌++◌, length, map, get_or}
use Rattle.std.proofs.Common.{set, sym, ap, ◌∙◌, subst, arith, length-append}
use Rattle.std.specs.List.{flat_map, AllPairs, Contains}
use Rattle.std.proofs.lemmas.List.{get_or-map, get_or_default, length-map, get_or_append_left}
use Rattle.std.proofs.lemmas.List.{get_or-append-add}
use Rattle.cine_nums.specs.declared.orient.Orient.{Orient}
use Rattle.cine_nums.specs.declared.orient.Orient.TheVariants.{LL, HL, LH, HH}
use Rattle.band_geometry.specs.Bands.{HasBand, IsBlock, IsOrientAt, precinct_blocks_of}
use Rattle.band_geometry.specs.Numbering.{orients_of}
use Rattle.band_geometry.specs.declared.geometry.Geometry.{Geometry}
use Rattle.band_geometry.specs.declared.places.BlockId.{BlockId}
use Rattle.bit_stuffing.specs.Stuffing.{packed}
use Rattle.dz_quantiser.specs.Bands.{band_planes}
use Rattle.dz_quantiser.specs.declared.steps.StepSizes.{StepSizes}
use Rattle.packet_order.specs.Blocks.{blocks_in, blocks_of_packet, packet_of_block}
use Rattle.packet_order.specs.declared.packet.PacketId.{PacketId}
use Rattle.packet_order.proofs.BlockLemmas.{all_in_band, all_in_packet, has_block, packet_differs}
use Rattle.packet_headers.specs.declared.entry.Entry.{Entry}
use Rattle.packet_headers.specs.declared.packet.PacketBand.{PacketBand}
use Rattle.packet_headers.specs.Kept.{CanPut, band_at, header_length, with_entry}
use Rattle.packet_headers.specs.Kept.{band_with as band_having}
use Rattle.packet_headers.specs.Written.{CanWriteEntry, written_bits}
use Rattle.profile_reader.specs.Packets.{BlockBytes, band_with, left_out, packet_with}
use Rattle.profile_reader.specs.Packets.{written_packet}
use Rattle.frame_packets.specs.Changes.{IsChanged}
use Rattle.frame_packets.specs.Inside.{band_place, place_in, entry_at}
use Rattle.frame_packets.proofs.Lists.{map_agree, flat_agree, map_changed}
use Rattle.frame_packets.proofs.Lists.{flat_changed, stands_once, piece_within}
use Rattle.frame_packets.proofs.Places.{orient_placed, orient_within, place_of_orient, orient_at}
use Rattle.frame_packets.proofs.Places.{block_within, block_placed}

-- a packet of the frame, as far as its blocks are concerned
pub record IsAny (g : Geometry) (p : PacketId) : Type 0 where
  pub component : p.component < 3
  pub res : p.res ≤ g.levels

pub packet_is : (g : Geometry) (b : BlockId) → IsBlock g b → IsAny g (packet_of_block b)
packet_is g b is = record { component = is.component; res = is.band.res }

pub band_is : (g : Geometry) (p : PacketId) (k : ℕ) (d : Orient) → IsAny g p →
    k < length (orients_of p.res) → HasBand g p.res (get_or (orients_of p.res) k d)
band_is g p k d is below = record { res = is.res; orient = orient_at p.res k d below }

-- ---- packets of whose blocks the same is written

-- of the blocks of a packet the same is written
abbrev pub AgreeIn : Geometry → PacketId → (BlockId → BlockBytes) → (BlockId → BlockBytes) → Type 0
AgreeIn g p given changed =
    (b : BlockId) → IsBlock g b → packet_of_block b ≡ p → changed b ≡ given b

alike_band : (g : Geometry) (steps : StepSizes) (given changed : BlockId → BlockBytes)
    (p : PacketId) (o : Orient) → IsAny g p → HasBand g p.res o →
    ((b : BlockId) → IsBlock g b → packet_of_block b ≡ p → b.orient ≡ o → changed b ≡ given b) →
    band_with g steps changed p o ≡ band_with g steps given p o
alike_band g steps given changed p o any has agree =
    let range = precinct_blocks_of g p.res o p.px p.py in
    let made : List Entry → PacketBand = λ items. record {
      width = range.x1 - range.x0;
      height = range.y1 - range.y0;
      planes = band_planes steps p.res o;
      entries = record { items = items };
    } in
    ap made (map_agree (λ b. (given b).entry) (λ b. (changed b).entry) (blocks_in g p o)
    (λ k d below.
    let there = all_in_band g p o any.component has k d below in
    ap (λ w. w.entry) (agree (get_or (blocks_in g p o) k d) there.of_packet.block
    there.of_packet.packet there.orient)))

pub alike_packet : (g : Geometry) (steps : StepSizes) (given changed : BlockId → BlockBytes)
    (p : PacketId) → IsAny g p → AgreeIn g p given changed →
    packet_with g steps changed p ≡ packet_with g steps given p
unfolding packet_with
alike_packet g steps given changed p any agree =
    ap (λ (items : List PacketBand). record { bands = record { items = items } })
    (map_agree (band_with g steps given p) (band_with g steps changed p) (orients_of p.res)
    (λ k d below. alike_band g steps given changed p (get_or (orients_of p.res) k d) any
    (band_is g p k d any below) (λ b block packet orient. agree b block packet)))

pub alike_written : (g : Geometry) (steps : StepSizes) (given changed : BlockId → BlockBytes)
    (p : PacketId) → IsAny g p → AgreeIn g p given changed →
    written_packet g steps changed p ≡ written_packet g steps given p
unfolding written_packet
alike_written g steps given changed p any agree =
    let codes : flat_map (λ b. (changed b).code) (blocks_of_packet g p)
    ≡ flat_map (λ b. (given b).code) (blocks_of_packet g p) =
    flat_agree (λ b. (given b).code) (λ b. (changed b).code) (blocks_of_packet g p)
    (λ k d below.
    let there = all_in_packet g p any.component any.res k d below in
    ap (λ w. w.code) (agree (get_or (blocks_of_packet g p) k d) there.block there.packet)) in
    ap (λ q. packed (written_bits q) ++ flat_map (λ b. (changed b).code) (blocks_of_packet g p))
    (alike_packet g steps given changed p any agree)
    ∙ ap (λ bytes. packed (written_bits (packet_with g steps given p)) ++ bytes) codes

-- ---- other packets than that of the block

beside : (g : Geometry) (id : BlockId) (entry : Entry) (given changed : BlockId → BlockBytes) →
    IsChanged g id entry given changed → (p : PacketId) → (packet_of_block id ≡ p → ⊥) →
    AgreeIn g p given changed
beside g id entry given changed is p other b block packet =
    is.others b block (λ same. other (sym (ap packet_of_block same) ∙ packet))

pub same_packet : (g : Geometry) (steps : StepSizes) (id : BlockId) (entry : Entry)
    (given changed : BlockId → BlockBytes) → IsChanged g id entry given changed →
    (p : PacketId) → IsAny g p → (packet_of_block id ≡ p → ⊥) →
    packet_with g steps changed p ≡ packet_with g steps given p
same_packet g steps id entry given changed is p any other =
    alike_packet g steps given changed p any (beside g id entry given changed is p other)

pub same_written : (g : Geometry) (steps : StepSizes) (id : BlockId) (entry : Entry)
    (given changed : BlockId → BlockBytes) → IsChanged g id entry given changed →
    (p : PacketId) → IsAny g p → (packet_of_block id ≡ p → ⊥) →
    written_packet g steps changed p ≡ written_packet g steps given p
same_written g steps id entry given changed is p any other =
    alike_written g steps given changed p any (beside g id entry given changed is p other)

-- ---- the blocks of a band differ

pairs_left : {A : Type 0} (R : A → A → Type 0) (xs ys : List A) → AllPairs R (xs ++ ys) →
    AllPairs R xs
pairs_left R xs ys all i j d less below =
    let whole = length-append xs ys in
    subst (λ a. R a (get_or xs j d)) (get_or_append_left xs ys d i (omega (arith, less, below)))
    (subst (λ b. R (get_or (xs ++ ys) i d) b) (get_or_append_left xs ys d j below)
    (all i j d less (omega (arith, below, whole))))

pairs_right : {A : Type 0} (R : A → A → Type 0) (xs ys : List A) → AllPairs R (xs ++ ys) →
    AllPairs R ys
pairs_right R xs ys all i j d less below =
    let whole = length-append xs ys in
    let n = length xs in
    subst (λ a. R a (get_or ys j d)) (get_or-append-add xs ys i d)
    (subst (λ b. R (get_or (xs ++ ys) (n + i) d) b) (get_or-append-add xs ys j d)
    (all (n + i) (n + j) d (omega (arith, less)) (omega (arith, below, whole))))

piece_pairs : (R : BlockId → BlockId → Type 0) (f : Orient → List BlockId) (r : ℕ) (o : Orient) →
    IsOrientAt r o → AllPairs R (flat_map f (orients_of r)) → AllPairs R (f o)
piece_pairs R f zero LL is all = pairs_left R (f LL) [] all
piece_pairs R f zero HL is all = absurd (omega (arith, is))
piece_pairs R f zero LH is all = absurd (omega (arith, is))
piece_pairs R f zero HH is all = absurd (omega (arith, is))
piece_pairs R f (suc r) LL is all = absurd (omega (arith, is))
piece_pairs R f (suc r) HL is all = pairs_left R (f HL) (f LH ++ (f HH ++ [])) all
piece_pairs R f (suc r) LH is all =
    pairs_left R (f LH) (f HH ++ []) (pairs_right R (f HL) (f LH ++ (f HH ++ [])) all)
piece_pairs R f (suc r) HH is all =
    pairs_left R (f HH) [] (pairs_right R (f LH) (f HH ++ [])
    (pairs_right R (f HL) (f LH ++ (f HH ++ [])) all))

band_differs : (g : Geometry) (p : PacketId) (o : Orient) → IsAny g p → IsOrientAt p.res o →
    AllPairs (λ a b. a ≡ b → ⊥) (blocks_in g p o)
unfolding blocks_of_packet
band_differs g p o any is =
    piece_pairs (λ a b. a ≡ b → ⊥) (blocks_in g p) p.res o is
    (packet_differs g p any.component any.res)

-- ---- the packet of the block

pub band_at_place : (g : Geometry) (steps : StepSizes) (given : BlockId → BlockBytes) (b : BlockId)
    →
    IsBlock g b →
    band_at (packet_with g steps given (packet_of_block b)) (band_place b.orient)
    ≡ band_with g steps given (packet_of_block b) b.orient
unfolding packet_with
band_at_place g steps given b is =
    let p = packet_of_block b in
    let bands = orients_of b.res in
    let n = band_place b.orient in
    let within = orient_within b.res b.orient is.band.orient in
    get_or-map (band_with g steps given p) bands n b.orient
    (record { width = 0; height = 0; planes = 0; entries = record { items = [] } }) within
    ∙ ap (band_with g steps given p) (orient_placed b.res b.orient b.orient is.band.orient)

pub entry_at_place : (g : Geometry) (steps : StepSizes) (given : BlockId → BlockBytes)
    (b : BlockId) → IsBlock g b →
    entry_at (packet_with g steps given (packet_of_block b)) (band_place b.orient) (place_in g b)
    ≡ (given b).entry
entry_at_place g steps given b is =
    let p = packet_of_block b in
    let n = place_in g b in
    ap (λ band. get_or band.entries.items n left_out.entry) (band_at_place g steps given b is)
    ∙ get_or-map (λ c. (given c).entry) (blocks_in g p b.orient) n b left_out.entry
    (block_within g b is)
    ∙ ap (λ c. (given c).entry) (block_placed g b b is)

-- another entry of the block can be put there
pub can_put : (g : Geometry) (steps : StepSizes) (given : BlockId → BlockBytes) (b : BlockId)
    (entry : Entry) → IsBlock g b → CanWriteEntry (band_planes steps b.res b.orient) entry →
    CanPut (packet_with g steps given (packet_of_block b)) (band_place b.orient) (place_in g b)
    entry
unfolding packet_with
can_put g steps given b entry is can_write =
    let p = packet_of_block b in
    let at = band_at_place g steps given b is in
    record {
      has_band =
          let count = length-map (orients_of b.res) (band_with g steps given p) in
          let within = orient_within b.res b.orient is.band.orient in
          omega (arith, count, within);
      has_place =
          let count = length-map (blocks_in g p b.orient) (λ c. (given c).entry) in
          let same = ap (λ (band : PacketBand). length band.entries.items) at in
          let within = block_within g b is in
          omega (arith, count, same, within);
      can_write = subst (λ n. CanWriteEntry n entry) (sym (ap (λ band. band.planes) at)) can_write;
    }

changed_entries : (g : Geometry) (id : BlockId) (entry : Entry)
    (given changed : BlockId → BlockBytes) → IsBlock g id → IsChanged g id entry given changed →
    let blocks = blocks_in g (packet_of_block id) id.orient in
    map (λ b. (changed b).entry) blocks
    ≡ set (map (λ b. (given b).entry) blocks) (place_in g id) entry
changed_entries g id entry given changed block is =
    let p = packet_of_block id in
    let blocks = blocks_in g p id.orient in
    let n = place_in g id in
    map_changed (λ b. (given b).entry) (λ b. (changed b).entry) blocks n id
    (block_within g id block)
    (λ k d below other.
    let there = all_in_band g p id.orient block.component block.band k d below in
    ap (λ w. w.entry) (is.others (get_or blocks k d) there.of_packet.block
    (stands_once blocks id n (band_differs g p id.orient (packet_is g id block) block.band.orient)
    (block_within g id block)
    (λ e. block_placed g id e block) k d below other)))
    ∙ ap (λ e. set (map (λ b. (given b).entry) blocks) n e)
    (ap (λ b. (changed b).entry) (block_placed g id id block) ∙ is.here)

pub changed_packet : (g : Geometry) (steps : StepSizes) (id : BlockId) (entry : Entry)
    (given changed : BlockId → BlockBytes) → IsBlock g id → IsChanged g id entry given changed →
    packet_with g steps changed (packet_of_block id)
    ≡ with_entry (packet_with g steps given (packet_of_block id)) (band_place id.orient)
    (place_in g id) entry
unfolding packet_with
changed_packet g steps id entry given changed block is =
    let p = packet_of_block id in
    let o = id.orient in
    let bands = orients_of id.res in
    let n = band_place o in
    let within = orient_within id.res o block.band.orient in
    let range = precinct_blocks_of g p.res o p.px p.py in
    let made : List Entry → PacketBand = λ items. record {
      width = range.x1 - range.x0;
      height = range.y1 - range.y0;
      planes = band_planes steps p.res o;
      entries = record { items = items };
    } in
    let lists : map (band_with g steps changed p) bands
    ≡ set (map (band_with g steps given p) bands) n (band_with g steps changed p (get_or bands n o))
    =
    map_changed (band_with g steps given p) (band_with g steps changed p) bands n o within
    (λ k d below other.
    alike_band g steps given changed p (get_or bands k d) (packet_is g id block)
    (band_is g p k d (packet_is g id block) below) (λ b there packet orient.
    is.others b there (λ same. other (sym (place_of_orient id.res k d below)
    ∙ ap band_place (sym orient ∙ ap (λ c. c.orient) same))))) in
    let band : band_with g steps changed p (get_or bands n o)
    ≡ band_having (band_at (packet_with g steps given p) n) (place_in g id) entry =
    ap (band_with g steps changed p) (orient_placed id.res o o block.band.orient)
    ∙ ap made (changed_entries g id entry given changed block is)
    ∙ ap (λ b. band_having b (place_in g id) entry) (sym (band_at_place g steps given id block)) in
    ap (λ (items : List PacketBand). record { bands = record { items = items } })
    (lists ∙ ap (λ b. set (map (band_with g steps given p) bands) n b) band)

-- how its length changes
pub changed_written : (g : Geometry) (steps : StepSizes) (id : BlockId) (entry : Entry)
    (given changed : BlockId → BlockBytes) → IsBlock g id → IsChanged g id entry given changed →
    length (given id).code ≡ (given id).entry.len →
    let p = packet_of_block id in
    length (written_packet g steps changed p)
    + (header_length (packet_with g steps given p) + (given id).entry.len)
    ≡ length (written_packet g steps given p)
    + (header_length (packet_with g steps changed p) + entry.len)
unfolding written_packet
changed_written g steps id entry given changed block is code =
    let p = packet_of_block id in
    let blocks = blocks_of_packet g p in
    let here : Contains blocks id = has_block g id block in
    let at : (d : BlockId) → get_or blocks here.0 d ≡ id =
    λ d. get_or_default blocks here.0 d id here.1 ∙ here.2 in
    let codes = flat_changed (λ b. (given b).code) (λ b. (changed b).code) blocks here.0 id here.1
    (λ k d below other.
    let there = all_in_packet g p block.component block.band.res k d below in
    ap (λ w. w.code) (is.others (get_or blocks k d) there.block
    (stands_once blocks id here.0 (packet_differs g p block.component block.band.res) here.1 at k d
    below other))) in
    let old : length (given (get_or blocks here.0 id)).code ≡ (given id).entry.len =
    ap (λ b. length (given b).code) (at id) ∙ code in
    let new : length (changed (get_or blocks here.0 id)).code ≡ entry.len =
    ap (λ b. length (changed b).code) (at id) ∙ is.code in
    let whole_old = length-append (packed (written_bits (packet_with g steps given p)))
    (flat_map (λ b. (given b).code) blocks) in
    let whole_new = length-append (packed (written_bits (packet_with g steps changed p)))
    (flat_map (λ b. (changed b).code) blocks) in
    omega (arith, codes, old, new, whole_old, whole_new)

-- what goes away is there
pub packet_enough : (g : Geometry) (steps : StepSizes) (b : BlockId)
    (given : BlockId → BlockBytes) → IsBlock g b → length (given b).code ≡ (given b).entry.len →
    header_length (packet_with g steps given (packet_of_block b)) + (given b).entry.len
    ≤ length (written_packet g steps given (packet_of_block b))
unfolding written_packet
packet_enough g steps b given is code =
    let p = packet_of_block b in
    let blocks = blocks_of_packet g p in
    let here : Contains blocks b = has_block g b is in
    let piece = piece_within (λ c. (given c).code) blocks here.0 b here.1 in
    let at : length (given (get_or blocks here.0 b)).code ≡ (given b).entry.len =
    ap (λ c. length (given c).code) here.2 ∙ code in
    let whole = length-append (packed (written_bits (packet_with g steps given p)))
    (flat_map (λ c. (given c).code) blocks) in
    omega (arith, piece, at, whole)
