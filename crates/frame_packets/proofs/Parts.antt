-- Tile-parts of which the entry of one code-block changes.
use Rattle.std.proofs.Common.{◌≡◌, ℕ, ◌+◌, ◌<◌, ◌≤◌, ◌==◌, true, false, not, nat_lt}
use Rattle.std.proofs.Common.{if◌then◌else◌, List, [], length, map, get_or, set, refl, sym, ap, ◌∙◌}
use Rattle.std.proofs.Common.{arith, eq-eqb}
use Rattle.std.specs.List.{AllPairs}
use Rattle.std.proofs.lemmas.List.{get_or-map}
use Rattle.band_geometry.specs.Bands.{IsBlock}
use Rattle.band_geometry.specs.TileParts.{part_of_res}
use Rattle.band_geometry.specs.declared.geometry.Geometry.{Geometry}
use Rattle.band_geometry.specs.declared.places.BlockId.{BlockId}
use Rattle.dz_quantiser.specs.declared.steps.StepSizes.{StepSizes}
use Rattle.packet_order.specs.Blocks.{packet_of_block}
use Rattle.packet_order.specs.Order.{comes_before, ordered_packets, place_of}
use Rattle.packet_order.specs.declared.packet.PacketId.{PacketId}
use Rattle.packet_order.proofs.MemberLemmas.{ordered_are_packets}
use Rattle.packet_order.proofs.StrictLemmas.{packets_strict}
use Rattle.packet_headers.specs.declared.entry.Entry.{Entry}
use Rattle.packet_headers.specs.declared.packet.Packet.{Packet}
use Rattle.packet_headers.specs.Kept.{header_length, with_entry}
use Rattle.profile_reader.specs.Packets.{BlockBytes, packet_with, written_body, written_packet}
use Rattle.profile_reader.specs.Spell.{part_length}
use Rattle.frame_packets.specs.Changes.{IsChanged}
use Rattle.frame_packets.specs.Inside.{IsChange, IsSpot, band_place, entry_at, packet_at, place_in}
use Rattle.frame_packets.specs.Keeps.{KeepsPart, PartKept}
use Rattle.frame_packets.specs.declared.part.Change.{Change}
use Rattle.frame_packets.specs.declared.spot.Spot.{Spot}
use Rattle.frame_packets.proofs.Lists.{map_agree, flat_agree, map_changed}
use Rattle.frame_packets.proofs.Lists.{flat_changed, stands_once, piece_within}
use Rattle.frame_packets.proofs.Packets.{IsAny, same_packet, same_written, changed_packet}
use Rattle.frame_packets.proofs.Packets.{changed_written, entry_at_place, packet_enough}

-- ---- the packets of a tile-part

lt_itself : (n : ℕ) → nat_lt n n ≡ false
lt_itself n = grind arith

-- none comes before itself
itself : (x y r : ℕ) →
    (if not (y == y) then nat_lt y y else if not (x == x) then nat_lt x x else nat_lt r r) ≡ false
itself x y r = rw (eq-eqb y y refl, eq-eqb x x refl) (lt_itself r)

never : (g : Geometry) (a : PacketId) → comes_before g a a ≡ false
never g a = itself (place_of g.levels a.res a.px) (place_of g.levels a.res a.py) a.res

pub ordered_differ : (g : Geometry) (part : ℕ) →
    AllPairs (λ a b. a ≡ b → ⊥) (ordered_packets g part)
ordered_differ g part i j d less below same =
    let xs = ordered_packets g part in
    let before : comes_before g (get_or xs i d) (get_or xs j d) ≡ true =
    packets_strict g part i j d less below in
    let self : comes_before g (get_or xs i d) (get_or xs i d) ≡ true =
    ap (λ b. comes_before g (get_or xs i d) b) same ∙ before in
    let other = never g (get_or xs i d) in
    absurd cc

any_at : (g : Geometry) (part k : ℕ) (d : PacketId) → k < length (ordered_packets g part) →
    IsAny g (get_or (ordered_packets g part) k d)
any_at g part k d below =
    let is = ordered_are_packets g part k d below in
    record { component = is.component; res = is.res }

-- ---- the tile-part of the block

pub packet_is_at : (g : Geometry) (steps : StepSizes) (given : BlockId → BlockBytes) (b : BlockId)
    (spot : Spot) (part : PartKept) → KeepsPart g steps given spot.part part → IsSpot g b spot →
    packet_at part spot.at ≡ packet_with g steps given (packet_of_block b)
packet_is_at g steps given b spot part keeps is =
    let ids = ordered_packets g spot.part in
    let none : Packet = record { bands = record { items = [] } } in
    ap (λ packets. get_or packets spot.at none) keeps.packets
    ∙ get_or-map (packet_with g steps given) ids spot.at (packet_of_block b) none is.within
    ∙ ap (packet_with g steps given) (is.at (packet_of_block b))

-- the other packets of the tile-part
others_differ : (g : Geometry) (b : BlockId) (spot : Spot) → IsSpot g b spot →
    (k : ℕ) (d : PacketId) → k < length (ordered_packets g spot.part) → (k ≡ spot.at → ⊥) →
    packet_of_block b ≡ get_or (ordered_packets g spot.part) k d → ⊥
others_differ g b spot is k d below other same =
    stands_once (ordered_packets g spot.part) (packet_of_block b) spot.at
    (ordered_differ g spot.part) is.within is.at k d below other (sym same)

part_packets : (g : Geometry) (steps : StepSizes) (id : BlockId) (entry : Entry)
    (given changed : BlockId → BlockBytes) (spot : Spot) → IsBlock g id →
    IsChanged g id entry given changed → IsSpot g id spot →
    map (packet_with g steps changed) (ordered_packets g spot.part)
    ≡ set (map (packet_with g steps given) (ordered_packets g spot.part)) spot.at
    (with_entry (packet_with g steps given (packet_of_block id)) (band_place id.orient)
    (place_in g id) entry)
part_packets g steps id entry given changed spot block is at =
    let ids = ordered_packets g spot.part in
    let p = packet_of_block id in
    map_changed (packet_with g steps given) (packet_with g steps changed) ids spot.at p at.within
    (λ k d below other. same_packet g steps id entry given changed is (get_or ids k d)
    (any_at g spot.part k d below) (others_differ g id spot at k d below other))
    ∙ ap (λ q. set (map (packet_with g steps given) ids) spot.at q)
    (ap (packet_with g steps changed) (at.at p)
    ∙ changed_packet g steps id entry given changed block is)

part_bytes : (g : Geometry) (steps : StepSizes) (id : BlockId) (entry : Entry)
    (given changed : BlockId → BlockBytes) (spot : Spot) → IsBlock g id →
    IsChanged g id entry given changed → IsSpot g id spot →
    length (given id).code ≡ (given id).entry.len →
    part_length g steps changed spot.part
    + (header_length (packet_with g steps given (packet_of_block id)) + (given id).entry.len)
    ≡ part_length g steps given spot.part
    + (header_length (packet_with g steps changed (packet_of_block id)) + entry.len)
unfolding written_body
part_bytes g steps id entry given changed spot block is at code =
    let ids = ordered_packets g spot.part in
    let p = packet_of_block id in
    let whole = flat_changed (written_packet g steps given) (written_packet g steps changed) ids
    spot.at p at.within
    (λ k d below other. same_written g steps id entry given changed is (get_or ids k d)
    (any_at g spot.part k d below) (others_differ g id spot at k d below other)) in
    let old = ap (λ q. length (written_packet g steps given q)) (at.at p) in
    let new = ap (λ q. length (written_packet g steps changed q)) (at.at p) in
    let packet = changed_written g steps id entry given changed block is code in
    omega (arith, whole, old, new, packet)

-- what goes away is there
pub part_enough : (g : Geometry) (steps : StepSizes) (b : BlockId) (given : BlockId → BlockBytes)
    (spot : Spot) → IsBlock g b → IsSpot g b spot → length (given b).code ≡ (given b).entry.len →
    header_length (packet_with g steps given (packet_of_block b)) + (given b).entry.len
    ≤ part_length g steps given spot.part
unfolding written_body
part_enough g steps b given spot block at code =
    let ids = ordered_packets g spot.part in
    let p = packet_of_block b in
    let piece = piece_within (written_packet g steps given) ids spot.at p at.within in
    let same = ap (λ q. length (written_packet g steps given q)) (at.at p) in
    let packet = packet_enough g steps b given block code in
    omega (arith, piece, same, packet)

-- the tile-part with the new entry
abbrev pub part_after : PartKept → Spot → Entry → Change → PartKept
part_after part spot entry change = record {
  ids = part.ids;
  packets = set part.packets spot.at
      (with_entry (packet_at part spot.at) spot.band spot.place entry);
  bytes = change.bytes;
}

pub entry_put : (g : Geometry) (steps : StepSizes) (given : BlockId → BlockBytes) (id : BlockId)
    (entry : Entry) (spot : Spot) (part : PartKept) → KeepsPart g steps given spot.part part →
    IsSpot g id spot →
    with_entry (packet_at part spot.at) spot.band spot.place entry
    ≡ with_entry (packet_with g steps given (packet_of_block id)) (band_place id.orient)
    (place_in g id) entry
entry_put g steps given id entry spot part keeps at =
    ap (λ q. with_entry q spot.band spot.place entry)
    (packet_is_at g steps given id spot part keeps at)
    ∙ ap (λ n. with_entry (packet_with g steps given (packet_of_block id)) n spot.place entry)
    at.band
    ∙ ap (λ n. with_entry (packet_with g steps given (packet_of_block id)) (band_place id.orient) n
    entry) at.place

pub entry_was : (g : Geometry) (steps : StepSizes) (given : BlockId → BlockBytes) (id : BlockId)
    (spot : Spot) (part : PartKept) → KeepsPart g steps given spot.part part → IsBlock g id →
    IsSpot g id spot →
    entry_at (packet_at part spot.at) spot.band spot.place ≡ (given id).entry
entry_was g steps given id spot part keeps block at =
    ap (λ q. entry_at q spot.band spot.place) (packet_is_at g steps given id spot part keeps at)
    ∙ ap (λ n. entry_at (packet_with g steps given (packet_of_block id)) n spot.place) at.band
    ∙ ap (λ n. entry_at (packet_with g steps given (packet_of_block id)) (band_place id.orient) n)
    at.place
    ∙ entry_at_place g steps given id block

pub bytes_after : (g : Geometry) (steps : StepSizes) (id : BlockId) (entry : Entry)
    (given changed : BlockId → BlockBytes) (spot : Spot) (part : PartKept) (change : Change) →
    IsBlock g id → IsChanged g id entry given changed → IsSpot g id spot →
    length (given id).code ≡ (given id).entry.len → KeepsPart g steps given spot.part part →
    IsChange part spot.at spot.band spot.place entry change →
    change.bytes ≡ part_length g steps changed spot.part
bytes_after g steps id entry given changed spot part change block is at code keeps made =
    let all = part_bytes g steps id entry given changed spot block is at code in
    let header = ap header_length (entry_put g steps given id entry spot part keeps at
    ∙ sym (changed_packet g steps id entry given changed block is)) in
    let old = ap header_length (packet_is_at g steps given id spot part keeps at) in
    let was = ap (λ (e : Entry). e.len)
    (entry_was g steps given id spot part keeps block at) in
    sums change.bytes (header_length (packet_at part spot.at))
    (entry_at (packet_at part spot.at) spot.band spot.place).len part.bytes change.header entry.len
    (header_length (with_entry (packet_at part spot.at) spot.band spot.place entry))
    (part_length g steps changed spot.part)
    (header_length (packet_with g steps given (packet_of_block id))) (given id).entry.len
    (part_length g steps given spot.part)
    (header_length (packet_with g steps changed (packet_of_block id)))
    made.bytes all made.header header old was keeps.bytes
  where
    sums : (b h l w n e m c i k v u : ℕ) → b + (h + l) ≡ w + (n + e) → c + (i + k) ≡ v + (u + e) →
        n ≡ m → m ≡ u → h ≡ i → l ≡ k → w ≡ v → b ≡ c
    sums b h l w n e m c i k v u x y n_is m_is h_is l_is w_is = omega arith

pub keeps_changed : (g : Geometry) (steps : StepSizes) (id : BlockId) (entry : Entry)
    (given changed : BlockId → BlockBytes) (spot : Spot) (part : PartKept) (change : Change) →
    IsBlock g id → IsChanged g id entry given changed → IsSpot g id spot →
    length (given id).code ≡ (given id).entry.len → KeepsPart g steps given spot.part part →
    IsChange part spot.at spot.band spot.place entry change →
    KeepsPart g steps changed spot.part (part_after part spot entry change)
keeps_changed g steps id entry given changed spot part change block is at code keeps made =
    record {
      ids = keeps.ids;
      packets =
          ap (λ packets. set packets spot.at
          (with_entry (packet_at part spot.at) spot.band spot.place entry)) keeps.packets
          ∙ ap (λ q. set (map (packet_with g steps given) (ordered_packets g spot.part)) spot.at q)
          (entry_put g steps given id entry spot part keeps at)
          ∙ sym (part_packets g steps id entry given changed spot block is at);
      bytes = bytes_after g steps id entry given changed spot part change block is at code keeps
          made;
    }

-- ---- another tile-part

pub keeps_other : (g : Geometry) (steps : StepSizes) (id : BlockId) (entry : Entry)
    (given changed : BlockId → BlockBytes) (index : ℕ) (part : PartKept) →
    IsChanged g id entry given changed →
    (part_of_res g.profile g.levels id.component id.res ≡ index → ⊥) →
    KeepsPart g steps given index part → KeepsPart g steps changed index part
unfolding written_body
keeps_other g steps id entry given changed index part is other keeps =
    let ids = ordered_packets g index in
    let differ : (k : ℕ) (d : PacketId) → k < length ids → packet_of_block id ≡ get_or ids k d → ⊥ =
    λ k d below same. other (ap (λ p. part_of_res g.profile g.levels p.component p.res) same
    ∙ (ordered_are_packets g index k d below).held) in
    record {
      ids = keeps.ids;
      packets = keeps.packets ∙ sym (map_agree (packet_with g steps given)
          (packet_with g steps changed) ids (λ k d below.
          same_packet g steps id entry given changed is (get_or ids k d) (any_at g index k d below)
          (differ k d below)));
      bytes = keeps.bytes ∙ sym (ap (λ (bytes : List ℕ). 14 + length bytes)
          (flat_agree (written_packet g steps given) (written_packet g steps changed) ids
          (λ k d below. same_written g steps id entry given changed is (get_or ids k d)
          (any_at g index k d below) (differ k d below))));
    }
