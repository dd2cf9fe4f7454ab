-- What is spelled of a packet: its words, and the bytes of packets and tile-parts.
use Rattle.std.proofs.Common.{◌≡◌, ℕ, zero, suc, ◌+◌, List, [], ◌∷◌, ◌++◌, map, refl, sym}
use Rattle.std.proofs.Common.{ap, ◌∙◌}
use Rattle.std.specs.List.{flat_map, range_with_len}
use Rattle.std.proofs.lemmas.Simd.{map-map}
use Rattle.std.proofs.lemmas.List.{map-append, map-id}
use Rattle.bit_stuffing.specs.Stuffing.{packed}
use Rattle.cine_nums.specs.Profile.{parts_of}
use Rattle.cine_nums.specs.declared.orient.Orient.{Orient}
use Rattle.band_geometry.specs.Numbering.{orients_of}
use Rattle.band_geometry.specs.declared.geometry.Geometry.{Geometry}
use Rattle.band_geometry.specs.declared.places.BlockId.{BlockId}
use Rattle.dz_quantiser.specs.declared.steps.StepSizes.{StepSizes}
use Rattle.packet_order.specs.Blocks.{blocks_in, blocks_of_packet}
use Rattle.packet_order.specs.Order.{ordered_packets}
use Rattle.packet_order.specs.declared.packet.PacketId.{PacketId}
use Rattle.packet_headers.specs.Words.{BlockWords}
use Rattle.packet_headers.specs.Written.{written, written_band, written_block, shape_of, shapes_of}
use Rattle.packet_headers.specs.Written.{written_bits}
use Rattle.packet_headers.specs.declared.entry.Entry.{Entry}
use Rattle.profile_reader.specs.Packets.{BlockBytes, band_with, packet_with, written_packet}
use Rattle.profile_reader.specs.Packets.{written_body}
use Rattle.profile_reader.specs.Shapes.{shapes_in}
use Rattle.profile_reader.specs.Spell.{written_part}
use Rattle.profile_reader.specs.Words.{PacketWhole, PartWhole, band_entries, entries_of}
use Rattle.profile_reader.specs.Words.{packet_bytes, part_bytes, parts_bytes}

-- the shapes of the packet are those of its precinct
pub shapes_written : (g : Geometry) (steps : StepSizes) (given : BlockId → BlockBytes)
    (p : PacketId) → shapes_of (packet_with g steps given p) ≡ shapes_in g steps p
unfolding packet_with shapes_in
shapes_written g steps given p = map-map shape_of (band_with g steps given p) (orients_of p.res)

entries_again : (es : List Entry) →
    map (λ (block : BlockWords). block.entry) (map written_block es) ≡ es
entries_again es = map-map (λ (block : BlockWords). block.entry) written_block es ∙ map-id es

bands_entries : (g : Geometry) (steps : StepSizes) (given : BlockId → BlockBytes) (p : PacketId)
    (os : List Orient) →
    flat_map band_entries (map written_band (map (band_with g steps given p) os))
    ≡ map (λ b. (given b).entry) (flat_map (blocks_in g p) os)
bands_entries g steps given p [] = refl
bands_entries g steps given p (o ∷ os) =
    ap (λ es. es ++ flat_map band_entries (map written_band (map (band_with g steps given p) os)))
    (entries_again (map (λ b. (given b).entry) (blocks_in g p o)))
    ∙ ap (λ es. map (λ b. (given b).entry) (blocks_in g p o) ++ es)
    (bands_entries g steps given p os)
    ∙ sym (map-append (λ b. (given b).entry) (blocks_in g p o) (flat_map (blocks_in g p) os))

-- its entries are those of its blocks
pub entries_written : (g : Geometry) (steps : StepSizes) (given : BlockId → BlockBytes)
    (p : PacketId) → entries_of (written (packet_with g steps given p))
    ≡ map (λ b. (given b).entry) (blocks_of_packet g p)
unfolding packet_with blocks_of_packet
entries_written g steps given p = bands_entries g steps given p (orients_of p.res)

-- the packet as it stands
abbrev pub whole : Geometry → StepSizes → (BlockId → BlockBytes) → PacketId → PacketWhole
whole g steps given p = record {
  words = written (packet_with g steps given p);
  head = packed (written_bits (packet_with g steps given p));
  codes = map (λ b. (given b).code) (blocks_of_packet g p);
}

flat_mapped : {A : Type 0} (f : A → List ℕ) (xs : List A) →
    flat_map (λ c. c) (map f xs) ≡ flat_map f xs
flat_mapped f [] = refl
flat_mapped f (x ∷ xs) = ap (λ t. f x ++ t) (flat_mapped f xs)

whole_bytes : (g : Geometry) (steps : StepSizes) (given : BlockId → BlockBytes) (p : PacketId) →
    packet_bytes (whole g steps given p) ≡ written_packet g steps given p
unfolding written_packet
whole_bytes g steps given p =
    ap (λ t. packed (written_bits (packet_with g steps given p)) ++ t)
    (flat_mapped (λ b. (given b).code) (blocks_of_packet g p))

pub wholes_bytes : (g : Geometry) (steps : StepSizes) (given : BlockId → BlockBytes)
    (ps : List PacketId) →
    flat_map packet_bytes (map (whole g steps given) ps)
    ≡ flat_map (written_packet g steps given) ps
wholes_bytes g steps given [] = refl
wholes_bytes g steps given (p ∷ ps) =
    ap (λ t. t ++ flat_map packet_bytes (map (whole g steps given) ps))
    (whole_bytes g steps given p)
    ∙ ap (λ t. written_packet g steps given p ++ t) (wholes_bytes g steps given ps)

-- the tile-part as it stands
abbrev pub whole_part : Geometry → StepSizes → (BlockId → BlockBytes) → ℕ → PartWhole
whole_part g steps given index = record {
  segments = [];
  tnsot = parts_of g.profile;
  packets = map (whole g steps given) (ordered_packets g index);
}

part_written : (g : Geometry) (steps : StepSizes) (given : BlockId → BlockBytes) (index : ℕ) →
    part_bytes index (whole_part g steps given index) ≡ written_part g steps given index
unfolding written_body
part_written g steps given index = rw (wholes_bytes g steps given (ordered_packets g index)) refl

-- the bytes of tile-parts
pub parts_written : (g : Geometry) (steps : StepSizes) (given : BlockId → BlockBytes)
    (n index : ℕ) →
    parts_bytes index (map (whole_part g steps given) (range_with_len index n))
    ≡ flat_map (written_part g steps given) (range_with_len index n)
unfolding parts_bytes
parts_written g steps given zero index = refl
parts_written g steps given (suc n) index =
    ap (λ t. t
    ++ parts_bytes (index + 1) (map (whole_part g steps given) (range_with_len (index + 1) n)))
    (part_written g steps given index)
    ∙ ap (λ t. written_part g steps given index ++ t) (parts_written g steps given n (index + 1))
