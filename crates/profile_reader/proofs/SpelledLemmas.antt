-- What is spelled is read: words, sizes and bytes fit, and they say what was given.
use Rattle.std.proofs.Common.{◌≡◌, ℕ, zero, suc, ◌+◌, List, [], ◌∷◌}
use Rattle.std.proofs.Common.{map, length, get_or, refl, sym, ap, subst, ◌∙◌, inl}
use Rattle.std.proofs.Common.{option_map}
use Rattle.std.specs.List.{All, range_with_len}
use Rattle.std.proofs.lemmas.List.Elements.{All-nil, All-head, All-tail, All-weaker}
use Rattle.std.proofs.lemmas.Option.{slice_get-map, get_or_from_slice_get}
use Rattle.cine_nums.specs.Profile.{parts_of}
use Rattle.band_geometry.specs.Bands.{IsBlock}
use Rattle.band_geometry.specs.Counts.{number_of}
use Rattle.band_geometry.specs.Numbering.{all_blocks}
use Rattle.band_geometry.specs.declared.geometry.Geometry.{Geometry}
use Rattle.band_geometry.specs.declared.places.BlockId.{BlockId}
use Rattle.band_geometry.proofs.NumberLemmas.{listed_at_number}
use Rattle.bit_stuffing.proofs.StuffsLemmas.{stuffs_packed}
use Rattle.dz_quantiser.specs.declared.steps.StepSizes.{StepSizes}
use Rattle.packet_order.specs.Blocks.{blocks_of_packet, IsBlockOf}
use Rattle.packet_order.specs.Order.{IsPacketOf, ordered_packets}
use Rattle.packet_order.specs.declared.packet.PacketId.{PacketId}
use Rattle.packet_order.proofs.BlockLemmas.{all_in_packet}
use Rattle.packet_order.proofs.MemberLemmas.{ordered_are_packets}
use Rattle.packet_headers.specs.Grammar.{WordsFit}
use Rattle.packet_headers.specs.Written.{written, written_bits}
use Rattle.packet_headers.proofs.FitsLemmas.{words_fit}
use Rattle.packet_headers.specs.declared.entry.Entry.{Entry}
use Rattle.profile_reader.specs.Packets.{BlockBytes, left_out, packet_with, written_body}
use Rattle.profile_reader.specs.Shapes.{shapes_in}
use Rattle.profile_reader.specs.Spell.{part_length}
use Rattle.profile_reader.specs.Words.{PacketFits, PacketsFit}
use Rattle.profile_reader.specs.Words.{PartsFit}
use Rattle.profile_reader.specs.Reads.{block_in, PacketSays, PacketsSay, PartsSay}
use Rattle.profile_reader.specs.Spelled.{CanSpell}
use Rattle.profile_reader.proofs.PacketLemmas.{shapes_written, entries_written, whole}
use Rattle.profile_reader.proofs.PacketLemmas.{wholes_bytes, whole_part}
use Rattle.profile_reader.proofs.BandLemmas.{can_write, are_plain}

-- two functions that agree on each element of a list map it to the same
pub map_same : {A B : Type 0} (P : A → Type 0) (f h : A → B) → ((a : A) → P a → f a ≡ h a) →
    (xs : List A) → All P xs → map f xs ≡ map h xs
map_same P f h same [] all = refl
map_same P f h same (x ∷ xs) all =
    ap (λ b. b ∷ map f xs) (same x (All-head P x xs all))
    ∙ ap (λ bs. h x ∷ bs) (map_same P f h same xs (All-tail P x xs all))

blocks_are : (g : Geometry) (index : ℕ) (p : PacketId) → IsPacketOf g index p →
    All (IsBlock g) (blocks_of_packet g p)
blocks_are g index p is =
    All-weaker (IsBlockOf g p) (IsBlock g) (λ b of_packet. of_packet.block) (blocks_of_packet g p)
    (all_in_packet g p is.component is.res)

packet_fits : (g : Geometry) (steps : StepSizes) (given : BlockId → BlockBytes)
    (index : ℕ) (p : PacketId) → CanSpell g steps given → IsPacketOf g index p →
    PacketFits (shapes_in g steps p) (whole g steps given p)
packet_fits g steps given index p can is = record {
  words = subst (λ shapes. WordsFit shapes (written (packet_with g steps given p)))
      (shapes_written g steps given p)
      (words_fit (packet_with g steps given p) (can_write g steps given index p can is)
      (are_plain g steps given index p can is));
  head = stuffs_packed (written_bits (packet_with g steps given p));
  codes = codes_fit (blocks_of_packet g p) (blocks_are g index p is)
      ∙ ap (map (λ (e : Entry). e.len)) (sym (entries_written g steps given p));
}
  where
    codes_fit : (bs : List BlockId) → All (IsBlock g) bs →
        map length (map (λ b. (given b).code) bs)
        ≡ map (λ (e : Entry). e.len) (map (λ b. (given b).entry) bs)
    codes_fit [] all = refl
    codes_fit (b ∷ bs) all =
        ap (λ n. n ∷ map length (map (λ b. (given b).code) bs))
        (can.writable b (All-head (IsBlock g) b bs all)).len
        ∙ ap (λ ns. (given b).entry.len ∷ ns) (codes_fit bs (All-tail (IsBlock g) b bs all))

packets_fit : (g : Geometry) (steps : StepSizes) (given : BlockId → BlockBytes)
    (index : ℕ) → CanSpell g steps given → (ps : List PacketId) → All (IsPacketOf g index) ps →
    PacketsFit g steps ps (map (whole g steps given) ps)
unfolding PacketsFit
packets_fit g steps given index can [] all = tt
packets_fit g steps given index can (p ∷ ps) all = (
  packet_fits g steps given index p can (All-head (IsPacketOf g index) p ps all),
  packets_fit g steps given index can ps
      (All-tail (IsPacketOf g index) p ps all),
)

pub parts_fit : (g : Geometry) (steps : StepSizes)
    (given : BlockId → BlockBytes) → CanSpell g steps given → (n index : ℕ) →
    PartsFit g steps index (parts_of g.profile)
    (map (part_length g steps given) (range_with_len index n))
    (map (whole_part g steps given) (range_with_len index n))
unfolding PartsFit written_body
parts_fit g steps given can zero index = tt
parts_fit g steps given can (suc n) index = (
  record {
    segments = All-nil _;
    count_is = inl refl;
    size_is = ap (λ (bs : List ℕ). 14 + length bs)
        (wholes_bytes g steps given (ordered_packets g index));
    packets = packets_fit g steps given index can (ordered_packets g index)
        (ordered_are_packets g index);
  },
  parts_fit g steps given can n (index + 1),
)

-- what is listed by block number is found by it
pub found_again : {A : Type 0} (g : Geometry) (f : BlockId → A) (d : A) (b : BlockId) → IsBlock g b
    →
    get_or (map f (all_blocks g)) (number_of g b) d ≡ f b
found_again g f d b is =
    get_or_from_slice_get (map f (all_blocks g)) (number_of g b) (f b) d
    (slice_get-map f (all_blocks g) (number_of g b) ∙ ap (option_map f) (listed_at_number g b is))

packet_says : (g : Geometry) (steps : StepSizes) (given : BlockId → BlockBytes) (index : ℕ)
    (p : PacketId) → IsPacketOf g index p →
    PacketSays g (map given (all_blocks g)) p (whole g steps given p)
packet_says g steps given index p is = record {
  entries = entries_written g steps given p
      ∙ map_same (IsBlock g) (λ b. (given b).entry)
      (λ b. (block_in g (map given (all_blocks g)) b).entry)
      (λ b there. ap (λ (w : BlockBytes). w.entry) (sym (found_again g given left_out b there)))
      (blocks_of_packet g p) (blocks_are g index p is);
  codes = map_same (IsBlock g) (λ b. (given b).code)
      (λ b. (block_in g (map given (all_blocks g)) b).code)
      (λ b there. ap (λ (w : BlockBytes). w.code) (sym (found_again g given left_out b there)))
      (blocks_of_packet g p) (blocks_are g index p is);
}

packets_say : (g : Geometry) (steps : StepSizes) (given : BlockId → BlockBytes) (index : ℕ)
    (ps : List PacketId) → All (IsPacketOf g index) ps →
    PacketsSay g (map given (all_blocks g)) ps (map (whole g steps given) ps)
unfolding PacketsSay
packets_say g steps given index [] all = tt
packets_say g steps given index (p ∷ ps) all = (
  packet_says g steps given index p (All-head (IsPacketOf g index) p ps all),
  packets_say g steps given index ps (All-tail (IsPacketOf g index) p ps all),
)

pub parts_say : (g : Geometry) (steps : StepSizes) (given : BlockId → BlockBytes) (n index : ℕ) →
    PartsSay g (map given (all_blocks g)) index
    (map (whole_part g steps given) (range_with_len index n))
unfolding PartsSay
parts_say g steps given zero index = tt
parts_say g steps given (suc n) index = (
  packets_say g steps given index (ordered_packets g index) (ordered_are_packets g index),
  parts_say g steps given n (index + 1),
)
