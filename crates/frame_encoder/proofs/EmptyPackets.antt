-- The packets of a tile-part in which no code-block is included.
use Rattle.std.proofs.Common.{◌≡◌, ◌||◌, ℕ, Bool, false, List, [], ◌∷◌, ◌++◌, length, map}
use Rattle.std.proofs.Common.{replicate, refl, ◌∙◌, ap}
use Rattle.std.specs.List.{flat_map, list_any}
use Rattle.cine_nums.specs.declared.orient.Orient.{Orient}
use Rattle.band_geometry.specs.Numbering.{orients_of}
use Rattle.band_geometry.specs.declared.geometry.Geometry.{Geometry}
use Rattle.band_geometry.specs.declared.places.BlockId.{BlockId}
use Rattle.dz_quantiser.specs.declared.steps.StepSizes.{StepSizes}
use Rattle.packet_order.specs.Blocks.{blocks_in, blocks_of_packet}
use Rattle.packet_order.specs.Order.{ordered_packets}
use Rattle.packet_order.specs.declared.packet.PacketId.{PacketId}
use Rattle.packet_headers.specs.declared.entry.Entry.{Entry}
use Rattle.packet_headers.specs.declared.packet.Packet.{Packet}
use Rattle.packet_headers.specs.Written.{band_has_any, has_any, written_bits}
use Rattle.bit_stuffing.specs.Bits.{value_from}
use Rattle.bit_stuffing.specs.Stuffing.{packed, packed_from}
use Rattle.profile_reader.specs.Packets.{band_with, packet_with, written_packet, written_body}
use Rattle.frame_packets.specs.Keeps.{nothing}

none_included : (blocks : List BlockId) →
    list_any (λ (entry : Entry). entry.included) (map (λ b. (nothing b).entry) blocks) ≡ false
none_included [] = refl
none_included (b ∷ blocks) = none_included blocks

both_false : (a b : Bool) → a ≡ false → b ≡ false → (a || b) ≡ false
both_false a b p q = ap (λ x. x || b) p ∙ q

no_band : (g : Geometry) (steps : StepSizes) (p : PacketId) (orients : List Orient) →
    list_any band_has_any (map (band_with g steps nothing p) orients) ≡ false
no_band g steps p [] = refl
no_band g steps p (o ∷ orients) =
    both_false (band_has_any (band_with g steps nothing p o))
    (list_any band_has_any (map (band_with g steps nothing p) orients))
    (none_included (blocks_in g p o)) (no_band g steps p orients)

has_nothing : (g : Geometry) (steps : StepSizes) (p : PacketId) →
    has_any (packet_with g steps nothing p) ≡ false
unfolding packet_with
has_nothing g steps p = no_band g steps p (orients_of p.res)

-- a packet without blocks has one bit
one_bit : (packet : Packet) → has_any packet ≡ false → written_bits packet ≡ false ∷ []
one_bit packet none = rw none refl

-- which is one byte
one_byte : packed (false ∷ []) ≡ 0 ∷ []
unfolding packed_from value_from
one_byte = refl

no_codes : (blocks : List BlockId) → flat_map (λ b. (nothing b).code) blocks ≡ []
no_codes [] = refl
no_codes (b ∷ blocks) = no_codes blocks

packet_is_0 : (g : Geometry) (steps : StepSizes) (p : PacketId) →
    written_packet g steps nothing p ≡ 0 ∷ []
unfolding written_packet
packet_is_0 g steps p =
    ap (λ bits. packed bits ++ flat_map (λ b. (nothing b).code) (blocks_of_packet g p))
    (one_bit (packet_with g steps nothing p) (has_nothing g steps p))
    ∙ ap (λ bytes. bytes ++ flat_map (λ b. (nothing b).code) (blocks_of_packet g p)) one_byte
    ∙ ap (λ bytes. (0 ∷ []) ++ bytes) (no_codes (blocks_of_packet g p))

all_0 : {A : Type 0} (f : A → List ℕ) (xs : List A) → ((x : A) → f x ≡ 0 ∷ []) →
    flat_map f xs ≡ replicate (length xs) 0
all_0 f [] each = refl
all_0 f (x ∷ xs) each = ap (λ bytes. bytes ++ flat_map f xs) (each x)
    ∙ ap (λ bytes. (0 ∷ []) ++ bytes) (all_0 f xs each)

-- one byte 0 a packet
pub body_is_0 : (g : Geometry) (steps : StepSizes) (index : ℕ) →
    written_body g steps nothing index ≡ replicate (length (ordered_packets g index)) 0
unfolding written_body
body_is_0 g steps index = all_0 (written_packet g steps nothing) (ordered_packets g index)
    (packet_is_0 g steps)
