-- The bits of one band more, and of a packet without an included block.
use Rattle.std.proofs.Common.{◌≡◌, ℕ, ◌+◌, ◌<◌, false, List, [], ◌∷◌, ◌++◌, length, map, take}
use Rattle.std.proofs.Common.{get_or, refl, sym, ap, ◌∙◌, append_assoc}
use Rattle.std.proofs.lemmas.List.{append-nil, take_more, map_push}
use Rattle.bit_stuffing.specs.Bits.{value_from}
use Rattle.bit_stuffing.specs.Stuffing.{packed, packed_from}
use Rattle.packet_headers.specs.declared.packet.PacketBand.{PacketBand}
use Rattle.packet_headers.specs.declared.packet.Packet.{Packet}
use Rattle.packet_headers.specs.Words.{BandWords, blocks_bits, bands_bits}
use Rattle.packet_headers.specs.Written.{written_band, written_bits, has_any}

pub bands_bits-push : (bands : List BandWords) (band : BandWords)
    → bands_bits (bands ++ band ∷ []) ≡ bands_bits bands ++ blocks_bits band.trees [] band.blocks
unfolding bands_bits
bands_bits-push [] band = append-nil (blocks_bits band.trees [] band.blocks)
bands_bits-push (b ∷ bands) band =
    ap (λ r. blocks_bits b.trees [] b.blocks ++ r) (bands_bits-push bands band)
    ∙ sym (append_assoc (blocks_bits b.trees [] b.blocks) (bands_bits bands)
    (blocks_bits band.trees [] band.blocks))

-- the bits of the bands up to the next one
pub bands_more : (bands items : List PacketBand) (place : ℕ) (band : PacketBand) → items ≡ bands
    → place < length items → band ≡ get_or items place band
    → bands_bits (map written_band (take (place + 1) bands))
    ≡ bands_bits (map written_band (take place bands))
    ++ blocks_bits (written_band band).trees [] (written_band band).blocks
bands_more bands items place band e h b =
    let k : take (place + 1) items ≡ take place items ++ band ∷ [] = take_more items place band h
    ∙ ap (λ x. take place items ++ x ∷ []) (sym b) in
    ap (λ i. bands_bits (map written_band (take (place + 1) i))) (sym e)
    ∙ ap (λ i. bands_bits (map written_band i)) k
    ∙ ap bands_bits (map_push written_band (take place items) band)
    ∙ bands_bits-push (map written_band (take place items)) (written_band band)
    ∙ ap (λ i. bands_bits (map written_band (take place i))
    ++ blocks_bits (written_band band).trees [] (written_band band).blocks) e

pub empty_bits : (packet : Packet) → has_any packet ≡ false → written_bits packet ≡ false ∷ []
empty_bits packet e = rw e refl

-- the byte of a packet without an included block
packed_zero : packed (false ∷ []) ≡ 0 ∷ []
unfolding packed_from value_from
packed_zero = refl

pub empty_header : (packet : Packet) → has_any packet ≡ false
    → packed (written_bits packet) ≡ 0 ∷ []
empty_header packet e = ap packed (empty_bits packet e) ∙ packed_zero
