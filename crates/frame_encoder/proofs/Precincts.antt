-- A packet's precinct is one of its resolution, and its blocks stand band by band.
use Rattle.std.proofs.Common.{◌≡◌, ℕ, zero, suc, ◌+◌, ◌-◌, ◌*◌, ◌^◌, ◌<◌, ◌≤◌, List, [], ◌∷◌, ◌++◌}
use Rattle.std.proofs.Common.{refl, sym, ap, ◌∙◌, arith, append-nil}
use Rattle.std.specs.List.{flat_map}
use Rattle.std.proofs.Math.Nat.{le-div_iff_mul-le}
use Rattle.std.proofs.lemmas.Nat.{pow_pos}
use Rattle.cine_nums.specs.Division.{div_up}
use Rattle.cine_nums.specs.Coding.{precinct_side}
use Rattle.cine_nums.specs.declared.orient.Orient.{Orient}
use Rattle.cine_nums.specs.declared.orient.Orient.TheVariants.{LL, HL, LH, HH}
use Rattle.band_geometry.specs.Numbering.{orients_of}
use Rattle.band_geometry.specs.Sizes.{res_side, precinct_count}
use Rattle.band_geometry.specs.declared.geometry.Geometry.{Geometry}
use Rattle.band_geometry.specs.declared.places.BlockId.{BlockId}
use Rattle.packet_order.specs.Blocks.{blocks_in, blocks_of_packet}
use Rattle.packet_order.specs.Order.{place_of}
use Rattle.packet_order.specs.declared.packet.PacketId.{PacketId}
use Rattle.packet_order.proofs.MemberLemmas.{some_side}
use Rattle.frame_encoder.proofs.Appends.{pieces_pieces}

begun : (p n d : ℕ) → 0 < d → p * d < n → p < div_up n d
begun p n d some below =
    let whole : suc p * d ≤ n + (d - 1) = omega arith in
    (le-div_iff_mul-le {x = suc p} {y = n + (d - 1)} some).1 whole

pub within_count : (levels side r p : ℕ) → place_of levels r p < side →
    p < precinct_count levels side r
within_count levels side r p within =
    begun p (res_side levels side r) (precinct_side r) (some_side r)
    (begun (p * precinct_side r) side (2 ^ (levels - r)) (pow_pos (levels - r)) within)

orients_high : (r : ℕ) → (r ≡ 0 → ⊥) → orients_of r ≡ HL ∷ LH ∷ HH ∷ []
orients_high zero some = absurd (some refl)
orients_high (suc r) some = refl

-- the bands of the lowest resolution, and those of another
pub low_blocks : (g : Geometry) (p : PacketId) (f : BlockId → List ℕ) → p.res ≡ 0 →
    flat_map f (blocks_of_packet g p) ≡ flat_map f (blocks_in g p LL)
unfolding blocks_of_packet
low_blocks g p f low =
    sym (pieces_pieces f (blocks_in g p) (orients_of p.res))
    ∙ ap (λ (os : List Orient). flat_map (λ o. flat_map f (blocks_in g p o)) os)
    (ap orients_of low)
    ∙ append-nil (flat_map f (blocks_in g p LL))

pub high_blocks : (g : Geometry) (p : PacketId) (f : BlockId → List ℕ) → (p.res ≡ 0 → ⊥) →
    flat_map f (blocks_of_packet g p) ≡ flat_map f (blocks_in g p HL)
    ++ (flat_map f (blocks_in g p LH) ++ flat_map f (blocks_in g p HH))
unfolding blocks_of_packet
high_blocks g p f high =
    sym (pieces_pieces f (blocks_in g p) (orients_of p.res))
    ∙ ap (λ (os : List Orient). flat_map (λ o. flat_map f (blocks_in g p o)) os)
    (orients_high p.res high)
    ∙ ap (λ (bytes : List ℕ). flat_map f (blocks_in g p HL)
    ++ (flat_map f (blocks_in g p LH) ++ bytes)) (append-nil (flat_map f (blocks_in g p HH)))
