-- A packet whose blocks can be written can be written.
use Rattle.std.proofs.Common.{ℕ, zero, suc, ◌-◌, ◌<◌, [], ◌∷◌, map}
use Rattle.std.proofs.Common.{refl, ap, subst, ◌∙◌, arith}
use Rattle.std.specs.List.{All}
use Rattle.std.proofs.lemmas.List.{length-map}
use Rattle.std.proofs.lemmas.List.Elements.{All-nil, All-cons, All-map, All-weaker}
use Rattle.cine_nums.specs.declared.orient.Orient.{Orient}
use Rattle.cine_nums.specs.declared.orient.Orient.TheVariants.{LL, HL, LH, HH}
use Rattle.band_geometry.specs.Bands.{HasBand, IsOrientAt, precinct_blocks_of}
use Rattle.band_geometry.specs.Numbering.{orients_of}
use Rattle.band_geometry.specs.declared.geometry.Geometry.{Geometry}
use Rattle.band_geometry.specs.declared.places.BlockId.{BlockId}
use Rattle.dz_quantiser.specs.Bands.{band_planes}
use Rattle.dz_quantiser.specs.declared.steps.StepSizes.{StepSizes}
use Rattle.packet_order.specs.Blocks.{blocks_in, IsBlockIn}
use Rattle.packet_order.specs.Order.{IsPacketOf}
use Rattle.packet_order.specs.declared.packet.PacketId.{PacketId}
use Rattle.packet_order.proofs.BlockLemmas.{all_in_band, band_count}
use Rattle.packet_headers.specs.Written.{CanWriteEntry, CanWriteBand, CanWrite, IsPlain, ArePlain}
use Rattle.packet_headers.specs.declared.packet.PacketBand.{PacketBand}
use Rattle.profile_reader.specs.Packets.{BlockBytes, band_with, packet_with}
use Rattle.profile_reader.specs.Spelled.{IsWritable, CanSpell}
use Rattle.profile_reader.proofs.StepLemmas.{few_planes}

-- what holds of each band of a resolution holds of those of its packets
pub all_orients : (P : Orient → Type 0) (r : ℕ) → ((o : Orient) → IsOrientAt r o → P o) →
    All P (orients_of r)
all_orients P zero each = All-cons P LL [] (each LL refl) (All-nil P)
all_orients P (suc r) each =
    All-cons P HL (LH ∷ HH ∷ []) (each HL (omega arith))
    (All-cons P LH (HH ∷ []) (each LH (omega arith))
    (All-cons P HH [] (each HH (omega arith)) (All-nil P)))

-- the block of a packet's band is one of this band
writable_in : (g : Geometry) (steps : StepSizes) (given : BlockId → BlockBytes) (p : PacketId)
    (o : Orient) → CanSpell g steps given → (b : BlockId) → IsBlockIn g p o b →
    IsWritable (band_planes steps p.res o) (given b)
writable_in g steps given p o can b is =
    subst (λ r. IsWritable (band_planes steps r o) (given b))
    (ap (λ (q : PacketId). q.res) is.of_packet.packet)
    (subst (λ q. IsWritable (band_planes steps b.res q) (given b)) is.orient
    (can.writable b is.of_packet.block))

can_write_band : (g : Geometry) (steps : StepSizes) (given : BlockId → BlockBytes) (p : PacketId)
    (o : Orient) → CanSpell g steps given → p.component < 3 → HasBand g p.res o →
    CanWriteBand (band_with g steps given p o)
can_write_band g steps given p o can component has =
    let range = precinct_blocks_of g p.res o p.px p.py in
    let planes = few_planes g steps p.res o can.steps_usable has in
    record {
      width = omega arith;
      height = omega arith;
      count = length-map (blocks_in g p o) (λ b. (given b).entry)
          ∙ band_count g p o (range.y1 - range.y0) (range.x1 - range.x0) refl refl
          ∙ omega arith;
      some_planes = planes.0;
      planes = planes.1;
      entries = All-map (CanWriteEntry (band_planes steps p.res o)) (λ b. (given b).entry)
          (blocks_in g p o)
          (All-weaker (IsBlockIn g p o)
          (λ b. CanWriteEntry (band_planes steps p.res o) (given b).entry)
          (λ b is. (writable_in g steps given p o can b is).can_write) (blocks_in g p o)
          (all_in_band g p o component has));
    }

plain_band : (g : Geometry) (steps : StepSizes) (given : BlockId → BlockBytes) (p : PacketId)
    (o : Orient) → CanSpell g steps given → p.component < 3 → HasBand g p.res o →
    All IsPlain (map (λ b. (given b).entry) (blocks_in g p o))
plain_band g steps given p o can component has =
    All-map IsPlain (λ b. (given b).entry) (blocks_in g p o)
    (All-weaker (IsBlockIn g p o) (λ b. IsPlain (given b).entry)
    (λ b is. (writable_in g steps given p o can b is).plain) (blocks_in g p o)
    (all_in_band g p o component has))

-- the packet can be written, and its entries that aren't included have zeros
pub can_write : (g : Geometry) (steps : StepSizes) (given : BlockId → BlockBytes) (index : ℕ)
    (p : PacketId) → CanSpell g steps given → IsPacketOf g index p →
    CanWrite (packet_with g steps given p)
unfolding packet_with
can_write g steps given index p can is =
    All-map CanWriteBand (band_with g steps given p) (orients_of p.res)
    (all_orients (λ o. CanWriteBand (band_with g steps given p o)) p.res
    (λ o at. can_write_band g steps given p o can is.component
    (record { res = is.res; orient = at })))

pub are_plain : (g : Geometry) (steps : StepSizes) (given : BlockId → BlockBytes) (index : ℕ)
    (p : PacketId) → CanSpell g steps given → IsPacketOf g index p →
    ArePlain (packet_with g steps given p)
unfolding packet_with
are_plain g steps given index p can is =
    All-map (λ (band : PacketBand). All IsPlain band.entries.items) (band_with g steps given p)
    (orients_of p.res)
    (all_orients (λ o. All IsPlain (map (λ b. (given b).entry) (blocks_in g p o))) p.res
    (λ o at. plain_band g steps given p o can is.component
    (record { res = is.res; orient = at })))
