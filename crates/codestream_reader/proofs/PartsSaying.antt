-- What tile-parts that were read say of their code-blocks stays said.
use Rattle.std.proofs.Common.{◌≡◌, ℕ, suc, ◌+◌, ◌≤◌, List, [], ◌∷◌, ◌++◌, length, sym, ◌∙◌}
use Rattle.std.proofs.Common.{arith, subst, refl, get_or}
use Rattle.std.specs.List.{All, Contains}
use Rattle.std.proofs.lemmas.List.Elements.{All-head, All-tail, All-contains, Contains-get_or}
use Rattle.band_geometry.specs.Bands.{IsBlock}
use Rattle.band_geometry.specs.Numbering.{all_blocks}
use Rattle.band_geometry.specs.declared.geometry.Geometry.{Geometry}
use Rattle.band_geometry.specs.declared.places.BlockId.{BlockId}
use Rattle.packet_order.specs.Blocks.{packet_of_block}
use Rattle.packet_order.specs.Order.{IsPacketOf, ordered_packets}
use Rattle.packet_order.specs.declared.packet.PacketId.{PacketId}
use Rattle.packet_order.proofs.MemberLemmas.{ordered_are_packets}
use Rattle.profile_reader.specs.Packets.{BlockBytes}
use Rattle.profile_reader.specs.Reads.{PacketsSay, PartsSay}
use Rattle.profile_reader.specs.Words.{PacketWhole, PartWhole}
use Rattle.codestream_reader.specs.Spans.{IsPacket, said_of, span_in}
use Rattle.codestream_reader.specs.declared.span.BlockSpan.{BlockSpan}
use Rattle.codestream_reader.proofs.Heads.{of_frame}
use Rattle.codestream_reader.proofs.Saying.{says_same}

-- a packet is in one tile-part
one_part : (g : Geometry) (i j : ℕ) (p : PacketId) → Contains (ordered_packets g i) p →
    Contains (ordered_packets g j) p → i ≡ j
one_part g i j p here there =
    sym (All-contains (IsPacketOf g i) (ordered_packets g i) p (ordered_are_packets g i) here).held
    ∙ (All-contains (IsPacketOf g j) (ordered_packets g j) p (ordered_are_packets g j) there).held

-- packets none of which is among these
all_kept : (g : Geometry) (bytes : List ℕ) (old new : List BlockSpan) (ids : List PacketId)
    (ps : List PacketId) (ws : List PacketWhole) → All (IsPacket g) ps →
    All (λ q. Contains ids q → ⊥) ps → length old ≡ length (all_blocks g) →
    length new ≡ length (all_blocks g) →
    ((b : BlockId) → IsBlock g b → (Contains ids (packet_of_block b) → ⊥) →
    span_in g new b ≡ span_in g old b) →
    PacketsSay g (said_of bytes old) ps ws → PacketsSay g (said_of bytes new) ps ws
unfolding PacketsSay
all_kept g bytes old new ids [] [] are apart count also others says = tt
all_kept g bytes old new ids [] (w ∷ ws) are apart count also others says = absurd says
all_kept g bytes old new ids (q ∷ ps) [] are apart count also others says = absurd says
all_kept g bytes old new ids (q ∷ ps) (w ∷ ws) are apart count also others says = (
  says_same g bytes old new q w (All-head (IsPacket g) q ps are) count also
      (λ b there. others b there.block (λ c.
      All-head (λ r. Contains ids r → ⊥) q ps apart
      (subst (λ (r : PacketId). Contains ids r) there.packet c))) says.0,
  all_kept g bytes old new ids ps ws (All-tail (IsPacket g) q ps are)
      (All-tail (λ r. Contains ids r → ⊥) q ps apart) count also others says.1,
)

-- the tile-parts before the i-th
pub parts_kept : (g : Geometry) (bytes : List ℕ) (old new : List BlockSpan) (i index : ℕ)
    (ws : List PartWhole) → index + length ws ≤ i → length old ≡ length (all_blocks g) →
    length new ≡ length (all_blocks g) →
    ((b : BlockId) → IsBlock g b → (Contains (ordered_packets g i) (packet_of_block b) → ⊥) →
    span_in g new b ≡ span_in g old b) →
    PartsSay g (said_of bytes old) index ws → PartsSay g (said_of bytes new) index ws
unfolding PartsSay
parts_kept g bytes old new i index [] few count also others says = tt
parts_kept g bytes old new i index (w ∷ ws) few count also others says = (
  all_kept g bytes old new (ordered_packets g i) (ordered_packets g index) w.packets
      (of_frame g index (ordered_packets g index) refl) apart count also others says.0,
  parts_kept g bytes old new i (index + 1) ws (omega (arith, few)) count also others says.1,
)
  where
    apart : All (λ q. Contains (ordered_packets g i) q → ⊥) (ordered_packets g index)
    apart k d below there =
        let same = one_part g i index (get_or (ordered_packets g index) k d) there
        (Contains-get_or (ordered_packets g index) k d below) in
        omega (arith, same, few)

-- one tile-part more
pub parts_more : (g : Geometry) (blocks : List BlockBytes) (index : ℕ) (ws : List PartWhole)
    (w : PartWhole) → PartsSay g blocks index ws →
    PacketsSay g blocks (ordered_packets g (index + length ws)) w.packets →
    PartsSay g blocks index (ws ++ w ∷ [])
unfolding PartsSay
parts_more g blocks index [] w says more = (
  subst (λ n. PacketsSay g blocks (ordered_packets g n) w.packets)
      (let e : index + 0 ≡ index = omega arith in e) more,
  tt,
)
parts_more g blocks index (v ∷ ws) w says more = (
  says.0,
  parts_more g blocks (index + 1) ws w says.1
      (subst (λ n. PacketsSay g blocks (ordered_packets g n) w.packets)
      (let e : index + suc (length ws) ≡ index + 1 + length ws = omega arith in e) more),
)
