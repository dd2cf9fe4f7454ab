-- What the spans of a packet's code-blocks say is what the packet says.
use Rattle.std.proofs.Common.{◌≡◌, ℕ, ◌<◌, List, [], ◌∷◌, length, map, get_or}
use Rattle.std.proofs.Common.{ap, sym, ◌∙◌, arith, Some, subst}
use Rattle.std.specs.List.{All, AllPairs, Contains}
use Rattle.std.specs.Prelude.{slice_get}
use Rattle.std.proofs.lemmas.List.{get_or-map, length-map}
use Rattle.std.proofs.lemmas.List.Elements.{All-map, All-weaker, All-head, All-tail}
use Rattle.std.proofs.lemmas.Option.{slice_get_within}
use Rattle.cine_nums.specs.declared.orient.Orient.TheVariants.{LL}
use Rattle.std.proofs.lemmas.Simd.{map-map}
use Rattle.band_geometry.specs.Bands.{IsBlock}
use Rattle.band_geometry.specs.Counts.{number_of}
use Rattle.band_geometry.specs.Numbering.{all_blocks}
use Rattle.band_geometry.specs.declared.geometry.Geometry.{Geometry}
use Rattle.band_geometry.specs.declared.places.BlockId.{BlockId}
use Rattle.band_geometry.proofs.NumberLemmas.{listed_at_number}
use Rattle.packet_order.specs.Blocks.{blocks_of_packet, packet_of_block, IsBlockOf}
use Rattle.packet_order.specs.declared.packet.PacketId.{PacketId}
use Rattle.packet_order.proofs.BlockLemmas.{all_in_packet, packet_differs}
use Rattle.profile_reader.specs.Packets.{BlockBytes, left_out}
use Rattle.profile_reader.specs.Reads.{block_in, PacketSays, PacketsSay}
use Rattle.profile_reader.specs.Words.{PacketWhole, entries_of}
use Rattle.profile_reader.proofs.SpelledLemmas.{map_same}
use Rattle.codestream_reader.specs.Spans.{IsPacket, no_span, said, said_of, span_in, spans_from}
use Rattle.codestream_reader.specs.declared.span.BlockSpan.{BlockSpan}
use Rattle.codestream_reader.proofs.Codes.{codes_at, codes_said, entries_said, lengths_of}

-- blocks of a packet, and their numbers

pub blocks_are : (g : Geometry) (p : PacketId) → IsPacket g p →
    All (IsBlock g) (blocks_of_packet g p)
blocks_are g p is =
    All-weaker (IsBlockOf g p) (IsBlock g) (λ b of_packet. of_packet.block) (blocks_of_packet g p)
    (all_in_packet g p is.component is.res)

pub number_within : (g : Geometry) (b : BlockId) → IsBlock g b →
    number_of g b < length (all_blocks g)
number_within g b is =
    slice_get_within (all_blocks g) (number_of g b) b (listed_at_number g b is)

pub same_number : (g : Geometry) (a b : BlockId) → IsBlock g a → IsBlock g b →
    number_of g a ≡ number_of g b → a ≡ b
same_number g a b is also same =
    some_once (sym (listed_at_number g a is) ∙ ap (slice_get (all_blocks g)) same
    ∙ listed_at_number g b also)
  where
    some_once : Some a ≡ Some b → a ≡ b
    some_once e = cc

pub numbers_within : (g : Geometry) (p : PacketId) (n : ℕ) → IsPacket g p →
    n ≡ length (all_blocks g) →
    All (λ m. m < n) (map (number_of g) (blocks_of_packet g p))
numbers_within g p n is count =
    All-map (λ m. m < n) (number_of g) (blocks_of_packet g p)
    (All-weaker (IsBlock g) (λ b. number_of g b < n)
    (λ b there. subst (λ m. number_of g b < m) (sym count) (number_within g b there))
    (blocks_of_packet g p) (blocks_are g p is))

pub numbers_apart : (g : Geometry) (p : PacketId) → IsPacket g p →
    AllPairs (λ a b. a ≡ b → ⊥) (map (number_of g) (blocks_of_packet g p))
numbers_apart g p is i j d less below same =
    let blocks = blocks_of_packet g p in
    let within : j < length blocks =
    subst (λ m. j < m) (length-map blocks (number_of g)) below in
    differ i j less within
    (sym (get_or-map (number_of g) blocks i (no_block p) d (omega (arith, less, within)))
    ∙ same ∙ get_or-map (number_of g) blocks j (no_block p) d within)
  where
    no_block : PacketId → BlockId
    no_block q = record { component = 0; res = 0; orient = LL; x = 0; y = 0 }

    differ : (i j : ℕ) → i < j → j < length (blocks_of_packet g p) →
        number_of g (get_or (blocks_of_packet g p) i (no_block p))
        ≡ number_of g (get_or (blocks_of_packet g p) j (no_block p)) → ⊥
    differ i j less within same =
        let blocks = blocks_of_packet g p in
        packet_differs g p is.component is.res i j (no_block p) less within
        (same_number g (get_or blocks i (no_block p)) (get_or blocks j (no_block p))
        (blocks_are g p is i (no_block p) (omega (arith, less, within)))
        (blocks_are g p is j (no_block p) within) same)

-- a block of another packet has none of these numbers
pub number_elsewhere : (g : Geometry) (p : PacketId) (b : BlockId) → IsPacket g p → IsBlock g b →
    (packet_of_block b ≡ p → ⊥) →
    Contains (map (number_of g) (blocks_of_packet g p)) (number_of g b) → ⊥
number_elsewhere g p b is block other there =
    let blocks = blocks_of_packet g p in
    let k = there.0 in
    let within : k < length blocks =
    subst (λ m. k < m) (length-map blocks (number_of g)) there.1 in
    let of_packet = all_in_packet g p is.component is.res k b within in
    let same : get_or blocks k b ≡ b =
    same_number g (get_or blocks k b) b of_packet.block block
    (sym (get_or-map (number_of g) blocks k b (number_of g b) within) ∙ there.2) in
    other (ap packet_of_block (sym same) ∙ of_packet.packet)

-- what is said of a block

said_in : (g : Geometry) (bytes : List ℕ) (spans : List BlockSpan) (b : BlockId) → IsBlock g b →
    length spans ≡ length (all_blocks g) →
    block_in g (said_of bytes spans) b ≡ said bytes (span_in g spans b)
said_in g bytes spans b is count =
    get_or-map (said bytes) spans (number_of g b) no_span left_out
    (subst (λ m. number_of g b < m) (sym count) (number_within g b is))

pub packet_said : (g : Geometry) (bytes : List ℕ) (spans : List BlockSpan) (p : PacketId)
    (w : PacketWhole) (at : ℕ) → IsPacket g p → length spans ≡ length (all_blocks g) →
    map (span_in g spans) (blocks_of_packet g p) ≡ spans_from at (entries_of w.words) →
    w.codes ≡ codes_at bytes at (lengths_of (entries_of w.words)) →
    PacketSays g (said_of bytes spans) p w
packet_said g bytes spans p w at is count spans_are codes = record {
  entries =
      sym (map_same (IsBlock g) (λ b. (block_in g (said_of bytes spans) b).entry)
      (λ b. (said bytes (span_in g spans b)).entry)
      (λ b there. ap (λ (x : BlockBytes). x.entry) (said_in g bytes spans b there count))
      (blocks_of_packet g p) (blocks_are g p is)
      ∙ sym (map-map (λ s. (said bytes s).entry) (span_in g spans) (blocks_of_packet g p))
      ∙ ap (map (λ s. (said bytes s).entry)) spans_are
      ∙ entries_said bytes (entries_of w.words) at);
  codes =
      codes
      ∙ sym (map_same (IsBlock g) (λ b. (block_in g (said_of bytes spans) b).code)
      (λ b. (said bytes (span_in g spans b)).code)
      (λ b there. ap (λ (x : BlockBytes). x.code) (said_in g bytes spans b there count))
      (blocks_of_packet g p) (blocks_are g p is)
      ∙ sym (map-map (λ s. (said bytes s).code) (span_in g spans) (blocks_of_packet g p))
      ∙ ap (map (λ s. (said bytes s).code)) spans_are
      ∙ codes_said bytes (entries_of w.words) at);
}

-- the spans of the numbers are those of the blocks
pub spans_by_number : (g : Geometry) (spans : List BlockSpan) (p : PacketId) (numbers : List ℕ)
    (entries : List BlockSpan) → numbers ≡ map (number_of g) (blocks_of_packet g p) →
    map (λ n. get_or spans n no_span) numbers ≡ entries →
    map (span_in g spans) (blocks_of_packet g p) ≡ entries
spans_by_number g spans p numbers entries are stand =
    sym (map-map (λ n. get_or spans n no_span) (number_of g) (blocks_of_packet g p))
    ∙ ap (map (λ n. get_or spans n no_span)) (sym are) ∙ stand

-- spans that stay say the same

pub says_same : (g : Geometry) (bytes : List ℕ) (old new : List BlockSpan) (q : PacketId)
    (w : PacketWhole) → IsPacket g q → length old ≡ length (all_blocks g) →
    length new ≡ length (all_blocks g) →
    ((b : BlockId) → IsBlockOf g q b → span_in g new b ≡ span_in g old b) →
    PacketSays g (said_of bytes old) q w → PacketSays g (said_of bytes new) q w
says_same g bytes old new q w is count also stay says = record {
  entries =
      says.entries ∙ map_same (IsBlockOf g q) (λ b. (block_in g (said_of bytes old) b).entry)
      (λ b. (block_in g (said_of bytes new) b).entry)
      (λ b there. ap (λ (x : BlockBytes). x.entry) (same b there))
      (blocks_of_packet g q) (all_in_packet g q is.component is.res);
  codes =
      says.codes ∙ map_same (IsBlockOf g q) (λ b. (block_in g (said_of bytes old) b).code)
      (λ b. (block_in g (said_of bytes new) b).code)
      (λ b there. ap (λ (x : BlockBytes). x.code) (same b there))
      (blocks_of_packet g q) (all_in_packet g q is.component is.res);
}
  where
    same : (b : BlockId) → IsBlockOf g q b →
        block_in g (said_of bytes old) b ≡ block_in g (said_of bytes new) b
    same b there =
        said_in g bytes old b there.block count ∙ ap (said bytes) (sym (stay b there))
        ∙ sym (said_in g bytes new b there.block also)

-- as those of other packets' blocks do

pub says_kept : (g : Geometry) (bytes : List ℕ) (old new : List BlockSpan) (p q : PacketId)
    (w : PacketWhole) → IsPacket g q → (q ≡ p → ⊥) → length old ≡ length (all_blocks g) →
    length new ≡ length (all_blocks g) →
    ((b : BlockId) → IsBlock g b → (packet_of_block b ≡ p → ⊥) →
    span_in g new b ≡ span_in g old b) →
    PacketSays g (said_of bytes old) q w → PacketSays g (said_of bytes new) q w
says_kept g bytes old new p q w is other count also others says =
    says_same g bytes old new q w is count also
    (λ b there. others b there.block (λ e. other (sym there.packet ∙ e))) says

pub all_kept : (g : Geometry) (bytes : List ℕ) (old new : List BlockSpan) (p : PacketId)
    (ps : List PacketId) (ws : List PacketWhole) → All (IsPacket g) ps →
    All (λ q. q ≡ p → ⊥) ps → length old ≡ length (all_blocks g) →
    length new ≡ length (all_blocks g) →
    ((b : BlockId) → IsBlock g b → (packet_of_block b ≡ p → ⊥) →
    span_in g new b ≡ span_in g old b) →
    PacketsSay g (said_of bytes old) ps ws → PacketsSay g (said_of bytes new) ps ws
unfolding PacketsSay
all_kept g bytes old new p [] [] are others_are count also others says = tt
all_kept g bytes old new p [] (w ∷ ws) are others_are count also others says = absurd says
all_kept g bytes old new p (q ∷ ps) [] are others_are count also others says = absurd says
all_kept g bytes old new p (q ∷ ps) (w ∷ ws) are others_are count also others says = (
  says_kept g bytes old new p q w (All-head (IsPacket g) q ps are)
      (All-head (λ r. r ≡ p → ⊥) q ps others_are) count also others says.0,
  all_kept g bytes old new p ps ws (All-tail (IsPacket g) q ps are)
      (All-tail (λ r. r ≡ p → ⊥) q ps others_are) count also others says.1,
)
