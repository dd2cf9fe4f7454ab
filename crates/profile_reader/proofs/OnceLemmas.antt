-- Each code-block is said once in a codestream.
use Rattle.std.proofs.Common.{◌≡◌, ℕ, zero, suc, ◌+◌, ◌<◌, List, [], ◌∷◌, map, length, get_or, refl}
use Rattle.std.proofs.Common.{sym, ap, subst, ◌∙◌, arith, Bool, true, false}
use Rattle.std.specs.List.{Contains}
use Rattle.std.specs.Prelude.{nat_lt, if◌then◌else◌}
use Rattle.std.proofs.lemmas.List.{get_or-map}
use Rattle.cine_nums.specs.Profile.{parts_of}
use Rattle.cine_nums.specs.declared.profile.Profile.{Profile}
use Rattle.cine_nums.specs.declared.profile.Profile.TheVariants.{TwoK, FourK}
use Rattle.band_geometry.specs.Bands.{IsBlock}
use Rattle.band_geometry.specs.TileParts.{part_of_res}
use Rattle.band_geometry.specs.declared.geometry.Geometry.{Geometry}
use Rattle.band_geometry.specs.declared.places.BlockId.{BlockId}
use Rattle.dz_quantiser.specs.declared.steps.StepSizes.{StepSizes}
use Rattle.packet_order.specs.Blocks.{blocks_of_packet, packet_of_block}
use Rattle.packet_order.specs.Order.{ordered_packets}
use Rattle.packet_order.specs.declared.packet.PacketId.{PacketId}
use Rattle.packet_order.proofs.BlockLemmas.{has_block, has_packet}
use Rattle.packet_order.proofs.MemberLemmas.{packets_are_ordered}
use Rattle.profile_reader.specs.Packets.{BlockBytes}
use Rattle.profile_reader.specs.Reads.{block_in, PacketSays, PacketsSay, PartsSay}
use Rattle.profile_reader.specs.Spelled.{SaidOnce}
use Rattle.profile_reader.specs.Words.{PacketWhole, PartWhole, PartsFit}

-- two functions that map a list to the same agree on each of its elements
agree : {A B : Type 0} (f h : A → B) (xs : List A) (x : A) → map f xs ≡ map h xs → Contains xs x →
    f x ≡ h x
agree f h xs x same there =
    let within = there.1 in
    ap f (sym there.2) ∙ sym (get_or-map f xs there.0 x (f x) within)
    ∙ ap (λ l. get_or l there.0 (f x)) same ∙ get_or-map h xs there.0 x (f x) within
    ∙ ap h there.2

-- a packet that says both lists of blocks
SayBoth : Geometry → List BlockBytes → List BlockBytes → PacketId → Type 0
SayBoth g blocks others p =
    (w : PacketWhole) × PacketSays g blocks p w × PacketSays g others p w

same_block : (g : Geometry) (blocks others : List BlockBytes) (b : BlockId) → IsBlock g b →
    SayBoth g blocks others (packet_of_block b) → block_in g blocks b ≡ block_in g others b
unfolding SayBoth
same_block g blocks others b is both =
    let p = packet_of_block b in
    let there = has_block g b is in
    let entries : (block_in g blocks b).entry ≡ (block_in g others b).entry =
    agree (λ a. (block_in g blocks a).entry) (λ a. (block_in g others a).entry)
    (blocks_of_packet g p) b (sym both.1.entries ∙ both.2.entries) there in
    let codes : (block_in g blocks b).code ≡ (block_in g others b).code =
    agree (λ a. (block_in g blocks a).code) (λ a. (block_in g others a).code)
    (blocks_of_packet g p) b (sym both.1.codes ∙ both.2.codes) there in
    λ i. record { entry = entries i; code = codes i }

in_packets : (g : Geometry) (blocks others : List BlockBytes) (ps : List PacketId)
    (ws : List PacketWhole) (p : PacketId) (i : ℕ) → PacketsSay g blocks ps ws →
    PacketsSay g others ps ws → i < length ps → get_or ps i p ≡ p → SayBoth g blocks others p
unfolding PacketsSay SayBoth
in_packets g blocks others [] [] p i says also within is = absurd (omega (arith, within))
in_packets g blocks others [] (w ∷ ws) p i says also within is = absurd (omega (arith, within))
in_packets g blocks others (q ∷ ps) [] p i says also within is = absurd says
in_packets g blocks others (q ∷ ps) (w ∷ ws) p zero says also within is = (
  w,
  subst (λ a. PacketSays g blocks a w) is says.0,
  subst (λ a. PacketSays g others a w) is
      also.0,
)
in_packets g blocks others (q ∷ ps) (w ∷ ws) p (suc i) says also within is =
    in_packets g blocks others ps ws p i says.1 also.1 (omega (arith, within)) is

-- the packets of a tile-part that says both
in_parts : (g : Geometry) (blocks others : List BlockBytes) (index k part : ℕ)
    (parts : List PartWhole) → PartsSay g blocks index parts → PartsSay g others index parts →
    k < length parts → index + k ≡ part →
    (w : PartWhole) × PacketsSay g blocks (ordered_packets g part) w.packets
    × PacketsSay g others (ordered_packets g part) w.packets
unfolding PartsSay
in_parts g blocks others index k part [] says also within is = absurd (omega (arith, within))
in_parts g blocks others index zero part (w ∷ parts) says also within is =
    let same : index ≡ part = omega (arith, is) in (
      w,
      subst (λ n. PacketsSay g blocks (ordered_packets g n) w.packets) same says.0,
      subst (λ n. PacketsSay g others (ordered_packets g n) w.packets) same also.0,
    )
in_parts g blocks others index (suc k) part (w ∷ parts) says also within is =
    in_parts g blocks others (index + 1) k part parts says.1 also.1 (omega (arith, within))
    (omega (arith, is))

few_parts : (profile : Profile) (levels c r : ℕ) → c < 3 →
    part_of_res profile levels c r < parts_of profile
few_parts TwoK levels c r below = below
few_parts FourK levels c r below = by (nat_lt r levels)
  where
    by : (low : Bool) → (if low then c else 3 + c) < 6
    by true = omega (arith, below)
    by false = omega (arith, below)

parts_count : (g : Geometry) (steps : StepSizes) (index count : ℕ) (sizes : List ℕ)
    (parts : List PartWhole) → PartsFit g steps index count sizes parts →
    length parts ≡ length sizes
unfolding PartsFit
parts_count g steps index count [] [] fits = refl
parts_count g steps index count [] (w ∷ parts) fits = absurd fits
parts_count g steps index count (size ∷ sizes) [] fits = absurd fits
parts_count g steps index count (size ∷ sizes) (w ∷ parts) fits =
    ap suc (parts_count g steps (index + 1) count sizes parts fits.1)

pub said_once : SaidOnce
said_once s blocks others fits says also b is =
    let g = s.geometry in
    let p = packet_of_block b in
    let part = part_of_res g.profile g.levels b.component b.res in
    let count : length s.parts ≡ parts_of g.profile =
    parts_count g s.main.steps 0 (length s.main.parts.items) s.main.parts.items s.parts fits.parts
    ∙ fits.main.parts ∙ ap parts_of (sym fits.geometry.profile) in
    let below : part < length s.parts =
    subst (λ n. part < n) (sym count) (few_parts g.profile g.levels b.component b.res is.component)
    in
    let of_part = in_parts g blocks others 0 part part s.parts says also below (omega arith) in
    let there = packets_are_ordered g part p (has_packet g b is) in
    same_block g blocks others b is
    (in_packets g blocks others (ordered_packets g part) of_part.0.packets p there.0 of_part.1
    of_part.2 there.1 there.2)
