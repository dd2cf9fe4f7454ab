-- What the packets of a codestream say of each code-block fits the block's band.
use Rattle.std.proofs.Common.{◌≡◌, ℕ, zero, suc, ◌+◌, ◌-◌, ◌*◌, ◌<◌, ◌≤◌, List, [], ◌∷◌, ◌++◌}
use Rattle.std.proofs.Common.{map, length, get_or, refl, sym, ap, subst, ◌∙◌, arith, Bool, true, false}
use Rattle.std.proofs.Common.{take, drop}
use Rattle.std.specs.Prelude.{nat_lt, if◌then◌else◌}
use Rattle.std.specs.List.{All, Contains, flat_map}
use Rattle.std.proofs.lemmas.List.{get_or-map, length-map, map-append, take_at, drop_at}
use Rattle.std.proofs.lemmas.List.Elements.{All-nil, All-cons, All-append, All-head, All-tail}
use Rattle.std.proofs.lemmas.List.Elements.{All-contains}
use Rattle.std.proofs.lemmas.Simd.{map-map}
use Rattle.cine_nums.specs.Profile.{parts_of}
use Rattle.cine_nums.specs.declared.orient.Orient.{Orient}
use Rattle.cine_nums.specs.declared.profile.Profile.{Profile}
use Rattle.cine_nums.specs.declared.profile.Profile.TheVariants.{TwoK, FourK}
use Rattle.band_geometry.specs.Bands.{HasBand, IsBlock, precinct_blocks_of}
use Rattle.band_geometry.specs.Numbering.{orients_of}
use Rattle.band_geometry.specs.TileParts.{part_of_res}
use Rattle.band_geometry.specs.declared.geometry.Geometry.{Geometry}
use Rattle.band_geometry.specs.declared.places.BlockId.{BlockId}
use Rattle.dz_quantiser.specs.Bands.{band_planes}
use Rattle.dz_quantiser.specs.declared.steps.StepSizes.{StepSizes}
use Rattle.packet_headers.specs.Grammar.{BandFits, BandsFit, BlocksFit, FitsAs, most_passes}
use Rattle.packet_headers.specs.Words.{BandTrees, BandWords, BlockWords}
use Rattle.packet_headers.specs.declared.entry.Entry.{Entry}
use Rattle.packet_order.specs.Blocks.{blocks_in, blocks_of_packet, packet_of_block, IsBlockIn}
use Rattle.packet_order.specs.Order.{ordered_packets}
use Rattle.packet_order.specs.declared.packet.PacketId.{PacketId}
use Rattle.packet_order.proofs.BlockLemmas.{all_in_band, band_count, has_block, has_packet}
use Rattle.packet_order.proofs.MemberLemmas.{packets_are_ordered}
use Rattle.profile_reader.specs.Packets.{BlockBytes}
use Rattle.profile_reader.specs.Reads.{Stream, StreamFits, block_in, PacketSays, PacketsSay}
use Rattle.profile_reader.specs.Reads.{PartsSay}
use Rattle.profile_reader.specs.Shapes.{shape_in, shapes_in}
use Rattle.profile_reader.specs.Words.{PacketWhole, PacketFits, PacketsFit, PartWhole, PartsFit}
use Rattle.profile_reader.specs.Words.{band_entries}
use Rattle.profile_reader.proofs.BandLemmas.{all_orients}
use Rattle.frame_reader.specs.Blocks.{BlockFits}

-- the entries of a band

record EntryFits (planes : ℕ) (entry : Entry) : Type 0 where
  zero_planes : entry.zero_planes ≤ planes
  passes : entry.passes ≤ most_passes planes entry.zero_planes

entry_fits : (included : Bool) (trees : BandTrees) (planes place : ℕ) (block : BlockWords) →
    FitsAs included trees planes place block → EntryFits planes block.entry
entry_fits true trees planes place block fits = record {
  zero_planes = omega (arith, fits.fewer);
  passes = fits.passes;
}
entry_fits false trees planes place block fits = record {
  zero_planes = omega (arith, fits.zero_planes);
  passes = omega (arith, fits.passes);
}

entries_fit : (trees : BandTrees) (planes place : ℕ) (blocks : List BlockWords) →
    BlocksFit trees planes place blocks →
    All (EntryFits planes) (map (λ (block : BlockWords). block.entry) blocks)
unfolding BlocksFit
entries_fit trees planes place [] fit = All-nil (EntryFits planes)
entries_fit trees planes place (block ∷ blocks) fit =
    All-cons (EntryFits planes) block.entry (map (λ (b : BlockWords). b.entry) blocks)
    (entry_fits block.entry.included trees planes place block fit.0)
    (entries_fit trees planes (place + 1) blocks fit.1)

-- two lists that are joined to the same, the first ones of one length
first_same : {A : Type 0} (xs bs cs ds : List A) → length xs ≡ length cs →
    xs ++ bs ≡ cs ++ ds → xs ≡ cs
first_same xs bs cs ds long same =
    sym (take_at xs bs (length cs) long) ∙ ap (take (length cs)) same
    ∙ take_at cs ds (length cs) refl

rest_same : {A : Type 0} (xs bs cs ds : List A) → length xs ≡ length cs →
    xs ++ bs ≡ cs ++ ds → bs ≡ ds
rest_same xs bs cs ds long same =
    sym (drop_at xs bs (length cs) long) ∙ ap (drop (length cs)) same
    ∙ drop_at cs ds (length cs) refl

-- The entries of a packet, as blocks have them.
module _ (g : Geometry) (steps : StepSizes) (p : PacketId) (entry : BlockId → Entry)
    (component : p.component < 3) where
  FitsItsBand : BlockId → Type 0
  FitsItsBand b = EntryFits (band_planes steps b.res b.orient) (entry b)

  band_fits : (o : Orient) (band : BandWords) → HasBand g p.res o →
      BandFits (shape_in g steps p o) band → map entry (blocks_in g p o) ≡ band_entries band →
      All FitsItsBand (blocks_in g p o)
  unfolding FitsItsBand
  band_fits o band has fits same k d below =
      let is : IsBlockIn g p o (get_or (blocks_in g p o) k d) =
      all_in_band g p o component has k d below in
      let b = get_or (blocks_in g p o) k d in
      let counted : k < length (band_entries band) =
      subst (λ (es : List Entry). k < length es) same
      (subst (λ n. k < n) (sym (length-map (blocks_in g p o) entry)) below) in
      let here : EntryFits band.planes (get_or (band_entries band) k (entry b)) =
      entries_fit band.trees band.planes 0 band.blocks fits.blocks k (entry b) counted in
      let is_entry : get_or (band_entries band) k (entry b) ≡ entry b =
      ap (λ (es : List Entry). get_or es k (entry b)) (sym same)
      ∙ get_or-map entry (blocks_in g p o) k d (entry b) below in
      let planes : band.planes ≡ band_planes steps b.res b.orient =
      fits.planes ∙ ap (λ r. band_planes steps r o)
      (sym (ap (λ (q : PacketId). q.res) is.of_packet.packet))
      ∙ ap (λ q. band_planes steps b.res q) (sym is.orient) in
      subst (λ n. EntryFits n (entry b)) planes (subst (EntryFits band.planes) is_entry here)

  bands_fit : (os : List Orient) (bands : List BandWords) → All (HasBand g p.res) os →
      BandsFit (map (shape_in g steps p) os) bands →
      map entry (flat_map (blocks_in g p) os) ≡ flat_map band_entries bands →
      All FitsItsBand (flat_map (blocks_in g p) os)
  unfolding BandsFit
  bands_fit [] bands have fit same = All-nil FitsItsBand
  bands_fit (o ∷ os) [] have fit same = absurd fit
  bands_fit (o ∷ os) (band ∷ bands) have fit same =
      let range = precinct_blocks_of g p.res o p.px p.py in
      let long : length (map entry (blocks_in g p o)) ≡ length (band_entries band) =
      length-map (blocks_in g p o) entry
      ∙ band_count g p o (range.y1 - range.y0) (range.x1 - range.x0) refl refl
      ∙ swapped (range.y1 - range.y0) (range.x1 - range.x0) ∙ sym fit.0.count
      ∙ sym (length-map band.blocks (λ (block : BlockWords). block.entry)) in
      let joined : map entry (blocks_in g p o) ++ map entry (flat_map (blocks_in g p) os)
      ≡ band_entries band ++ flat_map band_entries bands =
      sym (map-append entry (blocks_in g p o) (flat_map (blocks_in g p) os)) ∙ same in
      All-append FitsItsBand (blocks_in g p o) (flat_map (blocks_in g p) os)
      (band_fits o band (All-head (HasBand g p.res) o os have) fit.0
      (first_same (map entry (blocks_in g p o)) (map entry (flat_map (blocks_in g p) os))
      (band_entries band) (flat_map band_entries bands) long joined))
      (bands_fit os bands (All-tail (HasBand g p.res) o os have) fit.1
      (rest_same (map entry (blocks_in g p o)) (map entry (flat_map (blocks_in g p) os))
      (band_entries band) (flat_map band_entries bands) long joined))
    where
      swapped : (a b : ℕ) → a * b ≡ b * a
      swapped a b = omega arith

-- two functions that map a list to the same agree on each of its elements
agree : {A B : Type 0} (f h : A → B) (xs : List A) (x : A) → map f xs ≡ map h xs → Contains xs x →
    f x ≡ h x
agree f h xs x same there =
    let within = there.1 in
    ap f (sym there.2) ∙ sym (get_or-map f xs there.0 x (f x) within)
    ∙ ap (λ l. get_or l there.0 (f x)) same ∙ get_or-map h xs there.0 x (f x) within
    ∙ ap h there.2

-- a block of a packet that stands
module _ (g : Geometry) (steps : StepSizes) (said : List BlockBytes) where
  FitsAndSays : PacketId → Type 0
  FitsAndSays p =
      (w : PacketWhole) × PacketFits (shapes_in g steps p) w × PacketSays g said p w

  bands_have : (r : ℕ) → r ≤ g.levels → All (HasBand g r) (orients_of r)
  bands_have r within =
      all_orients (HasBand g r) r (λ o at. record { res = within; orient = at })

  block_fits : (b : BlockId) → IsBlock g b → FitsAndSays (packet_of_block b) →
      BlockFits (band_planes steps b.res b.orient) (block_in g said b)
  unfolding FitsAndSays blocks_of_packet shapes_in FitsItsBand
  block_fits b is packet =
      let p = packet_of_block b in
      let w = packet.0 in
      let entry = λ (a : BlockId). (block_in g said a).entry in
      let fits : EntryFits (band_planes steps b.res b.orient) (entry b) =
      All-contains (FitsItsBand g steps p entry is.component)
      (blocks_of_packet g p) b
      (bands_fit g steps p entry is.component (orients_of p.res) w.words.bands
      (bands_have p.res is.band.res) packet.1.words.bands (sym packet.2.entries))
      (has_block g b is) in
      let codes : map (λ (a : BlockId). length (block_in g said a).code) (blocks_of_packet g p)
      ≡ map (λ (a : BlockId). (entry a).len) (blocks_of_packet g p) =
      sym (map-map length (λ (a : BlockId). (block_in g said a).code) (blocks_of_packet g p))
      ∙ ap (map length) (sym packet.2.codes) ∙ packet.1.codes
      ∙ ap (map (λ (e : Entry). e.len)) packet.2.entries
      ∙ map-map (λ (e : Entry). e.len) entry (blocks_of_packet g p) in
      record {
        zero_planes = fits.zero_planes;
        passes = fits.passes;
        len = agree (λ (a : BlockId). length (block_in g said a).code)
            (λ (a : BlockId). (entry a).len) (blocks_of_packet g p) b codes (has_block g b is);
      }

  in_packets : (ps : List PacketId) (ws : List PacketWhole) (p : PacketId) (i : ℕ) →
      PacketsFit g steps ps ws → PacketsSay g said ps ws → i < length ps → get_or ps i p ≡ p →
      FitsAndSays p
  unfolding PacketsFit PacketsSay FitsAndSays
  in_packets [] ws p i fit say within is = absurd (omega (arith, within))
  in_packets (q ∷ ps) [] p i fit say within is = absurd fit
  in_packets (q ∷ ps) (w ∷ ws) p zero fit say within is = (
    w,
    subst (λ a. PacketFits (shapes_in g steps a) w) is fit.0,
    subst (λ a. PacketSays g said a w) is say.0,
  )
  in_packets (q ∷ ps) (w ∷ ws) p (suc i) fit say within is =
      in_packets ps ws p i fit.1 say.1 (omega (arith, within)) is

  -- the packets of a tile-part
  in_parts : (index k part count : ℕ) (sizes : List ℕ) (parts : List PartWhole) →
      PartsFit g steps index count sizes parts → PartsSay g said index parts →
      k < length parts → index + k ≡ part →
      (w : PartWhole) × PacketsFit g steps (ordered_packets g part) w.packets
      × PacketsSay g said (ordered_packets g part) w.packets
  unfolding PartsFit PartsSay
  in_parts index k part count sizes [] fit say within is = absurd (omega (arith, within))
  in_parts index k part count [] (w ∷ parts) fit say within is = absurd fit
  in_parts index zero part count (size ∷ sizes) (w ∷ parts) fit say within is =
      let same : index ≡ part = omega (arith, is) in (
        w,
        subst (λ n. PacketsFit g steps (ordered_packets g n) w.packets) same fit.0.packets,
        subst (λ n. PacketsSay g said (ordered_packets g n) w.packets) same say.0,
      )
  in_parts index (suc k) part count (size ∷ sizes) (w ∷ parts) fit say within is =
      in_parts (index + 1) k part count sizes parts fit.1 say.1 (omega (arith, within))
      (omega (arith, is))

  parts_count : (index count : ℕ) (sizes : List ℕ) (parts : List PartWhole) →
      PartsFit g steps index count sizes parts → length parts ≡ length sizes
  unfolding PartsFit
  parts_count index count [] [] fit = refl
  parts_count index count [] (w ∷ parts) fit = absurd fit
  parts_count index count (size ∷ sizes) [] fit = absurd fit
  parts_count index count (size ∷ sizes) (w ∷ parts) fit =
      ap suc (parts_count (index + 1) count sizes parts fit.1)

few_parts : (profile : Profile) (levels c r : ℕ) → c < 3 →
    part_of_res profile levels c r < parts_of profile
few_parts TwoK levels c r below = below
few_parts FourK levels c r below = by (nat_lt r levels)
  where
    by : (low : Bool) → (if low then c else 3 + c) < 6
    by true = omega (arith, below)
    by false = omega (arith, below)

pub said_fits : (s : Stream) (said : List BlockBytes) → StreamFits s →
    PartsSay s.geometry said 0 s.parts → (b : BlockId) → IsBlock s.geometry b →
    BlockFits (band_planes s.main.steps b.res b.orient) (block_in s.geometry said b)
said_fits s said fits say b is =
    let g = s.geometry in
    let steps = s.main.steps in
    let p = packet_of_block b in
    let part = part_of_res g.profile g.levels b.component b.res in
    let count : length s.parts ≡ parts_of g.profile =
    parts_count g steps said 0 (length s.main.parts.items) s.main.parts.items s.parts fits.parts
    ∙ fits.main.parts ∙ ap parts_of (sym fits.geometry.profile) in
    let below : part < length s.parts =
    subst (λ n. part < n) (sym count) (few_parts g.profile g.levels b.component b.res is.component)
    in
    let of_part = in_parts g steps said 0 part part (length s.main.parts.items)
    s.main.parts.items s.parts fits.parts say below (omega arith) in
    let there = packets_are_ordered g part p (has_packet g b is) in
    block_fits g steps said b is
    (in_packets g steps said (ordered_packets g part) of_part.0.packets p there.0 of_part.1
    of_part.2 there.1 there.2)
