-- The writer's words of a packet spell it.
use Rattle.std.proofs.Common.{◌≡◌, ℕ, ◌+◌, ◌-◌, ◌*◌, ◌/◌, ◌%◌, ◌^◌, ◌<◌, ◌≤◌, Bool, true, false}
use Rattle.std.proofs.Common.{List, [], ◌∷◌, ◌++◌, length, map, get_or, refl, sym, ap, subst, ◌∙◌}
use Rattle.std.proofs.Common.{arith, append_assoc}
use Rattle.std.specs.Prelude.{All}
use Rattle.std.specs.List.{list_any}
use Rattle.std.proofs.lemmas.List.{length-map, length_push}
use Rattle.std.proofs.Common.{length-append}
use Rattle.std.proofs.Math.Seq.{take-append_seam, get_or-append_seam}
use Rattle.std.proofs.lemmas.List.Elements.{All-tail}
use Rattle.cine_nums.specs.Bits.{bit_len}
use Rattle.tag_trees.specs.TagTree.{least}
use Rattle.tag_trees.proofs.LeastLemmas.{least_rises}
use Rattle.packet_headers.specs.declared.entry.Entry.{Entry}
use Rattle.packet_headers.specs.declared.packet.PacketBand.{PacketBand}
use Rattle.packet_headers.specs.declared.packet.Packet.{Packet}
use Rattle.packet_headers.specs.Codewords.{length_width, least_raise}
use Rattle.packet_headers.specs.Words.{leaf_at, packet_of, band_of}
use Rattle.packet_headers.specs.Grammar.{FitsAs, BlocksFit, BandFits, BandsFit, NoneOf, NoneOfBands}
use Rattle.packet_headers.specs.Grammar.{WordsFit}
use Rattle.packet_headers.specs.Written.{inclusion_value, zero_plane_value, written_block}
use Rattle.packet_headers.specs.Written.{written_trees, written_band, written, band_has_any}
use Rattle.packet_headers.specs.Written.{shape_of, shapes_of, CanWriteIncluded, CanWriteEntry}
use Rattle.packet_headers.specs.Written.{CanWriteBand, CanWrite, IsPlain, ArePlain, written_bits}
use Rattle.packet_headers.specs.Reading.{HasHeader}
use Rattle.bit_stuffing.specs.Stuffing.{Stuffs}
use Rattle.packet_headers.proofs.BandLemmas.{inside}
use Rattle.packet_headers.proofs.EntryLemmas.{leaf_value}
use Rattle.packet_headers.proofs.CodewordLemmas.{length_widths}
use Rattle.packet_headers.proofs.MarkLemmas.{or_none}

-- the number of a leaf is its entry's
leaf_is : (band : PacketBand) (f : Entry → ℕ) (place : ℕ) (entry d : Entry) → CanWriteBand band
    → place < length band.entries.items → entry ≡ get_or band.entries.items place d
    → f entry ≤ 255 → least band.width (map f band.entries.items) (leaf_at band.width place)
    ≡ f entry
leaf_is band f place entry d can h e m =
    let count : length band.entries.items ≡ band.width * band.height = can.count in
    leaf_value band f place (place % band.width) (place / band.width) entry d can h e
    (inside band.width band.height place (place % band.width) (place / band.width) (omega arith)
    refl refl) m

-- the length of an entry fits the bits that it has
len_fits : (passes len : ℕ) → 1 ≤ passes → passes ≤ 164 → len ≤ 131072
    → len < 2 ^ length_width passes (least_raise passes len)
len_fits passes len some most h =
    let w = length_widths passes len (2 + bit_len passes) (bit_len len - (2 + bit_len passes))
    (2 + bit_len passes + (bit_len len - (2 + bit_len passes))) some most h refl refl refl in
    rw (← w.raise_is, ← w.width_is) w.fits

-- an entry at its place
entry_fits : (band : PacketBand) (place : ℕ) (entry d : Entry) → CanWriteBand band
    → place < length band.entries.items → entry ≡ get_or band.entries.items place d
    → IsPlain entry → (b : Bool) → entry.included ≡ b
    → FitsAs b (written_trees band) band.planes place (written_block entry)
entry_fits band place entry d can h e plain true i =
    let w : CanWriteIncluded band.planes entry =
    subst (CanWriteEntry band.planes) (sym e) (can.entries place d h) i in
    let zero_planes_are : zero_plane_value band.planes entry ≡ entry.zero_planes = rw i refl in
    let inclusion_is : inclusion_value entry ≡ 0 = rw i refl in
    let most : band.planes ≤ 20 = can.planes in
    let fewer : entry.zero_planes < band.planes = w.fewer in
    let passes : entry.passes ≤ 3 * (band.planes - entry.zero_planes) - 2 = w.passes in
    record {
      inclusion = leaf_is band inclusion_value place entry d can h e (rw inclusion_is (omega arith))
          ∙ inclusion_is;
      zero_planes = leaf_is band (zero_plane_value band.planes) place entry d can h e
          (rw zero_planes_are (omega arith)) ∙ zero_planes_are;
      fewer = w.fewer;
      some_passes = w.some_passes;
      passes = w.passes;
      len = len_fits entry.passes entry.len w.some_passes (omega arith) w.len;
    }
entry_fits band place entry d can h e plain false i =
    let z = plain i in
    let inclusion_is : inclusion_value entry ≡ 1 = rw i refl in
    record {
      inclusion = rw (
        leaf_is band inclusion_value place entry d can h e
            (rw inclusion_is (omega arith)),
        inclusion_is,
      ) (omega arith);
      zero_planes = z.zero_planes;
      passes = z.passes;
      len = z.len;
    }

entries_fit : (band : PacketBand) (first rest : List Entry) → CanWriteBand band
    → All IsPlain band.entries.items → band.entries.items ≡ first ++ rest
    → BlocksFit (written_trees band) band.planes (length first) (map written_block rest)
unfolding BlocksFit
entries_fit band first [] can plain e = tt
entries_fit band first (entry ∷ rest) can plain e =
    let below : length first < length band.entries.items =
    (let l = ap length e ∙ length-append first (entry ∷ rest) in omega arith) in
    let own : entry ≡ get_or band.entries.items (length first) entry =
    sym (ap (λ i. get_or i (length first) entry) e
    ∙ get_or-append_seam first entry rest entry) in
    let more = entries_fit band (first ++ entry ∷ []) rest can plain (e
    ∙ sym (append_assoc first (entry ∷ []) rest)) in (
      entry_fits band (length first) entry entry can below own
          (subst IsPlain (sym own) (plain (length first) entry below)) entry.included refl,
      subst (λ k. BlocksFit (written_trees band) band.planes k (map written_block rest))
          (length_push first entry) more,
    )

band_fits : (band : PacketBand) → CanWriteBand band → All IsPlain band.entries.items
    → BandFits (shape_of band) (written_band band)
band_fits band can plain = record {
  trees = record {
    width = refl;
    height = refl;
    inclusion = least_rises band.width band.height (map inclusion_value band.entries.items)
        can.width can.height;
    zero_planes = least_rises band.width band.height (map (zero_plane_value band.planes)
        band.entries.items) can.width can.height;
  };
  planes = refl;
  count = length-map band.entries.items written_block ∙ can.count;
  blocks = entries_fit band [] band.entries.items can plain refl;
}

bands_fit : (bands : List PacketBand) → All CanWriteBand bands
    → All (λ band. All IsPlain band.entries.items) bands
    → BandsFit (map shape_of bands) (map written_band bands)
unfolding BandsFit
bands_fit [] can plain = tt
bands_fit (band ∷ bands) can plain = (
  band_fits band (can 0 band (omega arith)) (plain 0 band (omega arith)),
  bands_fit bands (All-tail CanWriteBand band bands can)
      (All-tail (λ b. All IsPlain b.entries.items) band bands plain),
)

-- where no block is included
none_of : (entries : List Entry) → list_any (λ entry. entry.included) entries ≡ false
    → NoneOf (map written_block entries)
unfolding NoneOf
none_of [] h = tt
none_of (entry ∷ entries) h = let r = or_none entry.included (list_any (λ e. e.included) entries) h
    in (r.0, none_of entries r.1)

none_of_bands : (bands : List PacketBand) → list_any band_has_any bands ≡ false
    → NoneOfBands (map written_band bands)
unfolding NoneOfBands
none_of_bands [] h = tt
none_of_bands (band ∷ bands) h = let r = or_none (band_has_any band) (list_any band_has_any bands) h
    in (none_of band.entries.items r.0, none_of_bands bands r.1)

pub words_fit : (packet : Packet) → CanWrite packet → ArePlain packet
    → WordsFit (shapes_of packet) (written packet)
words_fit packet can plain = record {
  bands = bands_fit packet.bands.items can plain;
  empty = λ h. none_of_bands packet.bands.items h;
}

-- the words say the packet
entries_same : (entries : List Entry) → map (λ block. block.entry) (map written_block entries)
    ≡ entries
entries_same [] = refl
entries_same (entry ∷ entries) = ap (λ r. entry ∷ r) (entries_same entries)

bands_same : (bands : List PacketBand) → map band_of (map written_band bands) ≡ bands
bands_same [] = refl
bands_same (band ∷ bands) =
    let one : band_of (written_band band) ≡ band =
    ap (λ i. record band { entries = record { items = i } })
    (entries_same band.entries.items) in
    ap (λ b. b ∷ map band_of (map written_band bands)) one ∙ ap (λ r. band ∷ r) (bands_same bands)

pub packet_same : (packet : Packet) → packet_of (written packet) ≡ packet
packet_same packet = ap (λ b. record { bands = record { items = b } })
    (bands_same packet.bands.items)

-- its header is found, whatever follows
pub header_found : (packet : Packet) (items rest : List ℕ) → CanWrite packet → ArePlain packet
    → Stuffs (written_bits packet) items
    → HasHeader (shapes_of packet) (written packet) (items ++ rest) (length items)
header_found packet items rest can plain s = record {
  fits = words_fit packet can plain;
  within = rw (length-append items rest) (omega arith);
  stuffed = rw (take-append_seam items rest) s;
}
