-- A packet that was read stands there, and a packet that stands there was read.
use Rattle.std.proofs.Common.{◌≡◌, ℕ, ◌+◌, ◌-◌, ◌≤◌, List, [], ◌∷◌, ◌++◌, length, map, take, refl}
use Rattle.std.proofs.Common.{ap, sym, ◌∙◌, arith, append_assoc, length-append, slice_range}
use Rattle.std.proofs.Common.{subst, ◌*◌}
use Rattle.std.specs.List.{flat_map, sum_by}
use Rattle.std.proofs.lemmas.List.{take_at, length-take-le, length-map}
use Rattle.std.proofs.lemmas.List.Sums.{sum_by-append, sum_by-cons}
use Rattle.band_geometry.specs.Numbering.{orients_of}
use Rattle.band_geometry.specs.Bands.{precinct_blocks_of}
use Rattle.band_geometry.specs.declared.geometry.Geometry.{Geometry}
use Rattle.bit_stuffing.specs.Stuffing.{Stuffs}
use Rattle.cine_nums.specs.declared.orient.Orient.{Orient}
use Rattle.dz_quantiser.specs.declared.steps.StepSizes.{StepSizes}
use Rattle.packet_headers.specs.Grammar.{BandsFit}
use Rattle.packet_headers.specs.Reading.{Found, HasHeader}
use Rattle.packet_headers.specs.Words.{BlockWords, BandWords, PacketWords, packet_of, band_of}
use Rattle.packet_headers.specs.Words.{blocks_len, body_of, header_words}
use Rattle.packet_headers.specs.declared.packet.BandShape.{BandShape}
use Rattle.packet_headers.specs.declared.packet.PacketRead.{PacketRead}
use Rattle.packet_order.specs.Blocks.{blocks_in, blocks_of_packet}
use Rattle.packet_order.specs.declared.packet.PacketId.{PacketId}
use Rattle.packet_order.proofs.BlockLemmas.{band_count}
use Rattle.profile_reader.specs.Shapes.{shape_in, shapes_in}
use Rattle.profile_reader.specs.Words.{PacketWhole, packet_bytes, band_entries}
use Rattle.profile_reader.specs.Words.{entries_of}
use Rattle.codestream_reader.specs.Spans.{entries_in}
use Rattle.codestream_reader.specs.Standing.{PacketStands}
use Rattle.codestream_reader.proofs.Codes.{total, codes_at, codes_lengths, codes_joined, lengths_of}
use Rattle.codestream_reader.proofs.Codes.{total_is}
use Rattle.codestream_reader.proofs.Pieces.{Joined, joined, length_part, part_begin, part_split}
use Rattle.codestream_reader.proofs.Placing.{entry_len}

-- entries, and their lengths together

pub entries_are : (words : PacketWords) →
    entries_in (packet_of words).bands.items ≡ entries_of words
entries_are words = bands words.bands
  where
    bands : (bs : List BandWords) → entries_in (map band_of bs) ≡ flat_map band_entries bs
    bands [] = refl
    bands (b ∷ bs) = ap (λ t. band_entries b ++ t) (bands bs)

blocks_total : (bs : List BlockWords) →
    sum_by entry_len (map (λ (b : BlockWords). b.entry) bs) ≡ blocks_len bs
blocks_total [] = refl
blocks_total (b ∷ bs) =
    sum_by-cons entry_len b.entry (map (λ (w : BlockWords). w.entry) bs)
    ∙ ap (λ n. b.entry.len + n) (blocks_total bs)
    ∙ sym (sum_by-cons (λ (w : BlockWords). w.entry.len) b bs)

pub body_is : (words : PacketWords) → sum_by entry_len (entries_of words) ≡ body_of words
body_is words = bands words.bands
  where
    bands : (bs : List BandWords) → sum_by entry_len (flat_map band_entries bs)
        ≡ sum_by (λ (b : BandWords). blocks_len b.blocks) bs
    bands [] = refl
    bands (b ∷ bs) =
        sum_by-append entry_len (band_entries b) (flat_map band_entries bs)
        ∙ ap (λ n. n + sum_by entry_len (flat_map band_entries bs)) (blocks_total b.blocks)
        ∙ ap (λ n. blocks_len b.blocks + n) (bands bs)
        ∙ sym (sum_by-cons (λ (w : BandWords). blocks_len w.blocks) b bs)

pub total_body : (words : PacketWords) → total (lengths_of (entries_of words)) ≡ body_of words
total_body words = total_is (entries_of words) ∙ body_is words

-- as many entries as blocks

turned : (a b : ℕ) → a * b ≡ b * a
turned a b = grind arith

pub entries_count : (g : Geometry) (steps : StepSizes) (p : PacketId) (words : PacketWords) →
    BandsFit (shapes_in g steps p) words.bands →
    length (entries_of words) ≡ length (blocks_of_packet g p)
unfolding shapes_in blocks_of_packet BandsFit
entries_count g steps p words fits = bands (orients_of p.res) words.bands fits
  where
    bands : (os : List Orient) (bs : List BandWords) → BandsFit (map (shape_in g steps p) os) bs →
        length (flat_map band_entries bs) ≡ length (flat_map (blocks_in g p) os)
    bands [] [] fits = refl
    bands [] (b ∷ bs) fits = absurd fits
    bands (o ∷ os) [] fits = absurd fits
    bands (o ∷ os) (b ∷ bs) fits =
        let range = precinct_blocks_of g p.res o p.px p.py in
        let rows = range.y1 - range.y0 in
        let columns = range.x1 - range.x0 in
        length-append (band_entries b) (flat_map band_entries bs)
        ∙ ap (λ n. n + length (flat_map band_entries bs))
        (length-map b.blocks (λ (w : BlockWords). w.entry) ∙ fits.0.count ∙ turned columns rows
        ∙ sym (band_count g p o rows columns refl refl))
        ∙ ap (λ n. length (blocks_in g p o) + n) (bands os bs fits.1)
        ∙ sym (length-append (blocks_in g p o) (flat_map (blocks_in g p) os))

-- a packet that was read stands there

joined_length : (codes : List (List ℕ)) →
    length (flat_map (λ code. code) codes) ≡ total (map length codes)
joined_length [] = refl
joined_length (c ∷ cs) =
    length-append c (flat_map (λ code. code) cs) ∙ ap (λ n. length c + n) (joined_length cs)

pub found_stands : (shapes : List BandShape) (bytes : List ℕ) (at stop to : ℕ)
    (found : PacketRead) → at ≤ stop → stop ≤ length bytes →
    to ≡ at + found.header + found.body → Found shapes (slice_range bytes at stop) found →
    (w : PacketWhole) × PacketStands shapes bytes at stop to w
found_stands shapes bytes at stop to found order inside to_is f = (
  w,
  record {
    fits = record { words = f.header.fits; head = f.header.stuffed; codes = cut };
    bytes_are = bytes_are;
    to_is = to_is ∙ sums;
  },
)
  where
    n : ℕ
    n = found.header

    lens : List ℕ
    lens = lengths_of (entries_of f.words)

    codes : List (List ℕ)
    codes = codes_at bytes (at + n) lens

    w : PacketWhole
    w = record { words = f.words; head = take n (slice_range bytes at stop); codes = codes }

    whole : length (slice_range bytes at stop) ≡ stop - at
    whole = length_part bytes at stop inside

    sum : total lens ≡ found.body
    sum = total_body f.words ∙ sym f.body

    room : at + n + total lens ≤ stop
    room = let r = f.room in omega (arith, r, whole, sum, order)

    cut : map length codes ≡ lens
    cut = codes_lengths bytes lens (at + n) (omega (arith, room, inside))

    end : at + n + total lens ≡ to
    end = ap (λ m. at + n + m) sum ∙ sym to_is

    bytes_are : slice_range bytes at stop ≡ packet_bytes w ++ slice_range bytes to stop
    bytes_are =
        part_split bytes at n stop (omega (arith, room))
        ∙ ap (λ t. t ++ slice_range bytes (at + n) stop)
        (sym (part_begin bytes at n stop (omega (arith, room))))
        ∙ ap (λ t. w.head ++ t) (codes_joined bytes lens (at + n) stop room
        ∙ ap (λ m. flat_map (λ code. code) codes ++ slice_range bytes m stop) end)
        ∙ sym (append_assoc w.head (flat_map (λ code. code) codes) (slice_range bytes to stop))

    head : length w.head ≡ n
    head = length-take-le n (slice_range bytes at stop) f.header.within

    sums : at + found.header + found.body ≡ at + length (packet_bytes w)
    sums =
        let joined = length-append w.head (flat_map (λ code. code) codes) in
        let cut_length = joined_length codes ∙ ap total cut in
        omega (arith, joined, cut_length, sum, head)

-- and a packet that stands there has a header that is read

pub record HasRoom (shapes : List BandShape) (bytes : List ℕ) (at stop to : ℕ) (w : PacketWhole) :
    Type 0 where
  pub header : HasHeader shapes w.words (slice_range bytes at stop) (length w.head)
  pub room : length w.head + body_of w.words ≤ length (slice_range bytes at stop)
  pub to_is : to ≡ at + length w.head + body_of w.words
  pub codes : slice_range bytes (at + length w.head) stop
      ≡ flat_map (λ code. code) w.codes ++ slice_range bytes to stop

pub stands_has : (shapes : List BandShape) (bytes : List ℕ) (at stop to : ℕ) (w : PacketWhole) →
    at ≤ stop → stop ≤ length bytes → PacketStands shapes bytes at stop to w →
    HasRoom shapes bytes at stop to w
stands_has shapes bytes at stop to w order inside stands = record {
  header = record {
    fits = stands.fits.words;
    within = omega (arith, lengths);
    stuffed = subst (λ (t : List ℕ). Stuffs (header_words w.words) t) (sym head) stands.fits.head;
  };
  room = omega (arith, lengths, body);
  to_is =
      let to_is = stands.to_is in
      let both = length-append w.head (flat_map (λ code. code) w.codes) in
      omega (arith, to_is, both, body);
  codes = parts.rest;
}
  where
    flat : List ℕ
    flat = flat_map (λ code. code) w.codes

    rest : List ℕ
    rest = slice_range bytes to stop

    split : slice_range bytes at stop ≡ w.head ++ (flat ++ rest)
    split = stands.bytes_are ∙ append_assoc w.head flat rest

    parts : Joined bytes w.head (flat ++ rest) at stop
    parts = joined bytes w.head (flat ++ rest) at stop inside order split

    head : take (length w.head) (slice_range bytes at stop) ≡ w.head
    head = ap (take (length w.head)) split ∙ take_at w.head (flat ++ rest) (length w.head) refl

    lengths : length (slice_range bytes at stop) ≡ length w.head + (length flat + length rest)
    lengths = ap (λ (t : List ℕ). length t) split ∙ length-append w.head (flat ++ rest)
        ∙ ap (λ n. length w.head + n) (length-append flat rest)

    body : length flat ≡ body_of w.words
    body = joined_length w.codes ∙ ap total stands.fits.codes ∙ total_body w.words
