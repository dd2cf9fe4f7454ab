-- What `read_packet` owes, from what was read at its place.
use Rattle.std.proofs.Common.{◌≡◌, ℕ, ◌+◌, ◌≤◌, List, length, map, ap, sym, ◌∙◌, arith}
use Rattle.std.proofs.Common.{Ok, Err, Result, slice_range, get_or}
use Rattle.std.specs.List.{sum_by}
use Rattle.std.proofs.lemmas.List.{length-map}
use Rattle.band_geometry.specs.Counts.{number_of}
use Rattle.band_geometry.specs.Numbering.{all_blocks}
use Rattle.band_geometry.specs.declared.geometry.Geometry.{Geometry}
use Rattle.dz_quantiser.specs.declared.steps.StepSizes.{StepSizes}
use Rattle.packet_headers.specs.Reading.{Found, HasHeader}
use Rattle.packet_headers.specs.Words.{PacketWords, packet_of, body_of}
use Rattle.packet_headers.specs.declared.entry.Entry.{Entry}
use Rattle.packet_headers.specs.declared.packet.BandShape.{BandShape}
use Rattle.packet_headers.specs.declared.packet.Packet.{Packet}
use Rattle.packet_headers.specs.declared.packet.PacketRead.{PacketRead}
use Rattle.packet_headers.specs.declared.refusal.PacketRefusal.{PacketRefusal}
use Rattle.packet_order.specs.Blocks.{blocks_of_packet}
use Rattle.packet_order.specs.declared.packet.PacketId.{PacketId}
use Rattle.profile_reader.specs.Reads.{PacketSays}
use Rattle.profile_reader.specs.Shapes.{shapes_in}
use Rattle.profile_reader.specs.Words.{PacketWhole, entries_of}
use Rattle.codestream_reader.specs.Spans.{IsPacket, entries_in, no_span, said_of, spans_from}
use Rattle.codestream_reader.specs.Standing.{PacketStands}
use Rattle.codestream_reader.specs.declared.span.BlockSpan.{BlockSpan}
use Rattle.codestream_reader.proofs.Codes.{codes_are, lengths_of}
use Rattle.codestream_reader.proofs.Pieces.{length_part}
use Rattle.codestream_reader.proofs.Placing.{entry_len}
use Rattle.codestream_reader.proofs.Reading.{HasRoom, body_is}
use Rattle.codestream_reader.proofs.Reading.{entries_are, entries_count, stands_has}
use Rattle.codestream_reader.proofs.Saying.{packet_said, spans_by_number}

pub ok_once : {T E : Type 0} (x y : T) → ◌≡◌ {A = Result T E} (Ok x) (Ok y) → x ≡ y
ok_once x y e = cc

pub err_once : {T E : Type 0} (x y : E) → ◌≡◌ {A = Result T E} (Err x) (Err y) → x ≡ y
err_once x y e = cc

-- the entries of a packet that was read
pub entries_found : (shapes : List BandShape) (bytes : List ℕ) (found : PacketRead)
    (f : Found shapes bytes found) → entries_in found.packet.bands.items ≡ entries_of f.words
entries_found shapes bytes found f =
    ap (λ (p : Packet). entries_in p.bands.items) f.packet ∙ entries_are f.words

pub entries_enough : (g : Geometry) (steps : StepSizes) (p : PacketId) (bytes : List ℕ)
    (found : PacketRead) (numbers : List ℕ) (entries : List Entry) →
    Found (shapes_in g steps p) bytes found →
    numbers ≡ map (number_of g) (blocks_of_packet g p) →
    entries ≡ entries_in found.packet.bands.items → length entries ≡ length numbers
entries_enough g steps p bytes found numbers entries f are entries_are =
    ap (λ (es : List Entry). length es)
    (entries_are ∙ entries_found (shapes_in g steps p) bytes found f)
    ∙ entries_count g steps p f.words f.header.fits.bands
    ∙ sym (length-map (blocks_of_packet g p) (number_of g))
    ∙ sym (ap (λ (ns : List ℕ). length ns) are)

pub entries_short : (shapes : List BandShape) (bytes : List ℕ) (at stop : ℕ) (found : PacketRead)
    (entries : List Entry) → at ≤ stop → stop ≤ length bytes →
    Found shapes (slice_range bytes at stop) found →
    entries ≡ entries_in found.packet.bands.items →
    at + found.header + sum_by entry_len entries ≤ stop
entries_short shapes bytes at stop found entries order inside f are =
    let sum : sum_by entry_len entries ≡ found.body =
    ap (sum_by entry_len) (are ∙ entries_found shapes (slice_range bytes at stop) found f)
    ∙ body_is f.words ∙ sym f.body in
    let room = f.room in
    let whole = length_part bytes at stop inside in
    omega (arith, sum, room, whole, order)

pub found_inside : (shapes : List BandShape) (bytes : List ℕ) (at stop : ℕ) (found : PacketRead) →
    at ≤ stop → stop ≤ length bytes → Found shapes (slice_range bytes at stop) found →
    at + found.header + found.body ≤ stop
found_inside shapes bytes at stop found order inside f =
    let room = f.room in
    let whole = length_part bytes at stop inside in
    omega (arith, room, whole, order)

-- what the call of `read` says of each packet that stands there
abbrev pub ReadsAs : List BandShape → List ℕ → Result PacketRead PacketRefusal → Type 0
ReadsAs shapes bytes result =
    (words : PacketWords) (header : ℕ) → HasHeader shapes words bytes header →
    header + body_of words ≤ length bytes →
    result ≡ Ok (record { packet = packet_of words; header = header; body = body_of words })

pub stands_read : (shapes : List BandShape) (bytes : List ℕ) (at stop to : ℕ) (w : PacketWhole)
    (result : Result PacketRead PacketRefusal) → at ≤ stop → stop ≤ length bytes →
    ReadsAs shapes (slice_range bytes at stop) result → PacketStands shapes bytes at stop to w →
    result ≡ Ok (record {
      packet = packet_of w.words;
      header = length w.head;
      body = body_of w.words;
    })
stands_read shapes bytes at stop to w result order inside reads stands =
    let has = stands_has shapes bytes at stop to w order inside stands in
    reads w.words (length w.head) has.header has.room

pub read_says : (g : Geometry) (steps : StepSizes) (p : PacketId) (bytes : List ℕ)
    (at stop to : ℕ) (w : PacketWhole) (found : PacketRead) (numbers : List ℕ)
    (entries : List Entry) (spans : List BlockSpan) → IsPacket g p → at ≤ stop →
    stop ≤ length bytes →
    ReadsAs (shapes_in g steps p) (slice_range bytes at stop) (Ok found) →
    PacketStands (shapes_in g steps p) bytes at stop to w →
    numbers ≡ map (number_of g) (blocks_of_packet g p) →
    entries ≡ entries_in found.packet.bands.items → length spans ≡ length (all_blocks g) →
    map (λ n. get_or spans n no_span) numbers ≡ spans_from (at + found.header) entries →
    (◌≡◌ {A = Result ℕ PacketRefusal} (Ok (at + found.header + found.body)) (Ok to))
    × PacketSays g (said_of bytes spans) p w
read_says g steps p bytes at stop to w found numbers entries spans is order inside reads stands are
    entries_in_found count stand = (
      ap (λ n. Ok n) (ap (λ (r : PacketRead). at + r.header + r.body) same ∙ sym has.to_is),
      packet_said g bytes spans p w (at + length w.head) is count
          (spans_by_number g spans p numbers (spans_from (at + length w.head) (entries_of w.words))
          are (stand ∙ ap (λ n. spans_from n entries) (ap (λ (r : PacketRead). at + r.header) same)
          ∙ ap (spans_from (at + length w.head)) (entries_in_found
          ∙ ap (λ (r : PacketRead). entries_in r.packet.bands.items) same
          ∙ entries_are w.words)))
          (codes_are bytes w.codes (slice_range bytes to stop) (lengths_of (entries_of w.words))
          (at + length w.head) stop stands.fits.codes inside within has.codes),
    )
  where
    shapes : List BandShape
    shapes = shapes_in g steps p

    has : HasRoom shapes bytes at stop to w
    has = stands_has shapes bytes at stop to w order inside stands

    same : found ≡ record {
      packet = packet_of w.words;
      header = length w.head;
      body = body_of w.words;
    }
    same = ok_once {T = PacketRead} {E = PacketRefusal} found _
        (stands_read shapes bytes at stop to w (Ok found) order inside reads stands)

    within : at + length w.head ≤ stop
    within =
        let room = has.room in
        let whole = length_part bytes at stop inside in
        omega (arith, room, whole, order)
