-- The bytes of a codestream have one reading.
use Rattle.std.proofs.Common.{◌≡◌, ℕ, ◌+◌, ◌≤◌, List, length, refl}
use Rattle.std.proofs.Common.{ap, sym, subst, ◌∙◌, arith}
use Rattle.std.specs.Prelude.{sum}
use Rattle.std.specs.List.{All}
use Rattle.std.proofs.lemmas.Option.{slice_get_within, get_or_from_slice_get}
use Rattle.band_geometry.specs.Bands.{IsBlock}
use Rattle.band_geometry.specs.Numbering.{all_blocks}
use Rattle.band_geometry.specs.declared.geometry.Geometry.{Geometry}
use Rattle.band_geometry.specs.declared.places.BlockId.{BlockId}
use Rattle.cinema_markers.specs.Words.{HasMain}
use Rattle.cinema_markers.specs.declared.header.MainHeader.{MainHeader}
use Rattle.cinema_markers.specs.declared.header.MainRead.{MainRead}
use Rattle.dz_quantiser.specs.Bands.{band_planes, planes_of}
use Rattle.dz_quantiser.specs.declared.band.BandStep.{BandStep}
use Rattle.profile_reader.specs.Packets.{BlockBytes}
use Rattle.profile_reader.specs.Reads.{Stream, IsGeometryOfHeader, Reads}
use Rattle.profile_reader.specs.Reads.{Decoding, BlockMeans, PartsSay, block_in, read_in, cells_of}
use Rattle.profile_reader.specs.Spelled.{SaidOnce, OneDecoding}
use Rattle.codestream_reader.specs.Standing.{PartsStand}
use Rattle.codestream_reader.specs.Faults.{ManyPlanes}
use Rattle.codestream_reader.proofs.Streams.{has_main, header_once, main_read, stream_stands}

-- Two decodings of the same bytes, of which the same is said of each code-block.

MeansAt : List BlockBytes → Decoding → Geometry → MainHeader → Type 0
MeansAt blocks d g m =
    (b : BlockId) → IsBlock g b → BlockMeans g (band_planes m.steps b.res b.orient) b
    (block_in g blocks b) (read_in g d b) (cells_of g d b)

pub same_decoding : (bytes : List ℕ) (d e : Decoding) (said : List BlockBytes) → SaidOnce →
    OneDecoding → (r : Reads bytes d) (q : Reads bytes e) → r.stream.main ≡ q.stream.main →
    PartsSay r.stream.geometry said 0 r.stream.parts →
    PartsSay q.stream.geometry said 0 q.stream.parts → d ≡ e
unfolding MeansAt
same_decoding bytes d e said once decoding r q main says also =
    decoding bytes bytes d e r other refl
  where
    s : Stream
    s = r.stream

    geometry : q.stream.geometry ≡ s.geometry
    geometry = header_once q.stream.main s.main q.stream.geometry s.geometry
        q.fits.geometry r.fits.geometry (sym main)

    means_said : MeansAt said e q.stream.geometry q.stream.main
    means_said b is =
        subst (λ (x : BlockBytes). BlockMeans q.stream.geometry
        (band_planes q.stream.main.steps b.res b.orient) b x (read_in q.stream.geometry e b)
        (cells_of q.stream.geometry e b))
        (once q.stream q.blocks said q.fits q.says also b is) (q.means b is)

    means_here : MeansAt said e s.geometry s.main
    means_here = subst (λ (m : MainHeader). MeansAt said e s.geometry m) (sym main)
        (subst (λ (g : Geometry). MeansAt said e g q.stream.main) geometry means_said)

    other : Reads bytes e
    other = record {
      stream = s;
      fits = r.fits;
      spelled = r.spelled;
      main = q.main ∙ sym main;
      blocks = r.blocks;
      count = r.count;
      says = r.says;
      counted = q.counted ∙ ap (λ (g : Geometry). length (all_blocks g)) geometry;
      means = λ b is.
          subst (λ (x : BlockBytes). BlockMeans s.geometry
          (band_planes s.main.steps b.res b.orient) b x (read_in s.geometry e b)
          (cells_of s.geometry e b))
          (sym (once s r.blocks said r.fits r.says says b is)) (means_here b is);
      components = q.components;
      sizes = q.sizes;
    }

-- What was read of a main header, of whatever bytes mean something.

pub read_is : (bytes : List ℕ) (read : MainRead) (d : Decoding) (r : Reads bytes d) →
    ((other : MainRead) → HasMain bytes other → read ≡ other) → read ≡ main_read r.stream
read_is bytes read d r only =
    only (main_read r.stream) (has_main bytes r.stream r.fits r.spelled)

pub main_is : (bytes : List ℕ) (read : MainRead) (d : Decoding) (r : Reads bytes d) →
    ((other : MainRead) → HasMain bytes other → read ≡ other) → read.main ≡ r.stream.main
unfolding main_read
main_is bytes read d r only = ap (λ (k : MainRead). k.main) (read_is bytes read d r only)

pub geometry_is : (bytes : List ℕ) (read : MainRead) (g : Geometry) (d : Decoding)
    (r : Reads bytes d) → ((other : MainRead) → HasMain bytes other → read ≡ other) →
    IsGeometryOfHeader read.main g → g ≡ r.stream.geometry
geometry_is bytes read g d r only of =
    header_once read.main r.stream.main g r.stream.geometry of r.fits.geometry
    (main_is bytes read d r only)

-- its tile-parts stand there
pub reads_stand : (bytes : List ℕ) (read : MainRead) (g : Geometry) (d : Decoding)
    (r : Reads bytes d) → ((other : MainRead) → HasMain bytes other → read ≡ other) →
    IsGeometryOfHeader read.main g →
    PartsStand g read.main.steps bytes read.bytes (read.bytes + sum read.main.parts.items) 0
    (length read.main.parts.items) read.main.parts.items r.stream.parts
reads_stand bytes read g d r only of =
    stream_stands bytes r.stream read g r.fits r.spelled (read_is bytes read d r only)
    (geometry_is bytes read g d r only of)

-- and two meanings of the bytes of which the same is said are one
pub one_meaning : (bytes : List ℕ) (read : MainRead) (g : Geometry) (said : List BlockBytes)
    (d e : Decoding) → SaidOnce → OneDecoding → (r : Reads bytes d) (q : Reads bytes e) →
    ((other : MainRead) → HasMain bytes other → read ≡ other) → IsGeometryOfHeader read.main g →
    PartsSay g said 0 r.stream.parts → PartsSay g said 0 q.stream.parts → d ≡ e
one_meaning bytes read g said d e once decoding r q only of says also =
    same_decoding bytes d e said once decoding r q
    (sym (main_is bytes read d r only) ∙ main_is bytes read e q only)
    (subst (λ (h : Geometry). PartsSay h said 0 r.stream.parts)
    (geometry_is bytes read g d r only of) says)
    (subst (λ (h : Geometry). PartsSay h said 0 q.stream.parts)
    (geometry_is bytes read g e q only of) also)

-- no band of what has a meaning has too many bit-planes
pub few_planes : (bytes : List ℕ) (read : MainRead) (d : Decoding) (r : Reads bytes d) →
    ((other : MainRead) → HasMain bytes other → read ≡ other) → (band : ℕ) →
    ManyPlanes read.main.steps band → ⊥
few_planes bytes read d r only band many =
    let few : All (λ step. planes_of read.main.steps.guard step.exponent ≤ 31)
    read.main.steps.bands.items =
    subst (λ (m : MainHeader). All (λ step. planes_of m.steps.guard step.exponent ≤ 31)
    m.steps.bands.items) (sym (main_is bytes read d r only)) r.fits.few_planes in
    let within = slice_get_within read.main.steps.bands.items band many.step many.step_is in
    let here = subst (λ (s : BandStep). planes_of read.main.steps.guard s.exponent ≤ 31)
    (get_or_from_slice_get read.main.steps.bands.items band many.step many.step many.step_is)
    (few band many.step within) in
    let more = many.many in
    omega (arith, here, more)
