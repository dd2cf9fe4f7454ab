-- What was decoded of a codestream is the meaning of its bytes, and the only one.
use Rattle.std.proofs.Common.{◌≡◌, ℕ, zero, suc, ◌+◌, ◌-◌, ◌*◌, ◌<◌, List, [], ◌++◌, length}
use Rattle.std.proofs.Common.{get_or, refl, sym, ap, subst, ◌∙◌, arith, Ok, Err, Result}
use Rattle.std.proofs.Common.{length-append}
use Rattle.std.specs.Prelude.{IfOk, IfErr, MatchResult, sum}
use Rattle.std.proofs.lemmas.List.{length-map}
use Rattle.band_geometry.specs.Bands.{IsBlock}
use Rattle.band_geometry.specs.Numbering.{all_blocks}
use Rattle.band_geometry.specs.declared.geometry.Geometry.{Geometry}
use Rattle.band_geometry.specs.declared.places.BlockId.{BlockId}
use Rattle.budget_duals.specs.Held.{held_of, limits_of, IsWithin}
use Rattle.budget_duals.specs.declared.held.Held.{Held}
use Rattle.cinema_markers.specs.Words.{main_words}
use Rattle.cinema_markers.specs.declared.header.MainHeader.{MainHeader}
use Rattle.codestream_reader.specs.Spans.{said_of, AreReadable}
use Rattle.codestream_reader.specs.Whole.{IsFound, IsStream, stream_held}
use Rattle.codestream_reader.specs.declared.stream.StreamSpans.{StreamSpans}
use Rattle.codestream_reader.proofs.OneReading.{same_decoding}
use Rattle.codestream_reader.proofs.Saying.{number_within}
use Rattle.codestream_reader.proofs.Streams.{has_main, main_read, parts_length, readable}
use Rattle.dz_quantiser.specs.Bands.{band_planes}
use Rattle.profile_reader.specs.Packets.{BlockBytes}
use Rattle.profile_reader.specs.Reads.{Decoding, Reads, Stream, StreamFits, BlockMeans, block_in}
use Rattle.profile_reader.specs.Reads.{read_in, cells_of, stream_bytes}
use Rattle.profile_reader.specs.Spelled.{SaidOnce, OneDecoding}
use Rattle.profile_reader.specs.Words.{parts_bytes}
use Rattle.tile_parts.specs.Head.{eoc}
use Rattle.frame_reader.specs.Blocks.{BlockFits, CanDecode, read_of}
use Rattle.frame_reader.specs.Decoded.{HaveSides, IsDecodedOf, IsMeaning, decoding_of}
use Rattle.frame_reader.specs.Decoded.{held_from}
use Rattle.frame_reader.specs.declared.decoded.Decoded.{Decoded}
use Rattle.frame_reader.proofs.Fitting.{said_fits}

-- what was found can be decoded

Fit : List BlockBytes → Geometry → MainHeader → Type 0
Fit said g m =
    (b : BlockId) → IsBlock g b → BlockFits (band_planes m.steps b.res b.orient) (block_in g said b)

pub can_decode : (bytes : List ℕ) (s : Stream) (found : StreamSpans) → IsStream bytes s →
    IsFound bytes s found → CanDecode bytes found
unfolding Fit main_read
can_decode bytes s found is of = record {
  steps = steps;
  count = of.count ∙ ap (λ (g : Geometry). length (all_blocks g)) (sym of.geometry);
  fit = subst (λ (m : MainHeader). Fit said found.geometry m) (sym of.main)
      (subst (λ (g : Geometry). Fit said g s.main) (sym of.geometry)
      (said_fits s said is.fits of.says));
}
  where
    said : List BlockBytes
    said = said_of bytes found.spans.items

    here : AreReadable s.main.levels s.main.steps
    here = readable bytes (main_read s) (has_main bytes s is.fits is.spelled) is.fits.few_planes

    steps : AreReadable found.geometry.levels found.read.main.steps
    steps = subst (λ (m : MainHeader). AreReadable found.geometry.levels m.steps) (sym of.main)
        (subst (λ n. AreReadable n s.main.steps)
        (sym (ap (λ (g : Geometry). g.levels) of.geometry ∙ is.fits.geometry.levels)) here)

-- the sides of its planes

pub have_sides : (bytes : List ℕ) (s : Stream) (found : StreamSpans) (d : Decoded) →
    IsStream bytes s → IsFound bytes s found → IsDecodedOf bytes found d → HaveSides d
have_sides bytes s found d is of decoded = record {
  width0 = decoded.width0 ∙ width;
  width1 = decoded.width1 ∙ width;
  width2 = decoded.width2 ∙ width;
  height0 = decoded.height0 ∙ height;
  height1 = decoded.height1 ∙ height;
  height2 = decoded.height2 ∙ height;
}
  where
    main : s.main ≡ d.main
    main = sym of.main ∙ sym decoded.main

    width : found.geometry.width ≡ d.main.width
    width = ap (λ (g : Geometry). g.width) of.geometry ∙ is.fits.geometry.width
        ∙ ap (λ (m : MainHeader). m.width) main

    height : found.geometry.height ≡ d.main.height
    height = ap (λ (g : Geometry). g.height) of.geometry ∙ is.fits.geometry.height
        ∙ ap (λ (m : MainHeader). m.height) main

-- it is a meaning

MeansAll : List BlockBytes → Decoding → Geometry → MainHeader → Type 0
MeansAll said d g m =
    (b : BlockId) → IsBlock g b → BlockMeans g (band_planes m.steps b.res b.orient) b
    (block_in g said b) (read_in g d b) (cells_of g d b)

means_all : (bytes : List ℕ) (found : StreamSpans) (d : Decoded) → IsDecodedOf bytes found d →
    MeansAll (said_of bytes found.spans.items) (decoding_of d) found.geometry found.read.main
unfolding MeansAll
means_all bytes found d decoded b is =
    decoded.blocks.means b is (number_within found.geometry b is)

sizes : (d : Decoded) → HaveSides d → (c : ℕ) → c < 3 →
    length (get_or (decoding_of d).planes c []) ≡ d.main.height * d.main.width
sizes d have zero below =
    d.c0.whole ∙ ap (λ n. n * d.c0.width) have.height0 ∙ ap (λ n. d.main.height * n) have.width0
sizes d have (suc zero) below =
    d.c1.whole ∙ ap (λ n. n * d.c1.width) have.height1 ∙ ap (λ n. d.main.height * n) have.width1
sizes d have (suc (suc zero)) below =
    d.c2.whole ∙ ap (λ n. n * d.c2.width) have.height2 ∙ ap (λ n. d.main.height * n) have.width2
sizes d have (suc (suc (suc c))) below = absurd (omega (arith, below))

unfoldable reads_of : (bytes : List ℕ) (s : Stream) (found : StreamSpans) (d : Decoded) →
    IsStream bytes s → IsFound bytes s found → IsDecodedOf bytes found d →
    Reads bytes (decoding_of d)
unfolding MeansAll
reads_of bytes s found d is of decoded = record {
  stream = s;
  fits = is.fits;
  spelled = is.spelled;
  main = decoded.main ∙ of.main;
  blocks = said_of bytes found.spans.items;
  count = length-map found.spans.items _ ∙ of.count;
  says = of.says;
  counted = length-map d.blocks.items read_of ∙ decoded.count
      ∙ ap (λ (g : Geometry). length (all_blocks g)) of.geometry;
  means = subst (λ (m : MainHeader). MeansAll (said_of bytes found.spans.items) (decoding_of d)
      s.geometry m) of.main
      (subst (λ (g : Geometry). MeansAll (said_of bytes found.spans.items) (decoding_of d) g
      found.read.main) of.geometry (means_all bytes found d decoded));
  components = refl;
  sizes = sizes d (have_sides bytes s found d is of decoded);
}

-- what it holds

held_words : (bytes : List ℕ) (s : Stream) → StreamFits s → bytes ≡ stream_bytes s →
    length (main_words s.main s.words) ≡ length bytes - (sum s.main.parts.items + 2)
held_words bytes s fits spelled =
    let sizes = s.main.parts.items in
    let head = main_words s.main s.words in
    let parts = parts_bytes 0 s.parts in
    let whole : length bytes ≡ length head + (length parts + length eoc) =
    ap (λ (l : List ℕ). length l) spelled ∙ length-append head (parts ++ eoc)
    ∙ ap (λ n. length head + n) (length-append parts eoc) in
    let counted : length parts ≡ sum sizes =
    parts_length s.geometry s.main.steps 0 (length sizes) sizes s.parts fits.parts in
    omega (arith, whole, counted)

pub held_is : (bytes : List ℕ) (s : Stream) → IsStream bytes s →
    stream_held s ≡ held_from bytes s.main
held_is bytes s is =
    ap (λ n. held_of s.main.profile n s.main.parts.items) (held_words bytes s is.fits is.spelled)

pub held_there : (bytes : List ℕ) (s : Stream) (found : StreamSpans) (d : Decoded) →
    IsStream bytes s → IsFound bytes s found → IsDecodedOf bytes found d →
    d.held ≡ held_from bytes d.main
held_there bytes s found d is of decoded =
    decoded.held ∙ of.held ∙ held_is bytes s is
    ∙ ap (held_from bytes) (sym (decoded.main ∙ of.main))

pub meaning : (bytes : List ℕ) (s : Stream) (found : StreamSpans) (d : Decoded) →
    IsStream bytes s → IsFound bytes s found → IsDecodedOf bytes found d →
    IsMeaning bytes (decoding_of d)
meaning bytes s found d is of decoded = record {
  reads = reads_of bytes s found d is of decoded;
  within = subst (λ (m : MainHeader). IsWithin (limits_of m.profile) (held_from bytes m))
      (sym (decoded.main ∙ of.main))
      (subst (λ (h : Held). IsWithin (limits_of s.main.profile) h) (held_is bytes s is)
      is.within);
}

-- and the only one

pub stream_of : (bytes : List ℕ) (e : Decoding) (m : IsMeaning bytes e) →
    IsStream bytes m.reads.stream
stream_of bytes e m =
    let s = m.reads.stream in
    record {
      fits = m.reads.fits;
      spelled = m.reads.spelled;
      within = subst (λ (h : Held). IsWithin (limits_of s.main.profile) h)
          (sym (ap (λ n. held_of s.main.profile n s.main.parts.items)
          (held_words bytes s m.reads.fits m.reads.spelled)))
          (subst (λ (k : MainHeader). IsWithin (limits_of k.profile) (held_from bytes k))
          m.reads.main m.within);
    }

pub only_meaning : (bytes : List ℕ) (s : Stream) (found : StreamSpans) (d : Decoded)
    (e : Decoding) → SaidOnce → OneDecoding → IsStream bytes s → IsFound bytes s found →
    IsDecodedOf bytes found d → (m : IsMeaning bytes e) → IsFound bytes m.reads.stream found →
    decoding_of d ≡ e
unfolding reads_of
only_meaning bytes s found d e once decoding is of decoded m also =
    same_decoding bytes (decoding_of d) e (said_of bytes found.spans.items) once decoding
    (reads_of bytes s found d is of decoded) m.reads (sym of.main ∙ also.main) of.says also.says

-- results

pub ok_weaker : {T E : Type 0} (r : Result T E) (P Q : T → Type 0) → ((x : T) → P x → Q x) →
    IfOk r P → IfOk r Q
ok_weaker (Ok x) P Q f h = f x h
ok_weaker (Err e) P Q f h = tt

pub either_way : {T E : Type 0} (r : Result T E) (P : T → Type 0) (Q : E → Type 0) → IfOk r P →
    IfErr r Q → MatchResult r P Q
either_way (Ok x) P Q ok err = ok
either_way (Err e) P Q ok err = err
