-- One code-block that is decoded, and one more after those before.
use Rattle.std.proofs.Common.{◌≡◌, ℕ, zero, suc, ◌<◌, List, [], ◌∷◌, length, map, get_or, set}
use Rattle.std.proofs.Common.{refl, sym, ap, subst, ◌∙◌, arith, Some, inl, inr}
use Rattle.std.specs.Prelude.{slice_get}
use Rattle.std.proofs.lemmas.Bool.{cases_lt}
use Rattle.std.proofs.lemmas.List.{get_or-map, get_or-set_same, get_or-set_other, map-set}
use Rattle.std.proofs.lemmas.List.{length-map}
use Rattle.std.proofs.lemmas.Option.{slice_get_within}
use Rattle.band_geometry.specs.Bands.{IsBlock, block_of}
use Rattle.band_geometry.specs.Counts.{number_of}
use Rattle.band_geometry.specs.Numbering.{all_blocks}
use Rattle.band_geometry.specs.declared.geometry.Geometry.{Geometry}
use Rattle.band_geometry.specs.declared.places.BlockId.{BlockId}
use Rattle.band_geometry.specs.declared.places.Rect.{Rect}
use Rattle.band_geometry.proofs.NumberLemmas.{listed_at_number, number_of-listed}
use Rattle.codeblock_views.specs.KnownCells.{zero_known}
use Rattle.codeblock_views.specs.Rectangles.{cells_in}
use Rattle.codeblock_views.specs.declared.known.Known.{Known}
use Rattle.codestream_reader.specs.Spans.{said, said_of}
use Rattle.codestream_reader.specs.declared.span.BlockSpan.{BlockSpan}
use Rattle.codestream_reader.specs.declared.stream.StreamSpans.{StreamSpans}
use Rattle.dz_quantiser.specs.Bands.{band_planes}
use Rattle.dz_quantiser.specs.declared.steps.StepSizes.{StepSizes}
use Rattle.profile_reader.specs.Packets.{BlockBytes, left_out}
use Rattle.profile_reader.specs.Reads.{BlockRead as Read, BlockMeans, block_in, nothing_read}
use Rattle.frame_reader.specs.Blocks.{AreDecodedBelow, BlockFits, CanDecode, cells_at, read_of}
use Rattle.frame_reader.specs.declared.decoded.BlockRead.{BlockRead}

-- what is said of a block, by its span
pub said_at : (g : Geometry) (bytes : List ℕ) (spans : List BlockSpan) (b : BlockId) (n : ℕ)
    (span : BlockSpan) → number_of g b ≡ n → n < length spans → span ≡ get_or spans n span →
    said bytes span ≡ block_in g (said_of bytes spans) b
said_at g bytes spans b n span number within is =
    ap (said bytes) is ∙ sym (get_or-map (said bytes) spans n span left_out within)
    ∙ ap (λ m. get_or (said_of bytes spans) m left_out) (sym number)

-- the meaning of a block, in the plane of its component
pub means_at : (g : Geometry) (steps : StepSizes) (b : BlockId) (written other : BlockBytes)
    (read : Read) (planes : List (List Known)) (cells : List Known) → written ≡ other →
    get_or planes b.component [] ≡ cells →
    BlockMeans g (band_planes steps b.res b.orient) b written read
    (cells_in zero_known g.width (block_of g b) cells) →
    BlockMeans g (band_planes steps b.res b.orient) b other read (cells_at g planes b)
means_at g steps b written other read planes cells same is means =
    subst (λ (w : BlockBytes). BlockMeans g (band_planes steps b.res b.orient) b w read
    (cells_at g planes b)) same
    (subst (λ (l : List Known). BlockMeans g (band_planes steps b.res b.orient) b written read
    (cells_in zero_known g.width (block_of g b) l)) (sym is) means)

-- the block of a number
pub numbered : (g : Geometry) (n : ℕ) (a b : BlockId) → slice_get (all_blocks g) n ≡ Some a →
    slice_get (all_blocks g) n ≡ Some b → a ≡ b
numbered g n a b here there = some_once (sym here ∙ there)
  where
    some_once : Some a ≡ Some b → a ≡ b
    some_once e = cc

-- the span of the block of a number

abbrev AtNumber : List ℕ → StreamSpans → ℕ → BlockId → BlockSpan → Type 0
AtNumber bytes found n b span =
    said bytes span ≡ block_in found.geometry (said_of bytes found.spans.items) b

at_number : (bytes : List ℕ) (found : StreamSpans) (n : ℕ) (b : BlockId) (span : BlockSpan) →
    CanDecode bytes found → slice_get (all_blocks found.geometry) n ≡ Some b →
    span ≡ get_or found.spans.items n span → AtNumber bytes found n b span
at_number bytes found n b span can there is =
    said_at found.geometry bytes found.spans.items b n span
    (number_of-listed found.geometry n b there)
    (subst (λ m. n < m) (sym can.count) (slice_get_within (all_blocks found.geometry) n b there)) is

pub span_fits : (bytes : List ℕ) (found : StreamSpans) (n : ℕ) (b : BlockId) (span : BlockSpan) →
    CanDecode bytes found → slice_get (all_blocks found.geometry) n ≡ Some b →
    IsBlock found.geometry b → span ≡ get_or found.spans.items n span →
    BlockFits (band_planes found.read.main.steps b.res b.orient) (said bytes span)
span_fits bytes found n b span can there block is =
    subst (λ (w : BlockBytes). BlockFits (band_planes found.read.main.steps b.res b.orient) w)
    (sym (at_number bytes found n b span can there is)) (can.fit b block)

pub span_means : (bytes : List ℕ) (found : StreamSpans) (n : ℕ) (a b : BlockId) (span : BlockSpan)
    (read : BlockRead) (planes : List (List Known)) (cells : List Known) → CanDecode bytes found →
    slice_get (all_blocks found.geometry) n ≡ Some a →
    slice_get (all_blocks found.geometry) n ≡ Some b → span ≡ get_or found.spans.items n span →
    get_or planes a.component [] ≡ cells →
    BlockMeans found.geometry (band_planes found.read.main.steps a.res a.orient) a
    (said bytes span) (read_of read)
    (cells_in zero_known found.geometry.width (block_of found.geometry a) cells) →
    BlockMeans found.geometry (band_planes found.read.main.steps b.res b.orient) b
    (block_in found.geometry (said_of bytes found.spans.items) b) (read_of read)
    (cells_at found.geometry planes b)
span_means bytes found n a b span read planes cells can here there is plane means =
    let g = found.geometry in
    subst (λ (k : BlockId). BlockMeans g (band_planes found.read.main.steps k.res k.orient) k
    (block_in g (said_of bytes found.spans.items) k) (read_of read) (cells_at g planes k))
    (numbered g n a b here there)
    (means_at g found.read.main.steps a (said bytes span)
    (block_in g (said_of bytes found.spans.items) a) (read_of read) planes cells
    (at_number bytes found n a span can here is) plane means)

-- a block of another number is another
pub not_numbered : (g : Geometry) (n : ℕ) (a b : BlockId) →
    slice_get (all_blocks g) n ≡ Some a → (number_of g b ≡ n → ⊥) → b ≡ a → ⊥
not_numbered g n a b here other same =
    other (ap (number_of g) same ∙ number_of-listed g n a here)

-- the cells of a block where one of the planes is another

pub kept_first : (width : ℕ) (r : Rect) (c : ℕ) (new old c1 c2 : List Known) →
    (c ≡ 0 → cells_in zero_known width r new ≡ cells_in zero_known width r old) →
    cells_in zero_known width r (get_or (new ∷ c1 ∷ c2 ∷ []) c [])
    ≡ cells_in zero_known width r (get_or (old ∷ c1 ∷ c2 ∷ []) c [])
kept_first width r zero new old c1 c2 stay = stay refl
kept_first width r (suc c) new old c1 c2 stay = refl

pub kept_second : (width : ℕ) (r : Rect) (c : ℕ) (new old c0 c2 : List Known) →
    (c ≡ 1 → cells_in zero_known width r new ≡ cells_in zero_known width r old) →
    cells_in zero_known width r (get_or (c0 ∷ new ∷ c2 ∷ []) c [])
    ≡ cells_in zero_known width r (get_or (c0 ∷ old ∷ c2 ∷ []) c [])
kept_second width r zero new old c0 c2 stay = refl
kept_second width r (suc zero) new old c0 c2 stay = stay refl
kept_second width r (suc (suc c)) new old c0 c2 stay = refl

pub kept_third : (width : ℕ) (r : Rect) (c : ℕ) (new old c0 c1 : List Known) →
    (c ≡ 2 → cells_in zero_known width r new ≡ cells_in zero_known width r old) →
    cells_in zero_known width r (get_or (c0 ∷ c1 ∷ new ∷ []) c [])
    ≡ cells_in zero_known width r (get_or (c0 ∷ c1 ∷ old ∷ []) c [])
kept_third width r zero new old c0 c1 stay = refl
kept_third width r (suc zero) new old c0 c1 stay = refl
kept_third width r (suc (suc zero)) new old c0 c1 stay = stay refl
kept_third width r (suc (suc (suc c))) new old c0 c1 stay = refl

-- one block more is decoded

pub decoded_more : (n : ℕ) (bytes : List ℕ) (found : StreamSpans) (old new : List BlockRead)
    (before after : List (List Known)) (read : BlockRead) →
    n < length old → new ≡ set old n read →
    ((b : BlockId) → slice_get (all_blocks found.geometry) n ≡ Some b →
    BlockMeans found.geometry (band_planes found.read.main.steps b.res b.orient) b
    (block_in found.geometry (said_of bytes found.spans.items) b) (read_of read)
    (cells_at found.geometry after b)) →
    ((b : BlockId) → IsBlock found.geometry b → (number_of found.geometry b ≡ n → ⊥) →
    cells_at found.geometry after b ≡ cells_at found.geometry before b) →
    AreDecodedBelow n bytes found old before → AreDecodedBelow (suc n) bytes found new after
decoded_more n bytes found old new before after read within is means others decoded = record {
  means = λ b block below. subst (λ (r : Read). Means b r) (sym (is_read b)) (by b block below);
}
  where
    g : Geometry
    g = found.geometry

    Means : BlockId → Read → Type 0
    Means b r = BlockMeans g (band_planes found.read.main.steps b.res b.orient) b
        (block_in g (said_of bytes found.spans.items) b) r (cells_at g after b)

    is_read : (b : BlockId) → get_or (map read_of new) (number_of g b) nothing_read
        ≡ get_or (set (map read_of old) n (read_of read)) (number_of g b) nothing_read
    is_read b = ap (λ (l : List Read). get_or l (number_of g b) nothing_read)
        (ap (map read_of) is ∙ map-set read_of old n read)

    earlier : (b : BlockId) → IsBlock g b → number_of g b < n →
        Means b (get_or (set (map read_of old) n (read_of read)) (number_of g b) nothing_read)
    earlier b block less =
        let apart : number_of g b ≡ n → ⊥ = λ same. omega (arith, less, same) in
        subst (λ (r : Read). Means b r)
        (sym (get_or-set_other (map read_of old) n (number_of g b) (read_of read) nothing_read
        apart))
        (subst (λ (cells : List Known). BlockMeans g
        (band_planes found.read.main.steps b.res b.orient) b
        (block_in g (said_of bytes found.spans.items) b)
        (get_or (map read_of old) (number_of g b) nothing_read) cells)
        (sym (others b block apart)) (decoded.means b block less))

    this : (b : BlockId) → IsBlock g b → number_of g b ≡ n →
        Means b (get_or (set (map read_of old) n (read_of read)) (number_of g b) nothing_read)
    this b block same =
        let there : slice_get (all_blocks g) n ≡ Some b =
        ap (slice_get (all_blocks g)) (sym same) ∙ listed_at_number g b block in
        let inside : n < length (map read_of old) =
        subst (λ m. n < m) (sym (length-map old read_of)) within in
        subst (λ (r : Read). Means b r)
        (sym (ap (λ m. get_or (set (map read_of old) n (read_of read)) m nothing_read) same
        ∙ get_or-set_same (map read_of old) n (read_of read) nothing_read inside))
        (means b there)

    by : (b : BlockId) → IsBlock g b → number_of g b < suc n →
        Means b (get_or (set (map read_of old) n (read_of read)) (number_of g b) nothing_read)
    by b block below = elim (cases_lt (number_of g b) n) [
      | inl less ↦ earlier b block less
      | inr more ↦ this b block (omega (arith, below, more))
    ]

-- and none before the first
pub none_decoded : (bytes : List ℕ) (found : StreamSpans) (blocks : List BlockRead)
    (planes : List (List Known)) → AreDecodedBelow 0 bytes found blocks planes
none_decoded bytes found blocks planes = record {
  means = λ b is below. absurd (omega (arith, below));
}

-- the plane of a component

pub at_first : (c : ℕ) (c0 c1 c2 : List Known) → c ≡ 0 → get_or (c0 ∷ c1 ∷ c2 ∷ []) c [] ≡ c0
at_first c c0 c1 c2 is = ap (λ k. get_or (c0 ∷ c1 ∷ c2 ∷ []) k []) is

pub at_second : (c : ℕ) (c0 c1 c2 : List Known) → c ≡ 1 → get_or (c0 ∷ c1 ∷ c2 ∷ []) c [] ≡ c1
at_second c c0 c1 c2 is = ap (λ k. get_or (c0 ∷ c1 ∷ c2 ∷ []) k []) is

pub at_third : (c : ℕ) (c0 c1 c2 : List Known) → c ≡ 2 → get_or (c0 ∷ c1 ∷ c2 ∷ []) c [] ≡ c2
at_third c c0 c1 c2 is = ap (λ k. get_or (c0 ∷ c1 ∷ c2 ∷ []) k []) is
