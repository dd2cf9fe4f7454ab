-- What is known of a codestream whose main header was read: the words of any codestream that stands
-- there, and any fault that the bytes have.
use Rattle.std.proofs.Common.{◌≡◌, ℕ, zero, suc, ◌+◌, ◌≤◌, ◌<◌, List, ◌∷◌, ◌++◌, length, drop, refl}
use Rattle.std.proofs.Common.{ap, sym, subst, ◌∙◌, arith, length-append, inl, inr}
use Rattle.std.specs.Prelude.{sum}
use Rattle.std.proofs.lemmas.Bool.{cases_lt}
use Rattle.std.proofs.lemmas.List.{drop_at, get_or-take, length-take-le}
use Rattle.std.proofs.lemmas.Option.{slice_get_within, get_or_from_slice_get}
use Rattle.band_geometry.specs.declared.geometry.Geometry.{Geometry}
use Rattle.budget_duals.specs.Held.{held_of, limits_of, place_of, IsWithin}
use Rattle.budget_duals.specs.Held.{IsOutermostBroken}
use Rattle.budget_duals.specs.declared.held.Held.{Held}
use Rattle.budget_duals.specs.declared.limits.Limits.{Limits}
use Rattle.cine_nums.specs.Limits.{frame_limit}
use Rattle.cine_nums.specs.declared.budget.Budget.{Budget}
use Rattle.cine_nums.specs.declared.budget.Budget.TheVariants.{Frame, Inner, C0, C1, C2}
use Rattle.cinema_markers.specs.Reading.{HasFault as HasMainFault}
use Rattle.cinema_markers.specs.Words.{HasMain, main_words}
use Rattle.cinema_markers.specs.declared.header.MainHeader.{MainHeader}
use Rattle.cinema_markers.specs.declared.header.MainRead.{MainRead}
use Rattle.cinema_markers.specs.declared.refusal.MarkerRefusal.{MarkerRefusal}
use Rattle.dz_quantiser.specs.Bands.{planes_of}
use Rattle.dz_quantiser.specs.declared.band.BandStep.{BandStep}
use Rattle.dz_quantiser.specs.declared.steps.StepSizes.{StepSizes}
use Rattle.profile_reader.specs.Reads.{Stream, StreamFits, stream_bytes, IsGeometryOfHeader}
use Rattle.profile_reader.specs.Words.{PartWhole, parts_bytes}
use Rattle.tile_parts.specs.Head.{eoc}
use Rattle.codestream_reader.specs.Faults.{ManyPlanes, LaterFault, EarlyFault, HasFault}
use Rattle.codestream_reader.specs.Faults.EarlyFault.{of_frame, of_main, of_planes}
use Rattle.codestream_reader.specs.Faults.HasFault.{of_early, of_later}
use Rattle.codestream_reader.specs.Whole.{HaveFewPlanes, IsStream, RestStands, stream_held}
use Rattle.codestream_reader.specs.declared.refusal.ReadRefusal.{ReadRefusal}
use Rattle.codestream_reader.specs.declared.refusal.ReadRefusal.TheVariants.{Main, TooManyPlanes}
use Rattle.codestream_reader.specs.declared.refusal.ReadRefusal.TheVariants.{LimitExceeded}
use Rattle.codestream_reader.proofs.Streams.{has_main, header_once, main_read, parts_length}
use Rattle.codestream_reader.proofs.Streams.{stream_end, stream_stands}

-- bands of few bit-planes have no band of many
pub few_not_many : (steps : StepSizes) (band : ℕ) → HaveFewPlanes steps → ManyPlanes steps band → ⊥
few_not_many steps band few many =
    let within = slice_get_within steps.bands.items band many.step many.step_is in
    let here = subst (λ (s : BandStep). planes_of steps.guard s.exponent ≤ 31)
    (get_or_from_slice_get steps.bands.items band many.step many.step many.step_is)
    (few band many.step within) in
    let more = many.many in
    omega (arith, here, more)

-- and the first band of many is one
not_before : (steps : StepSizes) (band other : ℕ) → ManyPlanes steps band →
    ManyPlanes steps other → band < other → ⊥
not_before steps band other many also less =
    let items = steps.bands.items in
    let within = slice_get_within items band many.step many.step_is in
    let further = slice_get_within items other also.step also.step_is in
    let counted = length-take-le other items (omega (arith, further)) in
    let here = subst (λ (s : BandStep). planes_of steps.guard s.exponent ≤ 31)
    (get_or-take other items band many.step less
    ∙ get_or_from_slice_get items band many.step many.step many.step_is)
    (also.few_before band many.step (omega (arith, less, counted))) in
    let more = many.many in
    omega (arith, here, more)

many_once : (steps : StepSizes) (band other : ℕ) → ManyPlanes steps band →
    ManyPlanes steps other → band ≡ other
many_once steps band other many also = elim (cases_lt band other) [
  | inl less ↦ absurd (not_before steps band other many also less)
  | inr more ↦ elim (cases_lt other band) [
    | inl less ↦ absurd (not_before steps other band also many less)
    | inr also_more ↦ omega (arith, more, also_more)
  ]
]

-- a budget is named by its place

budget_at : ℕ → Budget
budget_at zero = Frame
budget_at (suc zero) = Inner
budget_at (suc (suc zero)) = C0
budget_at (suc (suc (suc zero))) = C1
budget_at (suc (suc (suc (suc _)))) = C2

placed : (a : Budget) → budget_at (place_of a) ≡ a
unfolding budget_at
placed Frame = refl
placed Inner = refl
placed C0 = refl
placed C1 = refl
placed C2 = refl

pub outermost_once : (l : Limits) (h : Held) (a b : Budget) → IsOutermostBroken l h a →
    IsOutermostBroken l h b → a ≡ b
outermost_once l h a b first second =
    let one = first.outermost b second.broken in
    let two = second.outermost a first.broken in
    sym (placed a)
    ∙ ap budget_at (let e : place_of a ≡ place_of b = omega (arith, one, two) in e) ∙ placed b

-- The codestream that tile-parts make after a main header.

unfoldable pub made : (bytes : List ℕ) (read : MainRead) (g : Geometry) → HasMain bytes read →
    List PartWhole → Stream
made bytes read g main ws =
    record { main = read.main; geometry = g; words = main.words; parts = ws }

pub made_fits : (bytes : List ℕ) (read : MainRead) (g : Geometry) (main : HasMain bytes read)
    (ws : List PartWhole) → HaveFewPlanes read.main.steps → IsGeometryOfHeader read.main g →
    RestStands bytes read g ws → StreamFits (made bytes read g main ws)
unfolding made
made_fits bytes read g main ws few of stands = record {
  geometry = of;
  main = main.fits;
  few_planes = few;
  parts = stands.parts.fits;
}

pub made_spelled : (bytes : List ℕ) (read : MainRead) (g : Geometry) (main : HasMain bytes read)
    (ws : List PartWhole) → RestStands bytes read g ws →
    bytes ≡ stream_bytes (made bytes read g main ws)
unfolding made
made_spelled bytes read g main ws stands =
    let head = main_words read.main main.words in
    let rest = 0xFF ∷ 0x90 ∷ main.rest in
    let after : drop read.bytes bytes ≡ rest =
    ap (λ n. drop n bytes) main.length_is ∙ ap (drop (length head)) main.spelled
    ∙ drop_at head rest (length head) refl in
    main.spelled
    ∙ ap (λ t. head ++ t) (sym after ∙ stands.parts.bytes_are
    ∙ ap (λ t. parts_bytes 0 ws ++ t) stands.end)

-- Any codestream that stands there, after the only main header.

pub record IsOnly (bytes : List ℕ) (read : MainRead) : Type 0 where
  pub main : HasMain bytes read
  pub only : (other : MainRead) → HasMain bytes other → read ≡ other

pub read_is : (bytes : List ℕ) (read : MainRead) (s : Stream) → IsOnly bytes read →
    StreamFits s → bytes ≡ stream_bytes s → read ≡ main_read s
read_is bytes read s one fits spelled = one.only (main_read s) (has_main bytes s fits spelled)

pub main_is : (bytes : List ℕ) (read : MainRead) (s : Stream) → IsOnly bytes read →
    StreamFits s → bytes ≡ stream_bytes s → read.main ≡ s.main
unfolding main_read
main_is bytes read s one fits spelled =
    ap (λ (r : MainRead). r.main) (read_is bytes read s one fits spelled)

pub bytes_is : (bytes : List ℕ) (read : MainRead) (s : Stream) → IsOnly bytes read →
    StreamFits s → bytes ≡ stream_bytes s → read.bytes ≡ length (main_words s.main s.words)
unfolding main_read
bytes_is bytes read s one fits spelled =
    ap (λ (r : MainRead). r.bytes) (read_is bytes read s one fits spelled)

pub geometry_is : (bytes : List ℕ) (read : MainRead) (g : Geometry) (s : Stream) →
    IsOnly bytes read → IsGeometryOfHeader read.main g → StreamFits s → bytes ≡ stream_bytes s →
    g ≡ s.geometry
geometry_is bytes read g s one of fits spelled =
    header_once read.main s.main g s.geometry of fits.geometry
    (main_is bytes read s one fits spelled)

pub rest_of : (bytes : List ℕ) (read : MainRead) (g : Geometry) (s : Stream) →
    IsOnly bytes read → IsGeometryOfHeader read.main g → StreamFits s → bytes ≡ stream_bytes s →
    RestStands bytes read g s.parts
rest_of bytes read g s one of fits spelled = record {
  parts = stream_stands bytes s read g fits spelled (read_is bytes read s one fits spelled)
      (geometry_is bytes read g s one of fits spelled);
  end = stream_end bytes s read fits spelled (read_is bytes read s one fits spelled);
}

pub stream_few : (bytes : List ℕ) (read : MainRead) (s : Stream) → IsOnly bytes read →
    StreamFits s → bytes ≡ stream_bytes s → HaveFewPlanes read.main.steps
stream_few bytes read s one fits spelled =
    subst (λ (m : MainHeader). HaveFewPlanes m.steps)
    (sym (main_is bytes read s one fits spelled)) fits.few_planes

pub held_is : (bytes : List ℕ) (read : MainRead) (s : Stream) → IsOnly bytes read →
    StreamFits s → bytes ≡ stream_bytes s →
    held_of read.main.profile read.bytes read.main.parts.items ≡ stream_held s
held_is bytes read s one fits spelled =
    ap (λ (m : MainHeader). held_of m.profile read.bytes m.parts.items)
    (main_is bytes read s one fits spelled)
    ∙ ap (λ n. held_of s.main.profile n s.main.parts.items)
    (bytes_is bytes read s one fits spelled)

pub within_is : (bytes : List ℕ) (read : MainRead) (s : Stream) → IsOnly bytes read →
    IsStream bytes s → IsWithin (limits_of read.main.profile)
    (held_of read.main.profile read.bytes read.main.parts.items)
within_is bytes read s one is =
    subst (λ (h : Held). IsWithin (limits_of read.main.profile) h)
    (sym (held_is bytes read s one is.fits is.spelled))
    (subst (λ (m : MainHeader). IsWithin (limits_of m.profile) (stream_held s))
    (sym (main_is bytes read s one is.fits is.spelled)) is.within)

-- a codestream has the bytes of its frame's budget
pub stream_short : (bytes : List ℕ) (s : Stream) → IsStream bytes s →
    length bytes ≤ frame_limit
stream_short bytes s is = elim (cases_lt frame_limit (length bytes)) [
  | inl long ↦ absurd (is.within Frame (
    frame_limit,
    refl,
    (let n = counted in
        omega (arith, long, n)),
  ))
  | inr short ↦ short
]
  where
    counted : length bytes ≡ length (main_words s.main s.words) + sum s.main.parts.items + 2
    counted =
        let head = main_words s.main s.words in
        let sizes = s.main.parts.items in
        let all = parts_length s.geometry s.main.steps 0 (length sizes) sizes s.parts
        is.fits.parts in
        let whole = ap (λ (l : List ℕ). length l) is.spelled
        ∙ length-append head (parts_bytes 0 s.parts ++ eoc)
        ∙ ap (λ n. length head + n) (length-append (parts_bytes 0 s.parts) eoc) in
        omega (arith, whole, all)

-- Any fault of the bytes, by what was read of them.

pub long_early : (bytes : List ℕ) (refusal : ReadRefusal) → frame_limit < length bytes →
    EarlyFault bytes refusal → LimitExceeded Frame (length bytes) ≡ refusal
long_early bytes refusal long (of_frame also is) = sym is
long_early bytes refusal long (of_main short fault f is) = absurd (omega (arith, short, long))
long_early bytes refusal long (of_planes short read main band many is) =
    absurd (omega (arith, short, long))

pub long_only : (bytes : List ℕ) (refusal : ReadRefusal) → frame_limit < length bytes →
    HasFault bytes refusal → LimitExceeded Frame (length bytes) ≡ refusal
long_only bytes refusal long (of_early f) = long_early bytes refusal long f
long_only bytes refusal long (of_later short read main few g of f) =
    absurd (omega (arith, short, long))

pub main_early : (bytes : List ℕ) (fault : MarkerRefusal) (refusal : ReadRefusal) →
    length bytes ≤ frame_limit → ((other : MainRead) → HasMain bytes other → ⊥) →
    ((f : MarkerRefusal) → HasMainFault bytes f → fault ≡ f) → EarlyFault bytes refusal →
    Main fault ≡ refusal
main_early bytes fault refusal short never same (of_frame long is) =
    absurd (omega (arith, short, long))
main_early bytes fault refusal short never same (of_main also f has is) =
    ap (λ e. Main e) (same f has) ∙ sym is
main_early bytes fault refusal short never same (of_planes also read main band many is) =
    absurd (never read main)

pub main_only : (bytes : List ℕ) (fault : MarkerRefusal) (refusal : ReadRefusal) →
    length bytes ≤ frame_limit → ((other : MainRead) → HasMain bytes other → ⊥) →
    ((f : MarkerRefusal) → HasMainFault bytes f → fault ≡ f) → HasFault bytes refusal →
    Main fault ≡ refusal
main_only bytes fault refusal short never same (of_early f) =
    main_early bytes fault refusal short never same f
main_only bytes fault refusal short never same (of_later also read main few g of f) =
    absurd (never read main)

pub planes_early : (bytes : List ℕ) (read : MainRead) (band : ℕ) (refusal : ReadRefusal) →
    length bytes ≤ frame_limit → IsOnly bytes read →
    ((f : MarkerRefusal) → HasMainFault bytes f → ⊥) → ManyPlanes read.main.steps band →
    EarlyFault bytes refusal → TooManyPlanes band ≡ refusal
planes_early bytes read band refusal short one whole many (of_frame long is) =
    absurd (omega (arith, short, long))
planes_early bytes read band refusal short one whole many (of_main also f has is) =
    absurd (whole f has)
planes_early bytes read band refusal short one whole many (of_planes also other main b more is) =
    ap (λ n. TooManyPlanes n) (many_once read.main.steps band b many
    (subst (λ (r : MainRead). ManyPlanes r.main.steps b) (sym (one.only other main)) more))
    ∙ sym is

pub planes_only : (bytes : List ℕ) (read : MainRead) (band : ℕ) (refusal : ReadRefusal) →
    length bytes ≤ frame_limit → IsOnly bytes read →
    ((f : MarkerRefusal) → HasMainFault bytes f → ⊥) → ManyPlanes read.main.steps band →
    HasFault bytes refusal → TooManyPlanes band ≡ refusal
planes_only bytes read band refusal short one whole many (of_early f) =
    planes_early bytes read band refusal short one whole many f
planes_only bytes read band refusal short one whole many (of_later also other main few g of f) =
    absurd (few_not_many read.main.steps band
    (subst (λ (r : MainRead). HaveFewPlanes r.main.steps) (sym (one.only other main)) few) many)

pub none_early : (bytes : List ℕ) (read : MainRead) (refusal : ReadRefusal) →
    length bytes ≤ frame_limit → IsOnly bytes read →
    ((f : MarkerRefusal) → HasMainFault bytes f → ⊥) → HaveFewPlanes read.main.steps →
    EarlyFault bytes refusal → ⊥
none_early bytes read refusal short one whole few (of_frame long is) =
    omega (arith, short, long)
none_early bytes read refusal short one whole few (of_main also f has is) = whole f has
none_early bytes read refusal short one whole few (of_planes also other main band many is) =
    few_not_many read.main.steps band few
    (subst (λ (r : MainRead). ManyPlanes r.main.steps band) (sym (one.only other main)) many)

-- all that is known of a main header whose bands have few bit-planes
pub record IsKnown (bytes : List ℕ) (read : MainRead) (g : Geometry) : Type 0 where
  pub short : length bytes ≤ frame_limit
  pub one : IsOnly bytes read
  pub whole : (f : MarkerRefusal) → HasMainFault bytes f → ⊥
  pub few : HaveFewPlanes read.main.steps
  pub of : IsGeometryOfHeader read.main g

pub later_of : (bytes : List ℕ) (read : MainRead) (g : Geometry) (refusal : ReadRefusal) →
    IsKnown bytes read g → HasFault bytes refusal → LaterFault bytes read g refusal
later_of bytes read g refusal known (of_early f) =
    absurd (none_early bytes read refusal known.short known.one known.whole known.few f)
later_of bytes read g refusal known (of_later also other main less h of_other f) =
    let same : other ≡ read = sym (known.one.only other main) in
    subst (λ (k : Geometry). LaterFault bytes read k refusal)
    (header_once other.main read.main h g of_other known.of
    (ap (λ (r : MainRead). r.main) same))
    (subst (λ (r : MainRead). LaterFault bytes r h refusal) same f)
