-- What is found of a whole codestream, and the fault after its main header.
use Rattle.std.proofs.Common.{◌≡◌, ℕ, List, length, ap, sym, subst, ◌∙◌, ◌⊎◌, inr, Err, Result}
use Rattle.band_geometry.specs.Numbering.{all_blocks}
use Rattle.band_geometry.specs.declared.geometry.Geometry.{Geometry}
use Rattle.budget_duals.specs.Held.{held_of, held_in, limits_of, IsWithin, IsOutermostBroken}
use Rattle.budget_duals.specs.declared.held.Held.{Held}
use Rattle.cine_nums.specs.declared.budget.Budget.{Budget}
use Rattle.cinema_markers.specs.Words.{HasMain, main_words}
use Rattle.cinema_markers.specs.declared.header.MainRead.{MainRead}
use Rattle.profile_reader.specs.Reads.{Stream, IsGeometryOfHeader, PartsSay}
use Rattle.profile_reader.specs.Words.{PartWhole}
use Rattle.codestream_reader.specs.Faults.{RestFault, LaterFault}
use Rattle.codestream_reader.specs.Faults.LaterFault.{of_rest, of_limit}
use Rattle.codestream_reader.specs.Spans.{said_of}
use Rattle.codestream_reader.specs.Whole.{HaveFewPlanes, IsFound, IsStream, RestStands}
use Rattle.codestream_reader.specs.declared.refusal.ReadRefusal.{ReadRefusal}
use Rattle.codestream_reader.specs.declared.refusal.ReadRefusal.TheVariants.{LimitExceeded, Memory}
use Rattle.codestream_reader.specs.declared.span.BlockSpan.{BlockSpan}
use Rattle.codestream_reader.specs.declared.stream.StreamSpans.{StreamSpans}
use Rattle.codestream_reader.proofs.Ending.{either}
use Rattle.codestream_reader.proofs.OnePacket.{err_once}
use Rattle.codestream_reader.proofs.AfterMain.{IsOnly, made, made_fits, made_spelled, bytes_is}
use Rattle.codestream_reader.proofs.AfterMain.{geometry_is, held_is, main_is, outermost_once}

-- what was read after a main header
pub record IsReadAfter (read : MainRead) (g : Geometry) (spans : List BlockSpan)
    (found : StreamSpans) : Type 0 where
  pub read_is : found.read ≡ read
  pub geometry : found.geometry ≡ g
  pub held : found.held ≡ held_of read.main.profile read.bytes read.main.parts.items
  pub spans_are : found.spans.items ≡ spans
  pub count : length spans ≡ length (all_blocks g)

-- is a codestream that stands there
pub found_there : (bytes : List ℕ) (read : MainRead) (g : Geometry) (ws : List PartWhole)
    (spans : List BlockSpan) (found : StreamSpans) → HasMain bytes read → HaveFewPlanes read.main.steps →
    IsGeometryOfHeader read.main g → RestStands bytes read g ws →
    IsReadAfter read g spans found → PartsSay g (said_of bytes spans) 0 ws →
    IsWithin (limits_of read.main.profile)
    (held_of read.main.profile read.bytes read.main.parts.items) →
    (s : Stream) × (IsStream bytes s × IsFound bytes s found)
unfolding made
found_there bytes read g ws spans found main few of stands is says within = (
  made bytes read g main ws,
  (
    record {
      fits = made_fits bytes read g main ws few of stands;
      spelled = made_spelled bytes read g main ws stands;
      within = subst (λ (h : Held). IsWithin (limits_of read.main.profile) h) held within;
    },
    record {
      main = ap (λ (r : MainRead). r.main) is.read_is;
      bytes_are = ap (λ (r : MainRead). r.bytes) is.read_is ∙ main.length_is;
      geometry = is.geometry;
      held = is.held ∙ held;
      count = ap (λ (l : List BlockSpan). length l) is.spans_are ∙ is.count;
      says = subst (λ (l : List BlockSpan). PartsSay g (said_of bytes l) 0 ws)
          (sym is.spans_are) says;
    },
  ),
)
  where
    held : held_of read.main.profile read.bytes read.main.parts.items
        ≡ held_of read.main.profile (length (main_words read.main main.words))
        read.main.parts.items
    held = ap (λ n. held_of read.main.profile n read.main.parts.items) main.length_is

-- and whatever codestream stands there, it was found
pub found_is : (bytes : List ℕ) (read : MainRead) (g : Geometry) (s : Stream)
    (spans : List BlockSpan) (found : StreamSpans) → IsOnly bytes read → IsGeometryOfHeader read.main g →
    IsStream bytes s → IsReadAfter read g spans found →
    PartsSay g (said_of bytes spans) 0 s.parts → IsFound bytes s found
found_is bytes read g s spans found one of stream is says =
    let same : g ≡ s.geometry = geometry_is bytes read g s one of stream.fits stream.spelled in
    record {
      main = ap (λ (r : MainRead). r.main) is.read_is
          ∙ main_is bytes read s one stream.fits stream.spelled;
      bytes_are = ap (λ (r : MainRead). r.bytes) is.read_is
          ∙ bytes_is bytes read s one stream.fits stream.spelled;
      geometry = is.geometry ∙ same;
      held = is.held ∙ held_is bytes read s one stream.fits stream.spelled;
      count = ap (λ (l : List BlockSpan). length l) is.spans_are ∙ is.count
          ∙ ap (λ (h : Geometry). length (all_blocks h)) same;
      says = subst (λ (l : List BlockSpan). PartsSay s.geometry (said_of bytes l) 0 s.parts)
          (sym is.spans_are)
          (subst (λ (h : Geometry). PartsSay h (said_of bytes spans) 0 s.parts) same says);
    }

-- faults after the main header

pub later_err : (bytes : List ℕ) (read : MainRead) (g : Geometry) (e refusal : ReadRefusal) →
    ((ws : List PartWhole) → RestStands bytes read g ws → e ≡ Memory) →
    ((f : ReadRefusal) → RestFault bytes read g f →
    (◌≡◌ {A = Result (Unit {0}) ReadRefusal} (Err e) (Err f))
    ⊎ (◌≡◌ {A = Result (Unit {0}) ReadRefusal} (Err e) (Err Memory))) →
    LaterFault bytes read g refusal → (e ≡ refusal) ⊎ (e ≡ Memory)
later_err bytes read g e refusal memory faults (of_rest f) =
    either (err_once {T = Unit {0}} {E = ReadRefusal} e refusal)
    (err_once {T = Unit {0}} {E = ReadRefusal} e Memory) (faults refusal f)
later_err bytes read g e refusal memory faults (of_limit ws stands budget broken is) =
    inr (memory ws stands)

pub later_limit : (bytes : List ℕ) (read : MainRead) (g : Geometry) (budget : Budget)
    (refusal : ReadRefusal) → (RestFault bytes read g refusal → ⊥) →
    IsOutermostBroken (limits_of read.main.profile)
    (held_of read.main.profile read.bytes read.main.parts.items) budget →
    LaterFault bytes read g refusal → LimitExceeded budget
    (held_in (held_of read.main.profile read.bytes read.main.parts.items) budget) ≡ refusal
later_limit bytes read g budget refusal never broken (of_rest f) = absurd (never f)
later_limit bytes read g budget refusal never broken (of_limit ws stands other also is) =
    let held = held_of read.main.profile read.bytes read.main.parts.items in
    ap (λ k. LimitExceeded k (held_in held k))
    (outermost_once (limits_of read.main.profile) held budget other broken also) ∙ sym is

pub later_none : (bytes : List ℕ) (read : MainRead) (g : Geometry) (refusal : ReadRefusal) →
    (RestFault bytes read g refusal → ⊥) → IsWithin (limits_of read.main.profile)
    (held_of read.main.profile read.bytes read.main.parts.items) →
    LaterFault bytes read g refusal → ⊥
later_none bytes read g refusal never within (of_rest f) = never f
later_none bytes read g refusal never within (of_limit ws stands budget also is) =
    within budget also.broken
