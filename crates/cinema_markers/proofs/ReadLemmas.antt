-- What is read is the only main header that the bytes begin with, or else there is a first fault.
use Rattle.std.proofs.Common.{◌≡◌, ℕ, List, Result, Ok, Err, IfOk, IfErr, MatchResult, ◌∙◌, sym, ap}
use Rattle.std.proofs.Common.{subst}
use Rattle.cinema_markers.specs.Reading.{found_in, HasFault}
use Rattle.cinema_markers.specs.Value.{main_at, IsRead}
use Rattle.cinema_markers.specs.Words.{HasMain}
use Rattle.cinema_markers.specs.declared.header.MainRead.{MainRead}
use Rattle.cinema_markers.specs.declared.refusal.MarkerRefusal.{MarkerRefusal}
use Rattle.cinema_markers.proofs.FieldLaws.{AreBytes}
use Rattle.cinema_markers.proofs.HasStands.{places_of}
use Rattle.cinema_markers.proofs.HasEnd.{main_ends}
use Rattle.cinema_markers.proofs.ValueLemmas.{value_is}
use Rattle.cinema_markers.proofs.EndHas.{end_has}
use Rattle.cinema_markers.proofs.Once.{ends_once, end_or_fault, fault_once}

pub read_has : (bytes : List ℕ) (r : Result MainRead MarkerRefusal) → AreBytes bytes →
    MatchResult r (IsRead bytes) (HasFault bytes) → IfOk r (HasMain bytes)
read_has bytes (Ok read) small is =
    subst (HasMain bytes) (sym is.is) (end_has bytes is.found read.bytes small is.ends)
read_has bytes (Err e) small is = tt

pub read_once : (bytes : List ℕ) (r : Result MainRead MarkerRefusal) →
    MatchResult r (IsRead bytes) (HasFault bytes) → (read : MainRead) → HasMain bytes read →
    r ≡ Ok read
read_once bytes (Ok other) is read has =
    let found = found_in bytes (places_of read.main has.words has.words.segments) in
    let same = ends_once bytes is.found found other.bytes read.bytes is.ends
    (main_ends bytes read has) in
    ap (λ x. Ok x) (is.is ∙ ap (λ f. main_at bytes f other.bytes) same.0
    ∙ ap (λ n. main_at bytes found n) same.1 ∙ sym (value_is bytes read has))
read_once bytes (Err e) is read has =
    absurd (end_or_fault bytes (found_in bytes (places_of read.main has.words has.words.segments))
    read.bytes e (main_ends bytes read has) is)

pub refused_has : (bytes : List ℕ) (r : Result MainRead MarkerRefusal) →
    MatchResult r (IsRead bytes) (HasFault bytes) → IfErr r (HasFault bytes)
refused_has bytes (Ok read) is = tt
refused_has bytes (Err e) is = is

pub fault_read : (bytes : List ℕ) (r : Result MainRead MarkerRefusal) →
    MatchResult r (IsRead bytes) (HasFault bytes) → (fault : MarkerRefusal) → HasFault bytes fault →
    r ≡ Err fault
fault_read bytes (Ok read) is fault has =
    absurd (end_or_fault bytes is.found read.bytes fault is.ends has)
fault_read bytes (Err e) is fault has = ap (λ f. Err f) (fault_once bytes e fault is has)
