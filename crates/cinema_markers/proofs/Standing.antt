-- Segments that are spelled stand: no row applies to any of them.
use Rattle.std.proofs.Common.{◌≡◌, ℕ, ◌+◌, ◌≤◌, Bool, true, false, not, ◌==◌, ◌&&◌, List, [], ◌∷◌}
use Rattle.std.proofs.Common.{◌++◌, Option, Some, None, is_none, is_some, arith, ◌∙◌, sym, ap, refl}
use Rattle.std.proofs.Common.{subst, length, if◌then◌else◌}
use Rattle.cine_nums.specs.declared.profile.Profile.{Profile}
use Rattle.cine_nums.specs.declared.profile.Profile.TheVariants.{TwoK, FourK}
use Rattle.cine_nums.specs.Bytes.{word_at}
use Rattle.cine_nums.specs.Faults.{first_fault}
use Rattle.cine_nums.specs.Profile.{is_four_k}
use Rattle.cinema_markers.specs.Tables.{soc_rows, room_rows, marker_rows, field_rows, end_rows}
use Rattle.cinema_markers.specs.Tables.{next_rows, feature_of, is_allowed, profile_at, noted}
use Rattle.cinema_markers.specs.Reading.{found_in, Passed, StandsUpTo}
use Rattle.cinema_markers.specs.Words.{MainSegment, coding, quantisation, progression, lengths}
use Rattle.cinema_markers.specs.Words.{comment, marker_of, count_of}
use Rattle.cinema_markers.specs.declared.found.Found.{Found}
use Rattle.cine_nums.proofs.FaultLemmas.{passed_on}
use Rattle.cinema_markers.proofs.SegmentLaws.{none_is_first, at_least, differs}

-- a whole segment with a marker, to whose fields no row applies, from a place up to another one
pub record StandsAs (profile : Profile) (bytes : List ℕ) (marker at to : ℕ) : Type 0 where
  pub told : word_at bytes at ≡ marker
  pub some : 2 ≤ word_at bytes (at + 2)
  pub to_is : to ≡ at + 2 + word_at bytes (at + 2)
  pub inside : to ≤ length bytes
  pub fields : first_fault (field_rows profile bytes at) ≡ None

-- the marker may stand there, after what was found
pub record MayStand (bytes : List ℕ) (found : Found) (marker : ℕ) : Type 0 where
  pub first : (is_none found.siz && not (marker == 0xFF51)) ≡ false
  pub feature : not (feature_of marker == 0) ≡ false
  pub allowed : not (is_allowed marker) ≡ false
  pub profile : (marker == 0xFF5F && not (is_four_k (profile_at bytes found.siz))) ≡ false
  pub siz : (marker == 0xFF51 && is_some found.siz) ≡ false
  pub cod : (marker == 0xFF52 && is_some found.cod) ≡ false
  pub qcd : (marker == 0xFF5C && is_some found.qcd) ≡ false
  pub poc : (marker == 0xFF5F && is_some found.poc) ≡ false
  pub tlm : (marker == 0xFF55 && is_some found.tlm) ≡ false

pub marker_none : (bytes : List ℕ) (found : Found) (marker at : ℕ) → at + 2 ≤ length bytes →
    word_at bytes at ≡ marker → MayStand bytes found marker →
    first_fault (marker_rows bytes found at) ≡ None
unfolding marker_rows
marker_none bytes found marker at inside is may =
    none_is_first (marker_rows bytes found at) (
      at_least inside,
      (
        ap (λ n. is_none found.siz && not (n == 0xFF51)) is ∙ may.first,
        (
          ap (λ n. not (feature_of n == 0)) is ∙ may.feature,
          (
            ap (λ n. not (is_allowed n)) is ∙ may.allowed,
            (
              ap (λ n. n == 0xFF5F && not (is_four_k (profile_at bytes found.siz))) is
                  ∙ may.profile,
              (
                ap (λ n. n == 0xFF51 && is_some found.siz) is ∙ may.siz,
                (
                  ap (λ n. n == 0xFF52 && is_some found.cod) is ∙ may.cod,
                  (
                    ap (λ n. n == 0xFF5C && is_some found.qcd) is ∙ may.qcd,
                    (
                      ap (λ n. n == 0xFF5F && is_some found.poc) is ∙ may.poc,
                      (ap (λ n. n == 0xFF55 && is_some found.tlm) is ∙ may.tlm, tt),
                    ),
                  ),
                ),
              ),
            ),
          ),
        ),
      ),
    )

room_none : (bytes : List ℕ) (at : ℕ) → 2 ≤ word_at bytes (at + 2) →
    at + 2 + word_at bytes (at + 2) ≤ length bytes →
    first_fault (room_rows bytes at) ≡ None
unfolding room_rows
room_none bytes at some inside =
    none_is_first (room_rows bytes at)
    (at_least (omega arith), (at_least some, (at_least inside, tt)))

-- such a segment is passed
pub is_passed : (bytes : List ℕ) (found : Found) (marker at to : ℕ) →
    StandsAs (profile_at bytes found.siz) bytes marker at to →
    (marker == 0xFF90) ≡ false → MayStand bytes found marker → Passed bytes found at to
unfolding next_rows
is_passed bytes found marker at to stands no_sot may =
    let told = stands.told in
    let some = stands.some in
    let inside : at + 2 + word_at bytes (at + 2) ≤ length bytes = let i = stands.inside in let t =
    stands.to_is in omega arith in
    let other : (word_at bytes at == 0xFF90) ≡ false = ap (λ n. n == 0xFF90) told ∙ no_sot in
    let fields = field_rows (profile_at bytes found.siz) bytes at in
    record {
      none =
          passed_on (marker_rows bytes found at)
          (if word_at bytes at == 0xFF90 then end_rows bytes found at else room_rows bytes at
          ++ fields)
          (marker_none bytes found marker at (omega arith) told may)
          ∙ ap (λ b. first_fault (if b then end_rows bytes found at else room_rows bytes at
          ++ fields)) other
          ∙ passed_on (room_rows bytes at) fields (room_none bytes at some inside) ∙ stands.fields;
      further = differs other;
      to_is = stands.to_is;
    }

-- What is found: a kind of segments that doesn't stand there isn't.

-- segments of these markers, the last one first, at these places, and after SIZ at place 2
abbrev pub AreMarked : List ℕ → List MainSegment → List ℕ → Type 0
AreMarked bytes [] [] = ⊥
AreMarked bytes [] (at ∷ places) = (at ≡ 2) × (word_at bytes at ≡ 0xFF51) × (places ≡ [])
AreMarked bytes (s ∷ segments) [] = ⊥
AreMarked bytes (s ∷ segments) (at ∷ places) =
    (word_at bytes at ≡ marker_of s) × AreMarked bytes segments places

-- how a field of what is found is kept
pub record Keeps (pick : Found → Option ℕ) (marker : ℕ) : Type 0 where
  pub none : pick (record { siz = None; cod = None; qcd = None; poc = None; tlm = None }) ≡ None
  pub step : (found : Found) (n at : ℕ) →
      pick (noted found n at) ≡ (if n == marker then Some at else pick found)
  pub not_siz : (0xFF51 == marker) ≡ false

pub keeps_cod : Keeps (λ f. f.cod) 0xFF52
keeps_cod = record { none = refl; step = λ f n at. refl; not_siz = refl }

pub keeps_qcd : Keeps (λ f. f.qcd) 0xFF5C
keeps_qcd = record { none = refl; step = λ f n at. refl; not_siz = refl }

pub keeps_poc : Keeps (λ f. f.poc) 0xFF5F
keeps_poc = record { none = refl; step = λ f n at. refl; not_siz = refl }

pub keeps_tlm : Keeps (λ f. f.tlm) 0xFF55
keeps_tlm = record { none = refl; step = λ f n at. refl; not_siz = refl }

no_more : (b : Bool) (n : ℕ) → (if b then 1 + n else n) ≡ 0 → (b ≡ false) × (n ≡ 0)
no_more true n is = absurd (omega arith)
no_more false n is = (refl, is)

pub absent : (pick : Found → Option ℕ) (marker : ℕ) → Keeps pick marker →
    (bytes : List ℕ) (segments : List MainSegment) (places : List ℕ) →
    AreMarked bytes segments places → count_of marker segments ≡ 0 →
    pick (found_in bytes places) ≡ None
absent pick marker keeps bytes [] [] are count = absurd are
absent pick marker keeps bytes [] (at ∷ places) (first, is, last) count =
    keeps.step (found_in bytes places) (word_at bytes at) at
    ∙ ap (λ n. if n == marker then Some at else pick (found_in bytes places)) is
    ∙ ap (λ b. if b then Some at else pick (found_in bytes places)) keeps.not_siz
    ∙ ap (λ l. pick (found_in bytes l)) last ∙ keeps.none
absent pick marker keeps bytes (s ∷ segments) [] are count = absurd are
absent pick marker keeps bytes (s ∷ segments) (at ∷ places) (is, later) count =
    let fewer = no_more (marker_of s == marker) (count_of marker segments) count in
    keeps.step (found_in bytes places) (word_at bytes at) at
    ∙ ap (λ n. if n == marker then Some at else pick (found_in bytes places)) is
    ∙ ap (λ b. if b then Some at else pick (found_in bytes places)) fewer.0
    ∙ absent pick marker keeps bytes segments places later fewer.1

-- SIZ is found
pub siz_found : (bytes : List ℕ) (segments : List MainSegment) (places : List ℕ) →
    AreMarked bytes segments places →
    (found_in bytes places).siz ≡ Some 2
siz_found bytes [] [] are = absurd are
siz_found bytes [] (at ∷ places) (first, is, last) =
    ap (λ n. if n == 0xFF51 then Some at else (found_in bytes places).siz) is
    ∙ ap (λ n. Some n) first
siz_found bytes (s ∷ segments) [] are = absurd are
siz_found bytes (s ∷ segments) (at ∷ places) (is, later) =
    ap (λ n. if n == 0xFF51 then Some at else (found_in bytes places).siz) is
    ∙ ap (λ b. if b then Some at else (found_in bytes places).siz) (no_siz s)
    ∙ siz_found bytes segments places later
  where
    no_siz : (s : MainSegment) → (marker_of s == 0xFF51) ≡ false
    no_siz coding = refl
    no_siz quantisation = refl
    no_siz progression = refl
    no_siz (lengths ztlm stlm) = refl
    no_siz (comment content) = refl

-- Segments after each other, the last one first: each stands from its place up to that of the one
-- after it.
abbrev pub Chain : Profile → List ℕ → List MainSegment → List ℕ → ℕ → Type 0
Chain profile bytes [] [] to = ⊥
Chain profile bytes [] (at ∷ places) to =
    (at ≡ 2) × StandsAs TwoK bytes 0xFF51 at to × (places ≡ [])
Chain profile bytes (s ∷ segments) [] to = ⊥
Chain profile bytes (s ∷ segments) (at ∷ places) to =
    StandsAs profile bytes (marker_of s) at to × Chain profile bytes segments places at

pub chain_marked : (profile : Profile) (bytes : List ℕ) (segments : List MainSegment)
    (places : List ℕ) (to : ℕ) →
    Chain profile bytes segments places to → AreMarked bytes segments places
chain_marked profile bytes [] [] to chain = chain
chain_marked profile bytes [] (at ∷ places) to (first, stands, last) = (first, stands.told, last)
chain_marked profile bytes (s ∷ segments) [] to chain = chain
chain_marked profile bytes (s ∷ segments) (at ∷ places) to (stands, chain) =
    (stands.told, chain_marked profile bytes segments places at chain)

-- which of the segments there are at most once, and what may stand in a header of the profile
pub record AreOnce (profile : Profile) (segments : List MainSegment) : Type 0 where
  pub coding : count_of 0xFF52 segments ≤ 1
  pub quantisation : count_of 0xFF5C segments ≤ 1
  pub progression : count_of 0xFF5F segments ≤ (if is_four_k profile then 1 else 0)
  pub lengths : count_of 0xFF55 segments ≤ 1

later_once : (profile : Profile) (s : MainSegment) (segments : List MainSegment) →
    AreOnce profile (s ∷ segments) → AreOnce profile segments
later_once profile s segments once =
    record {
      coding = fewer (marker_of s == 0xFF52) (count_of 0xFF52 segments) 1 once.coding;
      quantisation = fewer (marker_of s == 0xFF5C) (count_of 0xFF5C segments) 1 once.quantisation;
      progression = fewer (marker_of s == 0xFF5F) (count_of 0xFF5F segments)
          (if is_four_k profile then 1 else 0) once.progression;
      lengths = fewer (marker_of s == 0xFF55) (count_of 0xFF55 segments) 1 once.lengths;
    }
  where
    fewer : (b : Bool) (n m : ℕ) → (if b then 1 + n else n) ≤ m → n ≤ m
    fewer true n m le = omega arith
    fewer false n m le = le

-- what was found after SIZ lets each segment stand that is not there yet
may_stand : (profile : Profile) (bytes : List ℕ) (s : MainSegment) (segments : List MainSegment)
    (places : List ℕ) →
    AreMarked bytes segments places → AreOnce profile (s ∷ segments) →
    profile_at bytes (found_in bytes places).siz ≡ profile →
    MayStand bytes (found_in bytes places) (marker_of s)
may_stand profile bytes coding segments places are once is =
    record {
      first = ap (λ o. is_none o && true) (siz_found bytes segments places are);
      feature = refl;
      allowed = refl;
      profile = refl;
      siz = refl;
      cod = ap is_some (absent (λ f. f.cod) 0xFF52 keeps_cod bytes segments places are
          (let c = once.coding in omega arith));
      qcd = refl;
      poc = refl;
      tlm = refl;
    }
may_stand profile bytes quantisation segments places are once is =
    record {
      first = ap (λ o. is_none o && true) (siz_found bytes segments places are);
      feature = refl;
      allowed = refl;
      profile = refl;
      siz = refl;
      cod = refl;
      qcd = ap is_some (absent (λ f. f.qcd) 0xFF5C keeps_qcd bytes segments places are
          (let c = once.quantisation in omega arith));
      poc = refl;
      tlm = refl;
    }
may_stand profile bytes progression segments places are once is =
    let one = four_k profile (count_of 0xFF5F segments) once.progression in
    record {
      first = ap (λ o. is_none o && true) (siz_found bytes segments places are);
      feature = refl;
      allowed = refl;
      siz = refl;
      profile = ap (λ p. not (is_four_k p)) is ∙ one.0;
      cod = refl;
      qcd = refl;
      poc = ap is_some (absent (λ f. f.poc) 0xFF5F keeps_poc bytes segments places are one.1);
      tlm = refl;
    }
  where
    four_k : (p : Profile) (n : ℕ) → 1 + n ≤ (if is_four_k p then 1 else 0) →
        (not (is_four_k p) ≡ false) × (n ≡ 0)
    four_k TwoK n le = absurd (omega arith)
    four_k FourK n le = (refl, omega arith)
may_stand profile bytes (lengths ztlm stlm) segments places are once is =
    record {
      first = ap (λ o. is_none o && true) (siz_found bytes segments places are);
      feature = refl;
      allowed = refl;
      profile = refl;
      siz = refl;
      cod = refl;
      qcd = refl;
      poc = refl;
      tlm = ap is_some (absent (λ f. f.tlm) 0xFF55 keeps_tlm bytes segments places are
          (let c = once.lengths in omega arith));
    }
may_stand profile bytes (comment content) segments places are once is =
    record {
      first = ap (λ o. is_none o && true) (siz_found bytes segments places are);
      feature = refl;
      allowed = refl;
      profile = refl;
      siz = refl;
      cod = refl;
      qcd = refl;
      poc = refl;
      tlm = refl;
    }

-- a chain of such segments stands
pub chain_stands : (profile : Profile) (bytes : List ℕ) (segments : List MainSegment)
    (places : List ℕ) (to : ℕ) →
    first_fault (soc_rows bytes) ≡ None → Chain profile bytes segments places to →
    AreOnce profile segments →
    profile_at bytes (Some 2) ≡ profile → StandsUpTo bytes places to
chain_stands profile bytes [] [] to soc chain once is = absurd chain
chain_stands profile bytes [] (at ∷ places) to soc (first, stands, last) once is =
    subst (λ l. StandsUpTo bytes (at ∷ l) to) (sym last) (
      (soc, first),
      is_passed bytes (found_in bytes []) 0xFF51 at to stands refl
          (record {
            first = refl;
            feature = refl;
            allowed = refl;
            profile = refl;
            siz = refl;
            cod =
                refl;
            qcd = refl;
            poc = refl;
            tlm = refl;
          }),
    )
chain_stands profile bytes (s ∷ segments) [] to soc chain once is = absurd chain
chain_stands profile bytes (s ∷ segments) (at ∷ places) to soc (stands, chain) once is =
    let are = chain_marked profile bytes segments places at chain in
    let told : profile_at bytes (found_in bytes places).siz ≡ profile =
    ap (profile_at bytes) (siz_found bytes segments places are) ∙ is in (
      chain_stands profile bytes segments places at soc chain
          (later_once profile s segments once) is,
      is_passed bytes (found_in bytes places) (marker_of s) at to
          (subst (λ p. StandsAs p bytes (marker_of s) at to) (sym told) stands)
          (no_sot s) (may_stand profile bytes s segments places are once told),
    )
  where
    no_sot : (s : MainSegment) → (marker_of s == 0xFF90) ≡ false
    no_sot coding = refl
    no_sot quantisation = refl
    no_sot progression = refl
    no_sot (lengths ztlm stlm) = refl
    no_sot (comment content) = refl
