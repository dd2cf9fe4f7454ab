-- What is found in a header whose segments stand: SIZ first, each other kind at most once, and each
-- at a place where its segment stands.
use Rattle.std.proofs.Common.{◌≡◌, ℕ, ◌+◌, ◌≤◌, Bool, true, false, not, ◌==◌}
use Rattle.std.proofs.Common.{◌&&◌, List, [], ◌∷◌, ◌++◌, length, Option, Some, None, is_none}
use Rattle.std.proofs.Common.{is_some}
use Rattle.std.proofs.Common.{arith, ◌∙◌, sym, ap, refl, subst, if◌then◌else◌}
use Rattle.std.proofs.lemmas.Bool.Decides.{nat_tests}
use Rattle.cine_nums.specs.Bytes.{word_at}
use Rattle.cine_nums.specs.Faults.{first_fault}
use Rattle.cine_nums.specs.Profile.{is_four_k}
use Rattle.cine_nums.proofs.FaultLemmas.{none_of_both}
use Rattle.cinema_markers.specs.Tables.{marker_rows, room_rows, field_rows, end_rows, next_rows}
use Rattle.cinema_markers.specs.Tables.{is_allowed, profile_at}
use Rattle.cinema_markers.specs.Reading.{found_in, Passed, StandsUpTo}
use Rattle.cinema_markers.specs.declared.found.Found.{Found}
use Rattle.cinema_markers.proofs.SegmentLaws.{none_apply, not_below}
use Rattle.cinema_markers.proofs.Standing.{Keeps}

-- What it means that no row applies to a segment.

pub record PassedAs (bytes : List ℕ) (found : Found) (at to : ℕ) : Type 0 where
  pub first : (is_none found.siz && not (word_at bytes at == 0xFF51)) ≡ false
  pub allowed : not (is_allowed (word_at bytes at)) ≡ false
  pub profile : (word_at bytes at == 0xFF5F && not (is_four_k (profile_at bytes found.siz))) ≡ false
  pub siz : (word_at bytes at == 0xFF51 && is_some found.siz) ≡ false
  pub cod : (word_at bytes at == 0xFF52 && is_some found.cod) ≡ false
  pub qcd : (word_at bytes at == 0xFF5C && is_some found.qcd) ≡ false
  pub poc : (word_at bytes at == 0xFF5F && is_some found.poc) ≡ false
  pub tlm : (word_at bytes at == 0xFF55 && is_some found.tlm) ≡ false
  pub some : 2 ≤ word_at bytes (at + 2)
  pub inside : to ≤ length bytes
  pub to_is : to ≡ at + 2 + word_at bytes (at + 2)
  pub fields : first_fault (field_rows (profile_at bytes found.siz) bytes at) ≡ None
  pub further : word_at bytes at ≡ 0xFF90 → ⊥

other_test : (n v : ℕ) → (n ≡ v → ⊥) → (n == v) ≡ false
other_test n v other = grind (arith, nat_tests)

pub passed_as : (bytes : List ℕ) (found : Found) (at to : ℕ) → Passed bytes found at to →
    PassedAs bytes found at to
unfolding next_rows marker_rows room_rows
passed_as bytes found at to passed =
    let fields = field_rows (profile_at bytes found.siz) bytes at in
    let other = other_test (word_at bytes at) 0xFF90 passed.further in
    let both = none_of_both (marker_rows bytes found at)
    (if word_at bytes at == 0xFF90 then end_rows bytes found at else room_rows bytes at ++ fields)
    passed.none in
    let later = none_of_both (room_rows bytes at) fields
    (ap (λ b. first_fault (if b then end_rows bytes found at else room_rows bytes at ++ fields))
    (sym other)
    ∙ both.1) in
    let m = none_apply (marker_rows bytes found at) both.0 in
    let r = none_apply (room_rows bytes at) later.0 in
    let end = passed.to_is in
    let within : at + 2 + word_at bytes (at + 2) ≤ length bytes = not_below r.1.1.0 in
    record {
      first = m.1.0;
      allowed = m.1.1.1.0;
      profile = m.1.1.1.1.0;
      siz = m.1.1.1.1.1.0;
      cod = m.1.1.1.1.1.1.0;
      qcd = m.1.1.1.1.1.1.1.0;
      poc = m.1.1.1.1.1.1.1.1.0;
      tlm = m.1.1.1.1.1.1.1.1.1.0;
      some = not_below r.1.0;
      inside = omega arith;
      to_is = end;
      fields = later.1;
      further = passed.further;
    }

-- SIZ stands at place 2, and is found.

not_other : (n v : ℕ) → not (n == v) ≡ false → (n == v) ≡ true
not_other n v is = grind (arith, nat_tests)

not_both : (b : Bool) (o : Option ℕ) (p : ℕ) → (b && is_some o) ≡ false → o ≡ Some p → b ≡ false
not_both true o p is some = absurd (let e = ap is_some some in cc)
not_both false o p is some = refl

pub siz_is_found : (bytes : List ℕ) (at : ℕ) (before : List ℕ) (to : ℕ) →
    StandsUpTo bytes (at ∷ before) to →
    (found_in bytes (at ∷ before)).siz ≡ Some 2
siz_is_found bytes at [] to ((soc, first), passed) =
    let p = passed_as bytes (found_in bytes []) at to passed in
    ap (λ b. if b then Some at else None) (not_other (word_at bytes at) 0xFF51 p.first)
    ∙ ap (λ n. Some n) first
siz_is_found bytes at (next ∷ before) to (stands, passed) =
    let p = passed_as bytes (found_in bytes (next ∷ before)) at to passed in
    let found = siz_is_found bytes next before at stands in
    let other = not_both (word_at bytes at == 0xFF51)
    (found_in bytes (next ∷ before)).siz 2 p.siz found in
    ap (λ b. if b then Some at else (found_in bytes (next ∷ before)).siz) other ∙ found

pub first_is_siz : (bytes : List ℕ) (at to : ℕ) → StandsUpTo bytes (at ∷ []) to →
    (at ≡ 2) × (word_at bytes at ≡ 0xFF51)
first_is_siz bytes at to ((soc, first), passed) =
    let p = passed_as bytes (found_in bytes []) at to passed in
    (first, when_is (word_at bytes at) 0xFF51 p.first)
  where
    when_is : (n v : ℕ) → not (n == v) ≡ false → n ≡ v
    when_is n v is = grind (arith, nat_tests)

-- A kind of segments of which there is at most one.
pub record Kind (pick : Found → Option ℕ) (marker : ℕ) : Type 0 where
  pub keeps : Keeps pick marker
  pub once : (bytes : List ℕ) (found : Found) (at to : ℕ) → PassedAs bytes found at to →
      (word_at bytes at == marker && is_some (pick found)) ≡ false

pub kind_cod : Keeps (λ f. f.cod) 0xFF52 → Kind (λ f. f.cod) 0xFF52
kind_cod keeps = record { keeps = keeps; once = λ bytes found at to p. p.cod }

pub kind_qcd : Keeps (λ f. f.qcd) 0xFF5C → Kind (λ f. f.qcd) 0xFF5C
kind_qcd keeps = record { keeps = keeps; once = λ bytes found at to p. p.qcd }

pub kind_poc : Keeps (λ f. f.poc) 0xFF5F → Kind (λ f. f.poc) 0xFF5F
kind_poc keeps = record { keeps = keeps; once = λ bytes found at to p. p.poc }

pub kind_tlm : Keeps (λ f. f.tlm) 0xFF55 → Kind (λ f. f.tlm) 0xFF55
kind_tlm keeps = record { keeps = keeps; once = λ bytes found at to p. p.tlm }

-- What is found once stays found: what was found among earlier segments is what is found among all.
abbrev pub IsKept : (Found → Option ℕ) → Found → Found → Type 0
IsKept pick all found = (p : ℕ) → pick found ≡ Some p → pick all ≡ Some p

pub earlier_kept : (pick : Found → Option ℕ) (marker : ℕ) → Kind pick marker →
    (bytes : List ℕ) (all : Found)
    (at : ℕ) (before : List ℕ) (to : ℕ) → Passed bytes (found_in bytes before) at to →
    IsKept pick all (found_in bytes (at ∷ before)) → IsKept pick all (found_in bytes before)
earlier_kept pick marker kind bytes all at before to passed kept p is =
    let found = found_in bytes before in
    let once = kind.once bytes found at to (passed_as bytes found at to passed) in
    let other = not_both (word_at bytes at == marker) (pick found) p once is in
    kept p (kind.keeps.step found (word_at bytes at) at
    ∙ ap (λ b. if b then Some at else pick found) other ∙ is)

pub here_kept : (pick : Found → Option ℕ) (marker : ℕ) → Kind pick marker →
    (bytes : List ℕ) (all : Found)
    (at : ℕ) (before : List ℕ) → word_at bytes at ≡ marker →
    IsKept pick all (found_in bytes (at ∷ before)) → pick all ≡ Some at
here_kept pick marker kind bytes all at before is kept =
    let found = found_in bytes before in
    kept at (kind.keeps.step found (word_at bytes at) at
    ∙ ap (λ b. if b then Some at else pick found) (when_same (word_at bytes at) marker is))
  where
    when_same : (n v : ℕ) → n ≡ v → (n == v) ≡ true
    when_same n v is = grind (arith, nat_tests)

-- What is found stands where it is found.
pub record StandsAt (bytes : List ℕ) (marker at : ℕ) : Type 0 where
  pub before : List ℕ
  pub to : ℕ
  pub stands : StandsUpTo bytes (at ∷ before) to
  pub is : word_at bytes at ≡ marker

pub found_stands : (pick : Found → Option ℕ) (marker : ℕ) → Keeps pick marker →
    (bytes before : List ℕ)
    (to place : ℕ) → StandsUpTo bytes before to → pick (found_in bytes before) ≡ Some place →
    StandsAt bytes marker place
found_stands pick marker keeps bytes [] to place stands is = absurd (let e = keeps.none in cc)
found_stands pick marker keeps bytes (at ∷ before) to place stands is =
    by_test (word_at bytes at == marker) refl
    (λ later. found_stands pick marker keeps bytes before at place stands.0 later)
  where
    step : (b : Bool) → (word_at bytes at == marker) ≡ b →
        (if b then Some at else pick (found_in bytes before)) ≡ Some place
    step b e =
        sym (keeps.step (found_in bytes before) (word_at bytes at) at
        ∙ ap (λ t. if t then Some at else pick (found_in bytes before)) e) ∙ is

    when_is : (n v : ℕ) → (n == v) ≡ true → n ≡ v
    when_is n v e = grind (arith, nat_tests)

    same_place : (a b : ℕ) → Some a ≡ Some b → a ≡ b
    same_place a b e = cc

    by_test : (b : Bool) → (word_at bytes at == marker) ≡ b →
        (pick (found_in bytes before) ≡ Some place → StandsAt bytes marker place) →
        StandsAt bytes marker place
    by_test true e later =
        let same : at ≡ place = same_place at place (step true e) in
        subst (StandsAt bytes marker) same
        (record {
          before = before;
          to = to;
          stands = stands;
          is =
              when_is (word_at bytes at) marker e;
        })
    by_test false e later = later (step false e)

-- and its fields are as they have to be in a header of the profile that SIZ gives
pub stood_as : (bytes : List ℕ) (marker at : ℕ) → (s : StandsAt bytes marker at) →
    PassedAs bytes (found_in bytes s.before) at s.to
stood_as bytes marker at s = passed_as bytes (found_in bytes s.before) at s.to s.stands.1

pub stood_after_siz : (bytes : List ℕ) (marker at : ℕ) → (s : StandsAt bytes marker at) →
    (marker == 0xFF51) ≡ false →
    first_fault (field_rows (profile_at bytes (Some 2)) bytes at) ≡ None
stood_after_siz bytes marker at s other = by_list s.before s.to s.stands
  where
    no_siz : word_at bytes at ≡ 0xFF51 → ⊥
    no_siz is = differs marker (sym s.is ∙ is) other
      where
        differs : (n : ℕ) → n ≡ 0xFF51 → (n == 0xFF51) ≡ false → ⊥
        differs n e f = grind (arith, nat_tests)

    by_list : (before : List ℕ) (to : ℕ) → StandsUpTo bytes (at ∷ before) to →
        first_fault (field_rows (profile_at bytes (Some 2)) bytes at) ≡ None
    by_list [] to stands = absurd (no_siz (first_is_siz bytes at to stands).1)
    by_list (next ∷ before) to stands =
        let p = passed_as bytes (found_in bytes (next ∷ before)) at to stands.1 in
        ap (λ o. first_fault (field_rows (profile_at bytes o) bytes at))
        (sym (siz_is_found bytes next before at stands.0)) ∙ p.fields
