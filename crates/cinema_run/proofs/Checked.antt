-- Files that are checked: what was read of one, and what a run over all of them leaves.
use Rattle.std.proofs.Common.{◌≡◌, ℕ, suc, ◌+◌, ◌≤◌, ◌<◌, Bool, List, [], ◌∷◌, ◌++◌, Option, Some}
use Rattle.std.proofs.Common.{None, IsSome, IfSome, inl, inr, length, take, slice_get, refl, sym}
use Rattle.std.proofs.Common.{◌∙◌, ap, subst, arith, if◌then◌else◌, drop, map}
use Rattle.std.specs.Option.{ForSome}
use Rattle.std.specs.List.{flat_map}
use Rattle.std.proofs.Math.Nat.{lt_of_not-le}
use Rattle.std.proofs.Math.Seq.{drop-append_seam, take-append_seam}
use Rattle.std.proofs.lemmas.List.{append-nil, drop_all, length-take-le, take_all}
use Rattle.cine_nums.specs.Limits.{frame_limit}
use Rattle.cine_ports.specs.Outputs.{Kept, kept_nothing}
use Rattle.cine_ports.specs.Source.{File, Source}
use Rattle.cinema_run.specs.Progress.{AreRight, IsPointAt, IsVisitAt, FrameBrokeOff, FramesBrokeOff}
use Rattle.cinema_run.specs.Progress.{FramesVisited, VisitBrokeOff, kept_after}
use Rattle.cinema_run.specs.RightCheck.{first_bytes, RightCheck, RightCheckByName, RightCheckFor}
use Rattle.cinema_run.specs.Run.{Leaves, RunBrokeOff}
use Rattle.cinema_run.specs.Visit.{Visit, one_or_none, outputs_of, Point, Before, Writing, Saying}
use Rattle.cinema_run.specs.Visit.{IsPoint, kept_at}
use Rattle.cinema_run.proofs.Progress.{all_visited, run_broken}
use Rattle.cinema_run.proofs.Seen.{AreNames, HasBytes, WasSeen, seen_at, broke_at}

-- ---- the bytes of one file

-- of the bytes of a buffer, no more than it has room for
short : (most : ℕ) (buffer : List ℕ) (n : ℕ) → length buffer ≡ most → n ≤ length buffer →
    take n buffer ≡ take most (take n buffer)
short most buffer n room count =
    let within : length (take n buffer) ≤ most = omega (arith, length-take-le n buffer count) in
    sym (take_all most (take n buffer) within)

full : (most : ℕ) (left later buffer : List ℕ) (n : ℕ) → length buffer ≡ most →
    n ≤ length buffer → left ≡ take n buffer ++ later → (n < length buffer → later ≡ []) →
    take n buffer ≡ take most left
full most left [] buffer n room count moved end =
    short most buffer n room count ∙ ap (take most) (sym (moved ∙ append-nil (take n buffer)))
full most left (x ∷ xs) buffer n room count moved end =
    let all : length buffer < suc n =
    lt_of_not-le (λ less. absurd (let none : x ∷ xs ≡ [] = end less in cc)) in
    let long : length (take n buffer) ≡ most =
    omega (arith, length-take-le n buffer count, all, count, room) in
    sym (take-append_seam (take n buffer) (x ∷ xs))
    ∙ ap (λ m. take m (take n buffer ++ x ∷ xs)) long ∙ ap (take most) (sym moved)

-- as many bytes as a buffer has room for, or all of a file that has fewer
filled : (left later buffer : List ℕ) (n : ℕ) → length buffer ≡ frame_limit + 1 →
    n ≤ length buffer → left ≡ take n buffer ++ later → (n < length buffer → later ≡ []) →
    take n buffer ≡ first_bytes left
filled left later buffer n room count moved end =
    full (frame_limit + 1) left later buffer n room count moved end

rest : (most : ℕ) (left later buffer : List ℕ) (n : ℕ) → length buffer ≡ most →
    n ≤ length buffer → left ≡ take n buffer ++ later → (n < length buffer → later ≡ []) →
    later ≡ drop most left
rest most left [] buffer n room count moved end =
    let same : length left ≡ length (take n buffer) =
    ap (λ (xs : List ℕ). length xs) (moved ∙ append-nil (take n buffer)) in
    let within : length left ≤ most = omega (arith, length-take-le n buffer count, same) in
    sym (drop_all most left within)
rest most left (x ∷ xs) buffer n room count moved end =
    let all : length buffer < suc n =
    lt_of_not-le (λ less. absurd (let none : x ∷ xs ≡ [] = end less in cc)) in
    let long : length (take n buffer) ≡ most =
    omega (arith, length-take-le n buffer count, all, count, room) in
    sym (drop-append_seam (take n buffer) (x ∷ xs))
    ∙ ap (λ m. drop m (take n buffer ++ x ∷ xs)) long ∙ ap (drop most) (sym moved)

-- and all others are left
abbrev pub IsLeft : ℕ → List ℕ → List File → Type 0
IsLeft i later files = (bytes : List ℕ) →
    slice_get (map (λ file. file.bytes) files) i ≡ Some bytes → later ≡ drop (frame_limit + 1) bytes

left_in : (files : Option (List File)) (i : ℕ) (left later buffer : List ℕ) (n : ℕ) →
    length buffer ≡ frame_limit + 1 → n ≤ length buffer → IfSome files (HasBytes i left) →
    (IsSome files → left ≡ take n buffer ++ later) →
    (IsSome files → n < length buffer → later ≡ []) → IfSome files (IsLeft i later)
left_in None i left later buffer n room count has moved end = tt
left_in (Some files) i left later buffer n room count has moved end = λ bytes is.
    let same : left ≡ bytes = let one : Some left ≡ Some bytes = sym has ∙ is in cc in
    rest (frame_limit + 1) left later buffer n room count (moved refl) (end refl)
    ∙ ap (drop (frame_limit + 1)) same

pub left_after : (first begun : Source) (i : ℕ) (left later buffer : List ℕ) (n : ℕ) →
    begun ≡ first → length buffer ≡ frame_limit + 1 → n ≤ length buffer →
    IfSome begun.files (HasBytes i left) →
    (IsSome begun.files → left ≡ take n buffer ++ later) →
    (IsSome begun.files → n < length buffer → later ≡ []) → IfSome first.files (IsLeft i later)
left_after first begun i left later buffer n same room count has moved end =
    subst (λ (source : Source). IfSome source.files (IsLeft i later)) same
    (left_in begun.files i left later buffer n room count has moved end)

-- they are no more than that
few_bytes : (buffer : List ℕ) (n : ℕ) → length buffer ≡ frame_limit + 1 → n ≤ length buffer →
    take n buffer ≡ first_bytes (take n buffer)
few_bytes buffer n room count = short (frame_limit + 1) buffer n room count

-- ---- the visit of one file

-- What the file at place i of a source was read to be, from its begun file on.
pub record WasChecked (first begun read : Source) (i : ℕ) (name left bytes : List ℕ) : Type 0 where
  pub begun_same : begun ≡ first
  pub read_same : read ≡ begun
  pub listed : IfSome first.files (AreNames first.names)
  pub whole : IfSome begun.files (HasBytes i left)
  pub named : slice_get read.names i ≡ Some name
  pub few : bytes ≡ first_bytes bytes
  pub exact : IsSome begun.files → bytes ≡ first_bytes left

-- as many bytes of the file as a buffer has room for
pub was_checked : (first begun read : Source) (i : ℕ) (name left later buffer : List ℕ) (n : ℕ) →
    begun ≡ first → read ≡ begun → IfSome first.files (AreNames first.names) →
    IfSome begun.files (HasBytes i left) → slice_get read.names i ≡ Some name →
    length buffer ≡ frame_limit + 1 → n ≤ length buffer →
    (IsSome begun.files → left ≡ take n buffer ++ later) →
    (IsSome begun.files → n < length buffer → later ≡ []) →
    WasChecked first begun read i name left (take n buffer)
was_checked first begun read i name left later buffer n same again listed whole named room count
    moved end = record {
      begun_same = same;
      read_same = again;
      listed = listed;
      whole = whole;
      named = named;
      few = few_bytes buffer n room count;
      exact = λ some. filled left later buffer n room count (moved some) (end some);
    }

seen : (first begun read : Source) (i : ℕ) (name left bytes : List ℕ) →
    WasChecked first begun read i name left bytes →
    WasSeen RightCheckByName RightCheck (RightCheckFor name bytes) first begun read i name left
seen first begun read i name left bytes was = record {
  begun_same = was.begun_same;
  read_same = was.read_same;
  listed = was.listed;
  whole = was.whole;
  named = was.named;
  by_name = λ visit right.
      (bytes, subst (λ (b : List ℕ). RightCheckFor name b visit) was.few right);
  by_file = λ some visit right.
      subst (λ (b : List ℕ). RightCheckFor name b visit) (was.exact some) right;
}

pub checked_at : (first begun read : Source) (i : ℕ) (name left bytes : List ℕ) (visit : Visit) →
    WasChecked first begun read i name left bytes → RightCheckFor name bytes visit →
    IsVisitAt RightCheckByName RightCheck first i visit
checked_at first begun read i name left bytes visit was right =
    seen_at RightCheckByName RightCheck (RightCheckFor name bytes) first begun read i name left
    visit (seen first begun read i name left bytes was) right

pub check_broke_at : (first begun read : Source) (i : ℕ) (name left bytes : List ℕ)
    (s0 s1 : Option (List ℕ)) → WasChecked first begun read i name left bytes →
    VisitBrokeOff (RightCheckFor name bytes) None None s0 s1 →
    FrameBrokeOff RightCheckByName RightCheck first i None None s0 s1
check_broke_at first begun read i name left bytes s0 s1 was broken =
    broke_at RightCheckByName RightCheck (RightCheckFor name bytes) first begun read i name left
    None None s0 s1 (seen first begun read i name left bytes was) broken

-- ---- the whole run

-- a visit that is right has no output
no_output : (name bytes : List ℕ) (visit : Visit) → RightCheckFor name bytes visit →
    visit.output ≡ None
no_output name bytes visit (inl right) = ap (λ (v : Visit). v.output) right.is
no_output name bytes visit (inr right) = ap (λ (v : Visit). v.output) right.is

no_outputs : (names : List (List ℕ)) (visits : List Visit) →
    AreRight RightCheckByName names visits → flat_map outputs_of visits ≡ []
no_outputs [] [] right = refl
no_outputs (name ∷ names) (visit ∷ visits) right =
    let own : outputs_of visit ≡ [] =
    ap one_or_none (no_output name (first_bytes right.0.0) visit right.0.1) in
    let later : flat_map outputs_of visits ≡ [] = no_outputs names visits right.1 in
    ap (λ (files : List File). files ++ flat_map outputs_of visits) own ∙ later
no_outputs [] (visit ∷ visits) right = absurd right
no_outputs (name ∷ names) [] right = absurd right

-- outputs that hold nothing hold what these visits have
holds_nothing : (k : Option Kept) (made : Kept) → ForSome k (λ kept. kept ≡ kept_nothing) →
    made ≡ kept_nothing → IfSome k (λ kept. kept ≡ made)
holds_nothing None made none is = tt
holds_nothing (Some kept) made none is = none kept refl ∙ sym is

-- a run over all files, whatever its outputs keep
pub all_checked : (source : Source) (k : Option Kept) (s0 s1 : Option (List ℕ)) (some : Bool)
    (status : ℕ) → ForSome k (λ kept. kept ≡ kept_nothing) →
    IfSome source.files (AreNames source.names) →
    FramesVisited RightCheckByName RightCheck source (length source.names) None None s0 s1 some →
    status ≡ (if some then 1 else 0) → Leaves RightCheckByName RightCheck source k s1 status
all_checked source k s0 s1 some status none listed done is =
    let all : Leaves RightCheckByName RightCheck source None s1 status =
    all_visited RightCheckByName RightCheck source None None s0 s1 some status listed done is in
    record {
      visits = all.visits;
      named = all.named;
      known = all.known;
      kept = holds_nothing k (kept_after all.visits) none
          (ap (λ (files : List File). record { finished = files; unfinished = None })
          (no_outputs source.names all.visits all.named));
      said = all.said;
      refusals = all.refusals;
    }

-- what the outputs keep at a point of a visit that is right
kept_there : (names : List (List ℕ)) (n : ℕ) (point : Point) (files : List File) → IsPoint point →
    IsPointAt RightCheckByName names n point → files ≡ [] → kept_at point files ≡ kept_nothing
kept_there names n Before files is here none =
    ap (λ (fs : List File). record { finished = fs; unfinished = None }) none
kept_there names n (Writing visit file k) files is here none =
    absurd (let some : Some file ≡ None = sym is.0
    ∙ no_output here.0 (first_bytes here.2.0) visit here.2.1 in cc)
kept_there names n (Saying visit k) files is here none =
    let own : outputs_of visit ≡ [] =
    ap one_or_none (no_output here.0 (first_bytes here.2.0) visit here.2.1) in
    ap (λ (fs : List File). record { finished = fs ++ outputs_of visit; unfinished = None }) none
    ∙ ap (λ (fs : List File). record { finished = fs; unfinished = None }) own

-- a run that broke off
pub check_broken : (source : Source) (n : ℕ) (k : Option Kept) (s0 s1 : Option (List ℕ)) →
    ForSome k (λ kept. kept ≡ kept_nothing) →
    FramesBrokeOff RightCheckByName RightCheck source n None None s0 s1 →
    RunBrokeOff RightCheckByName RightCheck source n k s1
check_broken source n k s0 s1 none broken =
    let all : RunBrokeOff RightCheckByName RightCheck source n None s1 =
    run_broken RightCheckByName RightCheck source n None None s0 s1 broken in
    record {
      visits = all.visits;
      right = all.right;
      point = all.point;
      is_point = all.is_point;
      place = all.place;
      kept = holds_nothing k (kept_at all.point (flat_map outputs_of all.visits)) none
          (kept_there source.names n all.point (flat_map outputs_of all.visits) all.is_point
          all.place.named (no_outputs (take n source.names) all.visits all.right.named));
      said = all.said;
    }
