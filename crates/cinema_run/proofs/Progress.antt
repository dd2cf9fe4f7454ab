-- How a run goes on, frame by frame.
use Rattle.std.proofs.Common.{◌≡◌, ℕ, zero, suc, ◌+◌, ◌||◌, ◌↔◌, if◌then◌else◌, Bool, true}
use Rattle.std.proofs.Common.{false, List, [], ◌∷◌, ◌++◌, Option, Some, None, IsTrue, IfSome}
use Rattle.std.proofs.Common.{length, map, take, slice_get, option_map, refl, sym, ◌∙◌, ap, subst}
use Rattle.std.proofs.Common.{arith, add-one}
use Rattle.std.specs.Option.{ForSome}
use Rattle.std.specs.List.{flat_map, list_any}
use Rattle.std.proofs.Math.Seq.{take-length}
use Rattle.std.proofs.lemmas.List.{append-nil, length-map}
use Rattle.std.proofs.lemmas.Grind.{flat_map-append}
use Rattle.cine_ports.specs.Outputs.{Kept, kept_nothing}
use Rattle.cine_ports.specs.Source.{File, Source}
use Rattle.cine_ports.specs.WholePieces.{said_with}
use Rattle.cinema_run.specs.Output.{kept_and}
use Rattle.cinema_run.specs.Visit.{Visit, outputs_of, Before, kept_at, said_at}
use Rattle.cinema_run.specs.Progress.{kept_after, said_after, AreRight, IsRightAt, IsPointAt}
use Rattle.cinema_run.specs.Progress.{IsVisitAt, AreVisitsOf, FrameVisited}
use Rattle.cinema_run.specs.Progress.{FrameBrokeOff, FramesVisited, FramesBrokeOff}
use Rattle.cinema_run.specs.Run.{Leaves, RunBrokeOff}

-- one more of a list's prefix
take_suc : {A : Type 0} (xs : List A) (i : ℕ) (x : A) → slice_get xs i ≡ Some x →
    take (suc i) xs ≡ take i xs ++ x ∷ []
take_suc [] i x h = cc
take_suc (y ∷ ys) zero x h = let e : y ≡ x = cc in ap (λ z. z ∷ []) e
take_suc (y ∷ ys) (suc i) x h = ap (λ zs. y ∷ zs) (take_suc ys i x h)

take_one_more : {A : Type 0} (xs : List A) (i : ℕ) (x : A) → slice_get xs i ≡ Some x →
    take (i + 1) xs ≡ take i xs ++ x ∷ []
take_one_more xs i x h = ap (λ n. take n xs) (add-one i) ∙ take_suc xs i x h

any_one_more : {A : Type 0} (p : A → Bool) (xs : List A) (x : A) →
    list_any p (xs ++ x ∷ []) ≡ (list_any p xs || p x)
any_one_more p [] x = elim (p x) as
    (λ b. (b || false) ≡ (false || b)) [ true ↦ refl | false ↦ refl ]
any_one_more p (y ∷ ys) x = elim (p y) as
    (λ b. (b || list_any p (ys ++ x ∷ []))
    ≡ ((b || list_any p ys) || p x)) [ true ↦ refl | false ↦ any_one_more p ys x ]

flat_one_more : {A B : Type 0} (f : A → List B) (xs : List A) (x : A) →
    flat_map f (xs ++ x ∷ []) ≡ flat_map f xs ++ f x
flat_one_more f xs x = flat_map-append f xs (x ∷ [])
    ∙ ap (λ zs. flat_map f xs ++ zs) (append-nil (f x))

-- outputs after one frame more
kept_more : (visits : List Visit) (v : Visit) (k0 k1 k2 : Option Kept) →
    k1 ≡ option_map (λ kept. kept_after visits) k0 → k2 ≡ option_map (kept_and (outputs_of v)) k1 →
    k2 ≡ option_map (λ kept. kept_after (visits ++ v ∷ [])) k0
kept_more visits v None k1 k2 p q = q ∙ ap (option_map (kept_and (outputs_of v))) p
kept_more visits v (Some kept) k1 k2 p q =
    q ∙ ap (option_map (kept_and (outputs_of v))) p
    ∙ ap (λ (files : List File). Some (record { finished = files; unfinished = None }))
    (sym (flat_one_more outputs_of visits v))

-- the report after one frame more
said_more : (visits : List Visit) (v : Visit) (s0 s1 s2 : Option (List ℕ)) →
    s1 ≡ option_map (λ said. said_after visits) s0 → s2 ≡ option_map (said_with v.line) s1 →
    s2 ≡ option_map (λ said. said_after (visits ++ v ∷ [])) s0
said_more visits v None s1 s2 p q = q ∙ ap (option_map (said_with v.line)) p
said_more visits v (Some said) s1 s2 p q =
    q ∙ ap (option_map (said_with v.line)) p
    ∙ ap Some (sym (flat_one_more (λ (visit : Visit). visit.line) visits v))

-- one more visit that is right
right_more : {A : Type 0} (R : A → Visit → Type 0) (xs : List A) (visits : List Visit) (v : Visit)
    (i : ℕ) → AreRight R (take i xs) visits → IsRightAt R xs i v →
    AreRight R (take (i + 1) xs) (visits ++ v ∷ [])
right_more {A} R xs visits v i p q =
    subst (λ ys. AreRight R ys (visits ++ v ∷ [])) (sym (take_one_more xs i q.0 q.1))
    (go (take i xs) visits p)
  where
    go : (ys : List A) (vs : List Visit) → AreRight R ys vs →
        AreRight R (ys ++ q.0 ∷ []) (vs ++ v ∷ [])
    go [] [] p = (q.2, tt)
    go (y ∷ ys) (w ∷ vs) p = (p.0, go ys vs p.1)
    go [] (w ∷ vs) p = absurd p
    go (y ∷ ys) [] p = absurd p

known_more : (R : File → Visit → Type 0) (files : Option (List File)) (visits : List Visit)
    (v : Visit) (i : ℕ) → IfSome files (λ files. AreRight R (take i files) visits) →
    IfSome files (λ files. IsRightAt R files i v) →
    IfSome files (λ files. AreRight R (take (i + 1) files) (visits ++ v ∷ []))
known_more R None visits v i p q = tt
known_more R (Some files) visits v i p q = right_more R files visits v i p q

visits_more : (Q : List ℕ → Visit → Type 0) (R : File → Visit → Type 0) (source : Source)
    (visits : List Visit) (v : Visit) (i : ℕ) → AreVisitsOf Q R source i visits →
    IsVisitAt Q R source i v → AreVisitsOf Q R source (i + 1) (visits ++ v ∷ [])
visits_more Q R source visits v i p q = record {
  named = right_more Q source.names visits v i p.named q.named;
  known = known_more R source.files visits v i p.known q.known;
}

-- no visit yet
no_visits : (Q : List ℕ → Visit → Type 0) (R : File → Visit → Type 0) (source : Source) →
    AreVisitsOf Q R source 0 []
no_visits Q R source = record { named = tt; known = known source.files }
  where
    known : (files : Option (List File)) → IfSome files (λ files. AreRight R (take 0 files) [])
    known None = tt
    known (Some files) = tt

-- outputs that hold nothing
kept_none : (k : Option Kept) → ForSome k (λ kept. kept ≡ kept_nothing) →
    k ≡ option_map (λ kept. kept_after []) k
kept_none None h = refl
kept_none (Some kept) h = ap Some (h kept refl)

-- a report that says nothing
said_none : (s : Option (List ℕ)) → ForSome s (λ said. said ≡ []) →
    s ≡ option_map (λ said. said_after []) s
said_none None h = refl
said_none (Some said) h = ap Some (h said refl)

-- at the start
pub none_visited : (Q : List ℕ → Visit → Type 0) (R : File → Visit → Type 0) (source : Source)
    (k : Option Kept) (s : Option (List ℕ)) → ForSome k (λ kept. kept ≡ kept_nothing) →
    ForSome s (λ said. said ≡ []) → FramesVisited Q R source 0 k k s s false
none_visited Q R source k s none nothing = record {
  visits = [];
  right = no_visits Q R source;
  kept = kept_none k none;
  said = said_none s nothing;
  refused = refl;
}

-- one frame on
pub one_more_visited : (Q : List ℕ → Visit → Type 0) (R : File → Visit → Type 0) (source : Source)
    (i : ℕ) (k0 k1 k2 : Option Kept) (s0 s1 s2 : Option (List ℕ)) (some one : Bool) →
    FramesVisited Q R source i k0 k1 s0 s1 some → FrameVisited Q R source i k1 k2 s1 s2 one →
    FramesVisited Q R source (i + 1) k0 k2 s0 s2 (some || one)
one_more_visited Q R source i k0 k1 k2 s0 s1 s2 some one done next = record {
  visits = done.visits ++ next.visit ∷ [];
  right = visits_more Q R source done.visits next.visit i done.right next.is_visit;
  kept = kept_more done.visits next.visit k0 k1 k2 done.kept next.kept;
  said = said_more done.visits next.visit s0 s1 s2 done.said next.said;
  refused =
      ap (λ b. b || one) done.refused
      ∙ ap (λ b. list_any (λ (v : Visit). v.refused) done.visits || b) next.refused
      ∙ sym (any_one_more (λ (v : Visit). v.refused) done.visits next.visit);
}

-- nothing is unfinished between two frames
pub visited_rest : (Q : List ℕ → Visit → Type 0) (R : File → Visit → Type 0) (source : Source)
    (i : ℕ) (k0 k1 : Option Kept) (s0 s1 : Option (List ℕ)) (some : Bool) →
    FramesVisited Q R source i k0 k1 s0 s1 some → ForSome k1 (λ kept. kept.unfinished ≡ None)
visited_rest Q R source i None k1 s0 s1 some done =
    λ kept e. absurd (let none : k1 ≡ None = done.kept in cc)
visited_rest Q R source i (Some k0) k1 s0 s1 some done = λ kept e.
    let same : kept ≡ kept_after done.visits = let is : k1 ≡ Some (kept_after done.visits) =
    done.kept in cc in
    ap (λ (k : Kept). k.unfinished) same

-- where the visits broke off
pub visited_then_broken : (Q : List ℕ → Visit → Type 0) (R : File → Visit → Type 0)
    (source : Source) (i : ℕ) (k0 k1 k2 : Option Kept) (s0 s1 s2 : Option (List ℕ)) (some : Bool) →
    FramesVisited Q R source i k0 k1 s0 s1 some → FrameBrokeOff Q R source i k1 k2 s1 s2 →
    FramesBrokeOff Q R source i k0 k2 s0 s2
visited_then_broken Q R source i k0 k1 k2 s0 s1 s2 some done broken = record {
  visits = done.visits;
  right = done.right;
  point = broken.point;
  is_point = broken.is_point;
  place = broken.place;
  kept = kept_there k0 (broken.kept
      ∙ ap (option_map (λ (kept : Kept). kept_at broken.point kept.finished)) done.kept);
  said = said_there s0 (broken.said ∙ ap (option_map (said_at broken.point)) done.said);
}
  where
    kept_there : (k0 : Option Kept) →
        k2 ≡ option_map (λ (kept : Kept). kept_at broken.point kept.finished)
        (option_map (λ kept. kept_after done.visits) k0) →
        k2 ≡ option_map (λ kept. kept_at broken.point (flat_map outputs_of done.visits)) k0
    kept_there None e = e
    kept_there (Some k) e = e

    said_there : (s0 : Option (List ℕ)) →
        s2 ≡ option_map (said_at broken.point) (option_map (λ said. said_after done.visits) s0) →
        s2 ≡ option_map (λ said. said_at broken.point (said_after done.visits)) s0
    said_there None e = e
    said_there (Some s) e = e

-- visits that broke off before the first frame
pub none_broken : (Q : List ℕ → Visit → Type 0) (R : File → Visit → Type 0) (source : Source)
    (n : ℕ) (k : Option Kept) (s : Option (List ℕ)) → n ≡ 0 →
    ForSome k (λ kept. kept ≡ kept_nothing) → ForSome s (λ said. said ≡ []) →
    FramesBrokeOff Q R source n k k s s
none_broken Q R source n k s first none nothing =
    subst (λ (m : ℕ). FramesBrokeOff Q R source m k k s s) (sym first) (record {
      visits = [];
      right = no_visits Q R source;
      point = Before;
      is_point = tt;
      place = record { named = omega arith; known = known source.files };
      kept = kept_none k none;
      said = said_none s nothing;
    })
  where
    known : (files : Option (List File)) → IfSome files (λ files. IsPointAt R files 0 Before)
    known None = tt
    known (Some files) = omega arith

-- ---- the end of a run

-- what an object holds that is made of whatever it held before
pub from_before : {A : Type 0} (before now : Option A) (made : A) →
    now ≡ option_map (λ _. made) before → IfSome now (λ held. held ≡ made)
from_before before None made is = tt
from_before None (Some held) made is = absurd cc
from_before (Some old) (Some held) made is = let same : made ≡ held = cc in sym same

all_known : (R : File → Visit → Type 0) (files : Option (List File)) (names : List (List ℕ))
    (visits : List Visit) → IfSome files (λ files. names ≡ map (λ file. file.name) files) →
    IfSome files (λ files. AreRight R (take (length names) files) visits) →
    IfSome files (λ files. AreRight R files visits)
all_known R None names visits listed right = tt
all_known R (Some files) names visits listed right =
    let count : length names ≡ length files = ap (λ (ns : List (List ℕ)). length ns) listed
    ∙ length-map files (λ (file : File). file.name) in
    subst (λ (fs : List File). AreRight R fs visits)
    (ap (λ n. take n files) count ∙ take-length files) right

pub status_1 : (some : Bool) (status : ℕ) → status ≡ (if some then 1 else 0) →
    (status ≡ 1) ↔ IsTrue some
status_1 true status is = (λ e. refl, λ e. is)
status_1 false status is = (λ e. absurd (omega (arith, is, e)), λ e. absurd cc)

-- a run over all frames
pub all_visited : (Q : List ℕ → Visit → Type 0) (R : File → Visit → Type 0) (source : Source)
    (k0 k1 : Option Kept) (s0 s1 : Option (List ℕ)) (some : Bool) (status : ℕ) →
    IfSome source.files (λ files. source.names ≡ map (λ file. file.name) files) →
    FramesVisited Q R source (length source.names) k0 k1 s0 s1 some →
    status ≡ (if some then 1 else 0) → Leaves Q R source k1 s1 status
all_visited Q R source k0 k1 s0 s1 some status listed done is = record {
  visits = done.visits;
  named = subst (λ (ns : List (List ℕ)). AreRight Q ns done.visits)
      (take-length source.names) done.right.named;
  known = all_known R source.files source.names done.visits listed done.right.known;
  kept = from_before k0 k1 (kept_after done.visits) done.kept;
  said = from_before s0 s1 (said_after done.visits) done.said;
  refusals =
      subst (λ (b : Bool). (status ≡ 1) ↔ IsTrue b) done.refused (status_1 some status is);
}

-- a run that broke off
pub run_broken : (Q : List ℕ → Visit → Type 0) (R : File → Visit → Type 0) (source : Source) (n : ℕ)
    (k0 k1 : Option Kept) (s0 s1 : Option (List ℕ)) → FramesBrokeOff Q R source n k0 k1 s0 s1 →
    RunBrokeOff Q R source n k1 s1
run_broken Q R source n k0 k1 s0 s1 broken = record {
  visits = broken.visits;
  right = broken.right;
  point = broken.point;
  is_point = broken.is_point;
  place = broken.place;
  kept = from_before k0 k1 (kept_at broken.point (flat_map outputs_of broken.visits)) broken.kept;
  said = from_before s0 s1 (said_at broken.point (said_after broken.visits)) broken.said;
}
