-- The visit of a file that was begun, read and named is right for its name, and for the file where
-- it is known. Q and R say which visits are right for a name and for a file; V says it of what was
-- read.
use Rattle.std.proofs.Common.{◌≡◌, ℕ, zero, suc, ◌<◌, List, [], ◌∷◌, Option, Some, None}
use Rattle.std.proofs.Common.{IsSome, IfSome, length, map, slice_get, refl, sym, ◌∙◌, ap, subst}
use Rattle.std.proofs.Common.{arith}
use Rattle.std.proofs.lemmas.Option.{slice_get_within}
use Rattle.std.proofs.lemmas.List.{length-map}
use Rattle.std.specs.Option.{ForSome}
use Rattle.cine_ports.specs.Source.{File, Source}
use Rattle.cine_ports.specs.Outputs.{Kept}
use Rattle.cinema_run.specs.Visit.{Visit, Point, Before, Writing, Saying}
use Rattle.cinema_run.specs.Progress.{IsRightAt, IsPointAt, IsOneOf, IsVisitAt, IsPointOf}
use Rattle.cinema_run.specs.Progress.{VisitBrokeOff, FrameBrokeOff}
use Rattle.cinema_run.proofs.Breaks.{rest_same, said_same}

-- the names of files
abbrev pub AreNames : List (List ℕ) → List File → Type 0
AreNames names files = names ≡ map (λ file. file.name) files

-- the bytes of the file at a place
abbrev pub HasBytes : ℕ → List ℕ → List File → Type 0
HasBytes i left files = slice_get (map (λ file. file.bytes) files) i ≡ Some left

-- What the file at place i of a source was seen to be, from its begun file on: a visit that is right
-- by what was read is right for its name and its file.
pub record WasSeen (Q : List ℕ → Visit → Type 0) (R : File → Visit → Type 0)
    (V : Visit → Type 0) (first begun read : Source) (i : ℕ) (name left : List ℕ) : Type 0 where
  pub begun_same : begun ≡ first
  pub read_same : read ≡ begun
  pub listed : IfSome first.files (AreNames first.names)
  pub whole : IfSome begun.files (HasBytes i left)
  pub named : slice_get read.names i ≡ Some name
  pub by_name : (visit : Visit) → V visit → Q name visit
  pub by_file : IsSome begun.files → (visit : Visit) → V visit →
      R (record { name = name; bytes = left }) visit

named_first : (Q : List ℕ → Visit → Type 0) (R : File → Visit → Type 0) (V : Visit → Type 0)
    (first begun read : Source) (i : ℕ) (name left : List ℕ) →
    WasSeen Q R V first begun read i name left → slice_get first.names i ≡ Some name
named_first Q R V first begun read i name left was =
    subst (λ (s : Source). slice_get s.names i ≡ Some name)
    (was.read_same ∙ was.begun_same) was.named

-- the file at a place, by its name and bytes
at_place : (R : File → Visit → Type 0) (files : List File) (i : ℕ) (name bytes : List ℕ)
    (visit : Visit) → HasBytes i bytes files →
    slice_get (map (λ file. file.name) files) i ≡ Some name →
    R (record { name = name; bytes = bytes }) visit → IsRightAt R files i visit
at_place R [] i name bytes visit p q right = absurd cc
at_place R (file ∷ files) zero name bytes visit p q right =
    let same_bytes : bytes ≡ file.bytes = cc in
    let same_name : name ≡ file.name = cc in (
      file,
      refl,
      subst (λ (n : List ℕ). R (record { name = n; bytes = file.bytes }) visit) same_name
          (subst (λ (b : List ℕ). R (record { name = name; bytes = b }) visit) same_bytes right),
    )
at_place R (file ∷ files) (suc i) name bytes visit p q right =
    at_place R files i name bytes visit p q right

-- the same, where the files are known
known_place : (R : File → Visit → Type 0) (files : Option (List File)) (names : List (List ℕ))
    (i : ℕ) (name left : List ℕ) (visit : Visit) → IfSome files (AreNames names) →
    IfSome files (HasBytes i left) → slice_get names i ≡ Some name →
    (IsSome files → R (record { name = name; bytes = left }) visit) →
    IfSome files (λ files. IsRightAt R files i visit)
known_place R None names i name left visit listed whole named right = tt
known_place R (Some files) names i name left visit listed whole named right =
    at_place R files i name left visit whole
    (subst (λ (ns : List (List ℕ)). slice_get ns i ≡ Some name) listed named) (right refl)

-- the visit of the file
pub seen_at : (Q : List ℕ → Visit → Type 0) (R : File → Visit → Type 0) (V : Visit → Type 0)
    (first begun read : Source) (i : ℕ) (name left : List ℕ) (visit : Visit) →
    WasSeen Q R V first begun read i name left → V visit → IsVisitAt Q R first i visit
seen_at Q R V first begun read i name left visit was right =
    let named = named_first Q R V first begun read i name left was in
    record {
      named = (name, named, was.by_name visit right);
      known = known_place R first.files first.names i name left visit was.listed
          (subst (λ (s : Source). IfSome s.files (HasBytes i left)) was.begun_same was.whole) named
          (λ some. was.by_file
          (subst (λ (s : Source). IsSome s.files) (sym was.begun_same) some) visit right);
    }

-- a place of a listed name is one of the known files
place_known : (files : Option (List File)) (names : List (List ℕ)) (i : ℕ) (name : List ℕ) →
    IfSome files (AreNames names) → slice_get names i ≡ Some name → (R : File → Visit → Type 0) →
    IfSome files (λ files. IsPointAt R files i Before)
place_known None names i name listed named R = tt
place_known (Some files) names i name listed named R =
    let at : slice_get (map (λ (file : File). file.name) files) i ≡ Some name =
    subst (λ (ns : List (List ℕ)). slice_get ns i ≡ Some name) listed named in
    let within = slice_get_within (map (λ (file : File). file.name) files) i name at in
    omega (arith, length-map files (λ (file : File). file.name))

-- a point of its visit
point_at : (Q : List ℕ → Visit → Type 0) (R : File → Visit → Type 0) (V : Visit → Type 0)
    (first begun read : Source) (i : ℕ) (name left : List ℕ) (point : Point) →
    WasSeen Q R V first begun read i name left → IsOneOf V point → IsPointOf Q R first i point
point_at Q R V first begun read i name left Before was of =
    let named = named_first Q R V first begun read i name left was in
    let within = slice_get_within first.names i name named in
    record {
      named = omega (arith, within);
      known = place_known first.files first.names i name was.listed named R;
    }
point_at Q R V first begun read i name left (Writing v file k) was of =
    let here = seen_at Q R V first begun read i name left v was of in
    record { named = here.named; known = here.known }
point_at Q R V first begun read i name left (Saying v k) was of =
    let here = seen_at Q R V first begun read i name left v was of in
    record { named = here.named; known = here.known }

-- where its visit broke off
pub broke_at : (Q : List ℕ → Visit → Type 0) (R : File → Visit → Type 0) (V : Visit → Type 0)
    (first begun read : Source) (i : ℕ) (name left : List ℕ) (k0 k1 : Option Kept)
    (s0 s1 : Option (List ℕ)) → WasSeen Q R V first begun read i name left →
    VisitBrokeOff V k0 k1 s0 s1 → FrameBrokeOff Q R first i k0 k1 s0 s1
broke_at Q R V first begun read i name left k0 k1 s0 s1 was broken = record {
  point = broken.point;
  is_point = broken.is_point;
  place = point_at Q R V first begun read i name left broken.point was broken.of_visit;
  kept = broken.kept;
  said = broken.said;
}

-- a file of which nothing was read
pub not_read : (Q : List ℕ → Visit → Type 0) (R : File → Visit → Type 0) (source : Source) (i : ℕ)
    (k : Option Kept) (s : Option (List ℕ)) → i < length source.names →
    IfSome source.files (AreNames source.names) → ForSome k (λ kept. kept.unfinished ≡ None) →
    FrameBrokeOff Q R source i k k s s
not_read Q R source i k s within listed rest = record {
  point = Before;
  is_point = tt;
  place = record { named = omega (arith, within); known = known source.files listed };
  kept = rest_same k rest;
  said = said_same s;
}
  where
    known : (files : Option (List File)) → IfSome files (AreNames source.names) →
        IfSome files (λ files. IsPointAt R files i Before)
    known None listed = tt
    known (Some files) listed =
        let count = ap (λ (ns : List (List ℕ)). length ns) listed in
        omega (arith, within, count, length-map files (λ (file : File). file.name))
