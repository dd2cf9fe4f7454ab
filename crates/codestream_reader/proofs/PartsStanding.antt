-- Tile-parts stand where the first one stands and the others after it, and so do their faults.
use Rattle.std.proofs.Common.{◌≡◌, ℕ, zero, suc, ◌+◌, List, [], ◌∷◌, ◌++◌, length, take, drop, refl}
use Rattle.std.proofs.Common.{ap, sym, ◌∙◌, arith, append_assoc, length-append, subst, Option, Some, None}
use Rattle.std.specs.Prelude.{slice_get}
use Rattle.std.proofs.lemmas.List.{drop-drop, drop_at}
use Rattle.std.proofs.lemmas.List.Sums.{sum_by-cons}
use Rattle.band_geometry.specs.declared.geometry.Geometry.{Geometry}
use Rattle.dz_quantiser.specs.declared.steps.StepSizes.{StepSizes}
use Rattle.profile_reader.specs.Words.{PartWhole, PartsFit, part_bytes, parts_bytes, part_size}
use Rattle.profile_reader.specs.Words.{body_bytes}
use Rattle.tile_parts.specs.Spelling.{head_with}
use Rattle.codestream_reader.specs.Standing.{PartStands, PartsStand}
use Rattle.codestream_reader.specs.PartFaults.{PartFault, PartsFault}
use Rattle.codestream_reader.specs.declared.refusal.ReadRefusal.{ReadRefusal}

pub part_length : (index : ℕ) (w : PartWhole) → length (part_bytes index w) ≡ part_size w
part_length index w =
    length-append (head_with (part_size w) index w.tnsot w.segments) (body_bytes w)

pub record Divided (g : Geometry) (steps : StepSizes) (bytes : List ℕ)
    (at to index count size : ℕ) (sizes : List ℕ) (w : PartWhole) (ws : List PartWhole)
    : Type 0 where
  pub first : PartStands g steps bytes at index count size w
  pub later : PartsStand g steps bytes (at + size) to (index + 1) count sizes ws

pub divided : (g : Geometry) (steps : StepSizes) (bytes : List ℕ) (at to index count size : ℕ)
    (sizes : List ℕ) (w : PartWhole) (ws : List PartWhole) →
    PartsStand g steps bytes at to index count (size ∷ sizes) (w ∷ ws) →
    Divided g steps bytes at to index count size sizes w ws
unfolding PartsFit parts_bytes
divided g steps bytes at to index count size sizes w ws stand =
    let rest = parts_bytes (index + 1) ws ++ drop to bytes in
    let split : drop at bytes ≡ part_bytes index w ++ rest =
    stand.bytes_are
    ∙ append_assoc (part_bytes index w) (parts_bytes (index + 1) ws) (drop to bytes) in
    let after : drop (at + size) bytes ≡ rest =
    sym (drop-drop size at bytes) ∙ ap (drop size) split
    ∙ drop_at (part_bytes index w) rest size (part_length index w ∙ stand.fits.0.size_is) in
    record {
      first = record {
        fits = stand.fits.0;
        bytes_are = split ∙ ap (λ t. part_bytes index w ++ t) (sym after);
      };
      later = record {
        fits = stand.fits.1;
        bytes_are = after;
        to_is =
            let to_is = stand.to_is in
            let total = sum_by-cons (λ (n : ℕ). n) size sizes in
            omega (arith, to_is, total);
      };
    }

pub united : (g : Geometry) (steps : StepSizes) (bytes : List ℕ) (at to index count size : ℕ)
    (sizes : List ℕ) (w : PartWhole) (ws : List PartWhole) →
    PartStands g steps bytes at index count size w →
    PartsStand g steps bytes (at + size) to (index + 1) count sizes ws →
    PartsStand g steps bytes at to index count (size ∷ sizes) (w ∷ ws)
unfolding PartsFit parts_bytes
united g steps bytes at to index count size sizes w ws first later = record {
  fits = (first.fits, later.fits);
  bytes_are =
      first.bytes_are ∙ ap (λ t. part_bytes index w ++ t) later.bytes_are
      ∙ sym (append_assoc (part_bytes index w) (parts_bytes (index + 1) ws) (drop to bytes));
  to_is =
      let end = later.to_is in
      let total = sum_by-cons (λ (n : ℕ). n) size sizes in
      omega (arith, end, total);
}

-- no tile-parts end where they begin
pub none_stand : (g : Geometry) (steps : StepSizes) (bytes : List ℕ) (at index count : ℕ) →
    PartsStand g steps bytes at at index count [] []
unfolding PartsFit parts_bytes
none_stand g steps bytes at index count =
    record { fits = tt; bytes_are = refl; to_is = omega arith }

-- and nothing else ends there
pub ends : (g : Geometry) (steps : StepSizes) (bytes : List ℕ) (at to index count : ℕ)
    (rest : List PartWhole) → PartsStand g steps bytes at to index count [] rest →
    (rest ≡ []) × (at ≡ to)
unfolding PartsFit
ends g steps bytes at to index count [] s =
    (refl, (let to_is = s.to_is in omega (arith, to_is)))
ends g steps bytes at to index count (w ∷ ws) s = absurd s.fits

-- the tile-parts of a list that isn't empty
pub record IsLonger (g : Geometry) (steps : StepSizes) (bytes : List ℕ)
    (at to index count size : ℕ) (sizes : List ℕ) (all : List PartWhole) : Type 0 where
  pub w : PartWhole
  pub ws : List PartWhole
  pub all_are : all ≡ w ∷ ws
  pub divided : Divided g steps bytes at to index count size sizes w ws

pub longer : (g : Geometry) (steps : StepSizes) (bytes : List ℕ) (at to index count size : ℕ)
    (sizes : List ℕ) (all : List PartWhole) →
    PartsStand g steps bytes at to index count (size ∷ sizes) all →
    IsLonger g steps bytes at to index count size sizes all
unfolding PartsFit
longer g steps bytes at to index count size sizes [] stand = absurd stand.fits
longer g steps bytes at to index count size sizes (w ∷ ws) stand = record {
  w = w;
  ws = ws;
  all_are = refl;
  divided = divided g steps bytes at to index count size sizes w ws stand;
}

-- The first tile-parts from an index on stand, and the next has a fault.
pub record FaultFrom (g : Geometry) (steps : StepSizes) (bytes : List ℕ)
    (from index count : ℕ) (sizes places : List ℕ) (refusal : ReadRefusal) : Type 0 where
  pub ahead : ℕ
  pub at : ℕ
  pub size : ℕ
  pub size_at : ℕ
  pub before : List PartWhole
  pub stand : PartsStand g steps bytes from at index count (take ahead sizes) before
  pub size_is : slice_get sizes ahead ≡ Some size
  pub size_place : slice_get places ahead ≡ Some size_at
  pub fault : PartFault g steps bytes at (index + ahead) count size size_at refusal

pub from_fault : (g : Geometry) (steps : StepSizes) (bytes : List ℕ) (from : ℕ)
    (sizes places : List ℕ) (refusal : ReadRefusal) →
    PartsFault g steps bytes from sizes places refusal →
    FaultFrom g steps bytes from 0 (length sizes) sizes places refusal
from_fault g steps bytes from sizes places refusal f = record {
  ahead = f.index;
  at = f.at;
  size = f.size;
  size_at = f.size_at;
  before = f.before;
  stand = f.stand;
  size_is = f.size_is;
  size_place = f.size_place;
  fault = subst (λ n. PartFault g steps bytes f.at n (length sizes) f.size f.size_at refusal)
      (let e : f.index ≡ 0 + f.index = omega arith in e) f.fault;
}

pub to_fault : (g : Geometry) (steps : StepSizes) (bytes : List ℕ) (from : ℕ)
    (sizes places : List ℕ) (refusal : ReadRefusal) →
    FaultFrom g steps bytes from 0 (length sizes) sizes places refusal →
    PartsFault g steps bytes from sizes places refusal
to_fault g steps bytes from sizes places refusal f = record {
  index = f.ahead;
  at = f.at;
  size = f.size;
  size_at = f.size_at;
  before = f.before;
  stand = f.stand;
  size_is = f.size_is;
  size_place = f.size_place;
  fault = subst (λ n. PartFault g steps bytes f.at n (length sizes) f.size f.size_at refusal)
      (let e : 0 + f.ahead ≡ f.ahead = omega arith in e) f.fault;
}

pub later_fault : (g : Geometry) (steps : StepSizes) (bytes : List ℕ)
    (at index count size size_at : ℕ) (sizes places : List ℕ) (w : PartWhole)
    (refusal : ReadRefusal) → PartStands g steps bytes at index count size w →
    FaultFrom g steps bytes (at + size) (index + 1) count sizes places refusal →
    FaultFrom g steps bytes at index count (size ∷ sizes) (size_at ∷ places) refusal
later_fault g steps bytes at index count size size_at sizes places w refusal stands f = record {
  ahead = suc f.ahead;
  at = f.at;
  size = f.size;
  size_at = f.size_at;
  before = w ∷ f.before;
  stand = united g steps bytes at f.at index count size (take f.ahead sizes) w f.before stands
      f.stand;
  size_is = f.size_is;
  size_place = f.size_place;
  fault = subst (λ n. PartFault g steps bytes f.at n count f.size f.size_at refusal)
      (let e : index + 1 + f.ahead ≡ index + suc f.ahead = omega arith in e) f.fault;
}

pub first_fault : (g : Geometry) (steps : StepSizes) (bytes : List ℕ)
    (at index count size size_at : ℕ) (sizes places : List ℕ) (refusal : ReadRefusal) →
    PartFault g steps bytes at index count size size_at refusal →
    FaultFrom g steps bytes at index count (size ∷ sizes) (size_at ∷ places) refusal
first_fault g steps bytes at index count size size_at sizes places refusal f = record {
  ahead = 0;
  at = at;
  size = size;
  size_at = size_at;
  before = [];
  stand = none_stand g steps bytes at index count;
  size_is = refl;
  size_place = refl;
  fault = subst (λ n. PartFault g steps bytes at n count size size_at refusal)
      (let e : index ≡ index + 0 = omega arith in e) f;
}

pub data FaultCases (g : Geometry) (steps : StepSizes) (bytes : List ℕ)
    (at index count size size_at : ℕ) (sizes places : List ℕ) (refusal : ReadRefusal)
    : Type 0 where
  of_first : PartFault g steps bytes at index count size size_at refusal
      → FaultCases g steps bytes at index count size size_at sizes places refusal
  of_later : (w : PartWhole) → PartStands g steps bytes at index count size w
      → FaultFrom g steps bytes (at + size) (index + 1) count sizes places refusal
      → FaultCases g steps bytes at index count size size_at sizes places refusal

some_once : (a b : ℕ) → Some a ≡ Some b → a ≡ b
some_once a b e = cc

pub cases_of : (g : Geometry) (steps : StepSizes) (bytes : List ℕ)
    (at index count size size_at : ℕ) (sizes places : List ℕ) (refusal : ReadRefusal) →
    FaultFrom g steps bytes at index count (size ∷ sizes) (size_at ∷ places) refusal →
    FaultCases g steps bytes at index count size size_at sizes places refusal
unfolding PartsFit
cases_of g steps bytes at index count size size_at sizes places refusal f =
    by f.ahead f.before f.stand f.size_is f.size_place f.fault
  where
    by : (ahead : ℕ) (before : List PartWhole) →
        PartsStand g steps bytes at f.at index count (take ahead (size ∷ sizes)) before →
        slice_get (size ∷ sizes) ahead ≡ Some f.size →
        slice_get (size_at ∷ places) ahead ≡ Some f.size_at →
        PartFault g steps bytes f.at (index + ahead) count f.size f.size_at refusal →
        FaultCases g steps bytes at index count size size_at sizes places refusal
    by zero before stand size_is size_place fault =
        let here : f.at ≡ at = sym (ends g steps bytes at f.at index count before stand).1 in
        let same = some_once size f.size size_is in
        let same_place = some_once size_at f.size_at size_place in
        of_first (subst (λ n. PartFault g steps bytes n index count size size_at refusal) here
        (subst (λ n. PartFault g steps bytes f.at n count size size_at refusal)
        (let e : index + 0 ≡ index = omega arith in e)
        (subst (λ n. PartFault g steps bytes f.at (index + 0) count n size_at refusal) (sym same)
        (subst (λ n. PartFault g steps bytes f.at (index + 0) count f.size n refusal)
        (sym same_place) fault))))
    by (suc ahead) [] stand size_is size_place fault = absurd stand.fits
    by (suc ahead) (w ∷ before) stand size_is size_place fault =
        let parts = divided g steps bytes at f.at index count size (take ahead sizes) w before
        stand in
        of_later w parts.first (record {
          ahead = ahead;
          at = f.at;
          size = f.size;
          size_at = f.size_at;
          before = before;
          stand = parts.later;
          size_is = size_is;
          size_place = size_place;
          fault = subst (λ n. PartFault g steps bytes f.at n count f.size f.size_at refusal)
              (let e : index + suc ahead ≡ index + 1 + ahead = omega arith in e) fault;
        })

pub none_fault : (g : Geometry) (steps : StepSizes) (bytes : List ℕ) (at index count : ℕ)
    (places : List ℕ) (refusal : ReadRefusal) →
    FaultFrom g steps bytes at index count [] places refusal → ⊥
none_fault g steps bytes at index count places refusal f = no_some f.size f.size_is
  where
    no_some : (a : ℕ) → ◌≡◌ {A = Option ℕ} None (Some a) → ⊥
    no_some a e = cc
