-- Bytes at a place spell one tile-part, or have one first fault, and never both.
use Rattle.std.proofs.Common.{◌≡◌, ℕ, ◌+◌, ◌<◌, ◌≤◌, List, Some, None, Result, Ok, Err, MatchResult}
use Rattle.std.proofs.Common.{IfOk, IfErr}
use Rattle.std.proofs.Common.{arith, ◌∙◌, sym, ap, subst, length}
use Rattle.cine_nums.specs.Bytes.{word_at, long_at}
use Rattle.cine_nums.specs.Faults.{first_fault}
use Rattle.tile_parts.specs.Head.{Sot}
use Rattle.tile_parts.specs.Spelling.{Spells}
use Rattle.tile_parts.specs.Refusals.{sot_rows, marker_rows, StandUpTo, IsRefused}
use Rattle.tile_parts.specs.Refusals.IsRefused.{short, field, marker}
use Rattle.tile_parts.specs.Inside.{sot_at}
use Rattle.tile_parts.specs.declared.part.Part.{Part}
use Rattle.tile_parts.specs.declared.refusal.PartRefusal.{PartRefusal}
use Rattle.tile_parts.specs.declared.refusal.PartRefusal.TheVariants.{BadTilePart}
use Rattle.tile_parts.proofs.SotLemmas.{room_of, sot_once, sot_is}
use Rattle.tile_parts.proofs.SegmentLemmas.{sod_ends, fault_ends, sod_no_fault, ends_once}
use Rattle.tile_parts.proofs.SpellingLemmas.{IsPart, spelled_is_part}

same_part : (a b : Part) → a.length ≡ b.length → a.body ≡ b.body → a.stop ≡ b.stop → a ≡ b
same_part a b length body stop =
    let part : ℕ → ℕ → ℕ → Part = λ l o s. record { length = l; body = o; stop = s } in
    ap (λ l. part l a.body a.stop) length
    ∙ ap (λ o. part b.length o a.stop) body
    ∙ ap (λ s. part b.length b.body s) stop

-- where a tile-part ends, which no row refuses
inside_of : (bytes : List ℕ) (at index count : ℕ)
    → first_fault (sot_rows at (length bytes) index count (sot_at bytes at)) ≡ None
    → at + long_at bytes (at + 6) ≤ length bytes
inside_of bytes at index count rows =
    (sot_is at (length bytes) index count (sot_at bytes at) rows).inside

stop_of : (bytes : List ℕ) (at index count : ℕ) (part : Part) → IsPart bytes at index count part
    → part.stop ≡ at + long_at bytes (at + 6)
stop_of bytes at index count part is = is.stop_is ∙ ap (λ n. at + n) is.length_is

part_once : (bytes : List ℕ) (at index count : ℕ) (a b : Part) → IsPart bytes at index count a
    → IsPart bytes at index count b → a ≡ b
part_once bytes at index count a b here there =
    let x : a.stop ≡ at + long_at bytes (at + 6) = stop_of bytes at index count a here in
    let y : b.stop ≡ at + long_at bytes (at + 6) = stop_of bytes at index count b there in
    let within : at + long_at bytes (at + 6) ≤ length bytes =
    inside_of bytes at index count here.rows in
    let hs : here.to + 2 ≤ a.stop = here.sod.inside in
    let ts : there.to + 2 ≤ b.stop = there.sod.inside in
    let same : here.to ≡ there.to =
    ends_once bytes (at + 12) (at + long_at bytes (at + 6)) here.to there.to here.room
    here.stand
    there.stand (omega arith) (omega arith) within
    (sod_ends bytes here.to (at + long_at bytes (at + 6)) here.sod.marker)
    (sod_ends bytes there.to (at + long_at bytes (at + 6)) there.sod.marker) in
    same_part a b (here.length_is ∙ sym there.length_is)
    (here.body_is ∙ ap (λ t. t + 2) same ∙ sym there.body_is) (x ∙ sym y)

-- a first fault, by the fields that are read
pub data IsFault (bytes : List ℕ) (at index count : ℕ) (e : PartRefusal) : Type 0 where
  of_room : length bytes < at + 12 → e ≡ BadTilePart at → IsFault bytes at index count e
  of_field : at + 12 ≤ length bytes
      → first_fault (sot_rows at (length bytes) index count (sot_at bytes at)) ≡ Some e
      → IsFault bytes at index count e
  of_marker : (to : ℕ) → at + 12 ≤ length bytes
      → first_fault (sot_rows at (length bytes) index count (sot_at bytes at)) ≡ None
      → StandUpTo bytes (at + 12) to → to ≤ at + long_at bytes (at + 6)
      → first_fault (marker_rows bytes to (at + long_at bytes (at + 6))) ≡ Some e
      → IsFault bytes at index count e

is_fault : (bytes : List ℕ) (at index count : ℕ) (e : PartRefusal) → at ≤ length bytes
    → IsRefused bytes at index count e → IsFault bytes at index count e
is_fault bytes at index count e below (short few is) = of_room few is
is_fault bytes at index count e below (field f has is) =
    of_field (room_of bytes at f below has)
    (subst (λ (g : Sot). first_fault (sot_rows at (length bytes) index count g) ≡ Some e)
    (sot_once bytes at f has) is)
is_fault bytes at index count e below (marker f to has none stand inside is) =
    let same = sot_once bytes at f has in
    let psot : f.psot ≡ long_at bytes (at + 6) = ap (λ (g : Sot). g.psot) same in
    of_marker to (room_of bytes at f below has)
    (subst (λ (g : Sot). first_fault (sot_rows at (length bytes) index count g) ≡ None) same none)
    stand (subst (λ n. to ≤ at + n) psot inside)
    (subst (λ n. first_fault (marker_rows bytes to (at + n)) ≡ Some e) psot is)

part_or_fault : (bytes : List ℕ) (at index count : ℕ) (a : Part) (e : PartRefusal)
    → IsPart bytes at index count a → IsFault bytes at index count e → ⊥
part_or_fault bytes at index count a e here (of_room few is) = let room = here.room in omega arith
part_or_fault bytes at index count a e here (of_field room is) = let rows = here.rows in cc
part_or_fault bytes at index count a e here (of_marker to room none stand inside is) =
    let x : a.stop ≡ at + long_at bytes (at + 6) = stop_of bytes at index count a here in
    let within : at + long_at bytes (at + 6) ≤ length bytes = inside_of bytes at index count none in
    let hs : here.to + 2 ≤ a.stop = here.sod.inside in
    let same : here.to ≡ to =
    ends_once bytes (at + 12) (at + long_at bytes (at + 6)) here.to to room here.stand stand
    (omega arith) inside within
    (sod_ends bytes here.to (at + long_at bytes (at + 6)) here.sod.marker)
    (fault_ends bytes to (at + long_at bytes (at + 6)) e is) in
    sod_no_fault bytes to (at + long_at bytes (at + 6)) e
    (subst (λ p. word_at bytes p ≡ 0xFF93) same here.sod.marker) (omega arith) is

fault_once : (bytes : List ℕ) (at index count : ℕ) (e f : PartRefusal)
    → IsFault bytes at index count e → IsFault bytes at index count f → e ≡ f
fault_once bytes at index count e f (of_room few is) (of_room few' is') = is ∙ sym is'
fault_once bytes at index count e f (of_room few is) (of_field room is') = absurd (omega arith)
fault_once bytes at index count e f (of_room few is) (of_marker to room none stand inside is') =
    absurd (omega arith)
fault_once bytes at index count e f (of_field room is) (of_room few is') = absurd (omega arith)
fault_once bytes at index count e f (of_field room is) (of_field room' is') = cc
fault_once bytes at index count e f (of_field room is) (of_marker to room' none stand inside is') =
    cc
fault_once bytes at index count e f (of_marker to room none stand inside is) (of_room few is') =
    absurd (omega arith)
fault_once bytes at index count e f (of_marker to room none stand inside is) (of_field room' is') =
    cc
fault_once bytes at index count e f (of_marker to room none stand inside is)
    (of_marker to' room' none' stand' inside' is') =
    let stop = at + long_at bytes (at + 6) in
    let same : to ≡ to' =
    ends_once bytes (at + 12) stop to to' room stand stand' inside inside'
    (inside_of bytes at index count none) (fault_ends bytes to stop e is)
    (fault_ends bytes to' stop f is') in
    let here = subst (λ p. first_fault (marker_rows bytes p stop) ≡ Some e) same is in cc

-- so what is right is what is returned
pub part_returned : (bytes : List ℕ) (at index count : ℕ) (r : Result Part PartRefusal)
    → at ≤ length bytes
    → MatchResult r (Spells bytes at index count) (IsRefused bytes at index count)
    → (part : Part) → Spells bytes at index count part → r ≡ Ok part
part_returned bytes at index count (Ok p) below is part here =
    ap (λ q. Ok q) (part_once bytes at index count p part
    (spelled_is_part bytes at index count p below is)
    (spelled_is_part bytes at index count part below here))
part_returned bytes at index count (Err e) below is part here =
    absurd (part_or_fault bytes at index count part e
    (spelled_is_part bytes at index count part below here)
    (is_fault bytes at index count e below is))

pub fault_returned : (bytes : List ℕ) (at index count : ℕ) (r : Result Part PartRefusal)
    → at ≤ length bytes
    → MatchResult r (Spells bytes at index count) (IsRefused bytes at index count)
    → (fault : PartRefusal) → IsRefused bytes at index count fault → r ≡ Err fault
fault_returned bytes at index count (Ok p) below is fault here =
    absurd (part_or_fault bytes at index count p fault
    (spelled_is_part bytes at index count p below is)
    (is_fault bytes at index count fault below here))
fault_returned bytes at index count (Err e) below is fault here =
    ap (λ f. Err f) (fault_once bytes at index count e fault
    (is_fault bytes at index count e below is)
    (is_fault bytes at index count fault below here))

-- and what is returned is right
pub is_part : (bytes : List ℕ) (at index count : ℕ) (r : Result Part PartRefusal)
    → MatchResult r (Spells bytes at index count) (IsRefused bytes at index count)
    → IfOk r (Spells bytes at index count)
is_part bytes at index count (Ok p) is = is
is_part bytes at index count (Err e) is = tt

pub is_refused : (bytes : List ℕ) (at index count : ℕ) (r : Result Part PartRefusal)
    → MatchResult r (Spells bytes at index count) (IsRefused bytes at index count)
    → IfErr r (IsRefused bytes at index count)
is_refused bytes at index count (Ok p) is = tt
is_refused bytes at index count (Err e) is = is
