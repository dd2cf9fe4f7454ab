-- Segments that are passed over, and where they end.
use Rattle.std.proofs.Common.{◌≡◌, ℕ, suc, ◌+◌, ◌-◌, ◌/◌, ◌%◌, ◌<◌, ◌≤◌, ◌⊎◌, ◌==◌, inl}
use Rattle.std.proofs.Common.{inr, Bool, true, false}
use Rattle.std.proofs.Common.{List, [], ◌∷◌, ◌++◌, Some, None, arith, ◌∙◌, sym, ap, refl}
use Rattle.std.proofs.Common.{append_assoc}
use Rattle.std.proofs.Common.{get_or, take, drop, length, add-zero, subst}
use Rattle.std.specs.List.{flat_map, All}
use Rattle.std.proofs.lemmas.List.{length-append, length-drop, length-take-le, take-append-drop}
use Rattle.std.proofs.lemmas.List.{append-nil}
use Rattle.std.proofs.lemmas.List.Elements.{All-nil, All-push}
use Rattle.std.proofs.lemmas.Grind.{flat_map-append}
use Rattle.std.proofs.lemmas.Bool.Decides.{nat_tests}
use Rattle.cine_nums.specs.Bytes.{word_at, word_bytes}
use Rattle.cine_nums.specs.Faults.{first_fault}
use Rattle.cine_nums.specs.Segments.{Segment, segment_bytes}
use Rattle.cine_nums.proofs.ByteLemmas.{byte_here, first_here, step_on, word_again}
use Rattle.tile_parts.specs.Spelling.{IsSegment}
use Rattle.tile_parts.specs.Refusals.{is_passed, marker_rows, StandUpTo}
use Rattle.tile_parts.specs.Inside.{IsPassed}
use Rattle.tile_parts.specs.declared.refusal.PartRefusal.{PartRefusal}
use Rattle.tile_parts.proofs.NumberLemmas.{AreBytes, two_here, word_small}

segment_width : (s : Segment) → length (segment_bytes s) ≡ 4 + length s.content
segment_width s = omega arith

passed_marker : (m : ℕ) → is_passed m ≡ true → (m ≡ 0xFF64) ⊎ (m ≡ 0xFF58)
passed_marker m is =
    let go : (t : Bool) → (m == 0xFF64) ≡ t → (m ≡ 0xFF64) ⊎ (m ≡ 0xFF58) =
    λ t. elim t as (λ v. (m == 0xFF64) ≡ v → (m ≡ 0xFF64) ⊎ (m ≡ 0xFF58)) [
      | true ↦ λ e. inl (grind (arith, nat_tests))
      | false ↦ λ e. inr (grind (arith, nat_tests))
    ] in
    go (m == 0xFF64) refl

marker_passed : (m : ℕ) → (m ≡ 0xFF64) ⊎ (m ≡ 0xFF58) → is_passed m ≡ true
marker_passed m (inl e) = grind (arith, nat_tests)
marker_passed m (inr e) = grind (arith, nat_tests)

-- a segment of the grammar that stands in the tile-part is passed over
pub segment_there : (bytes rest : List ℕ) (p stop : ℕ) (s : Segment) → IsSegment s
    → drop p bytes ≡ segment_bytes s ++ rest → p + length (segment_bytes s) ≤ stop
    → IsPassed bytes p stop (p + length (segment_bytes s))
segment_there bytes rest p stop s segment is inside =
    let xs = segment_bytes s ++ rest in
    let width : length (segment_bytes s) ≡ 4 + length s.content = segment_width s in
    let b0 : get_or bytes p 0 ≡ s.marker / 256 = first_here bytes xs p is in
    let b1 : get_or bytes (p + 1) 0 ≡ s.marker % 256 = byte_here bytes xs p 1 is in
    let b2 : get_or bytes (p + 2) 0 ≡ (length s.content + 2) / 256 = byte_here bytes xs p 2 is in
    let b3 : get_or bytes (p + 2 + 1) 0 ≡ (length s.content + 2) % 256 =
    ap (λ q. get_or bytes q 0) (omega arith) ∙ byte_here bytes xs p 3 is in
    let marker : word_at bytes p ≡ s.marker = omega (arith, b0, b1, word_again s.marker) in
    let size : word_at bytes (p + 2) ≡ length s.content + 2 =
    omega (arith, b2, b3, word_again (length s.content + 2)) in
    record {
      marker = ap is_passed marker ∙ marker_passed s.marker segment.marker;
      some = omega arith;
      room = omega arith;
      next_is = omega arith;
      inside = inside;
    }

-- segments up to a place, none at first, then one more
pub stand_none : (bytes : List ℕ) (p : ℕ) → StandUpTo bytes p p
stand_none bytes p = record {
  segments = [];
  each = All-nil IsSegment;
  bytes_are = refl;
  to_is = sym (add-zero p);
}

pub stand_more : (bytes : List ℕ) (from p stop next : ℕ) → AreBytes bytes → stop ≤ length bytes
    → StandUpTo bytes from p → IsPassed bytes p stop next → StandUpTo bytes from next
stand_more bytes from p stop next small within before there =
    let size = word_at bytes (p + 2) in
    let some : 2 ≤ size = there.some in
    let room : p + 4 ≤ stop = there.room in
    let next_is : next ≡ p + 2 + size = there.next_is in
    let inside : next ≤ stop = there.inside in
    let few : size < 65536 = word_small bytes (p + 2) small in
    let content = take (size - 2) (drop (p + 4) bytes) in
    let left : length (drop (p + 4) bytes) ≡ length bytes - (p + 4) = length-drop (p + 4) bytes in
    let width : length content ≡ size - 2 =
    length-take-le (size - 2) (drop (p + 4) bytes) (omega arith) in
    let back = drop (size - 2) (drop (p + 4) bytes) in
    let cut : drop (p + 4) bytes ≡ content ++ back =
    sym (take-append-drop (size - 2) (drop (p + 4) bytes)) in
    let step : drop (p + 4 + length content) bytes ≡ back =
    step_on bytes content back (p + 4) (omega arith) cut in
    let place : p + 4 + length content ≡ next = omega arith in
    let after : back ≡ drop next bytes = sym step ∙ ap (λ q. drop q bytes) place in
    let length_is : size ≡ length content + 2 = omega arith in
    let two : p + 2 + 2 ≡ p + 4 = omega arith in
    let inner : drop (p + 2) bytes ≡ word_bytes (length content + 2)
    ++ (content ++ drop next bytes) =
    two_here bytes (p + 2) small (omega arith)
    ∙ ap (λ q. word_bytes size ++ drop q bytes) two
    ∙ ap (λ t. word_bytes size ++ t) (cut ∙ ap (λ t. content ++ t) after)
    ∙ ap (λ n. word_bytes n ++ (content ++ drop next bytes)) length_is in
    let s : Segment = record { marker = word_at bytes p; content = content } in
    let bytes_are : drop p bytes ≡ segment_bytes s ++ drop next bytes =
    two_here bytes p small (omega arith) ∙ ap (λ t. word_bytes (word_at bytes p) ++ t) inner in
    let is_segment : IsSegment s =
    record { marker = passed_marker (word_at bytes p) there.marker; short = omega arith } in
    let first = flat_map segment_bytes before.segments in
    let one : flat_map segment_bytes (s ∷ []) ≡ segment_bytes s = append-nil (segment_bytes s) in
    let all : flat_map segment_bytes (before.segments ++ s ∷ []) ≡ first ++ segment_bytes s =
    flat_map-append segment_bytes before.segments (s ∷ []) ∙ ap (λ t. first ++ t) one in
    let sum : length (flat_map segment_bytes (before.segments ++ s ∷ [])) ≡ length first
    + length (segment_bytes s) =
    ap length all ∙ length-append first (segment_bytes s) in
    record {
      segments = before.segments ++ s ∷ [];
      each = All-push IsSegment before.segments s before.each is_segment;
      bytes_are = before.bytes_are
          ∙ ap (λ t. first ++ t) bytes_are
          ∙ sym (append_assoc first (segment_bytes s) (drop next bytes))
          ∙ ap (λ t. t ++ drop next bytes) (sym all);
      to_is = (let p_is = before.to_is in omega (arith, segment_width s));
    }

-- no whole segment stands in the tile-part at a place
abbrev pub NoSegment : List ℕ → ℕ → ℕ → Type 0
NoSegment bytes p stop = (next : ℕ) → IsPassed bytes p stop next → ⊥

sod_is_none : (m : ℕ) → m ≡ 0xFF93 → is_passed m ≡ true → ⊥
sod_is_none m e h = grind (arith, nat_tests)

pub sod_ends : (bytes : List ℕ) (p stop : ℕ) → word_at bytes p ≡ 0xFF93 → NoSegment bytes p stop
sod_ends bytes p stop is next there = sod_is_none (word_at bytes p) is there.marker

passed_rows : (bytes : List ℕ) (p stop next : ℕ) → is_passed (word_at bytes p) ≡ true
    → 2 ≤ word_at bytes (p + 2) → p + 4 ≤ stop → next ≡ p + 2 + word_at bytes (p + 2) → next ≤ stop
    → first_fault (marker_rows bytes p stop) ≡ None
passed_rows bytes p stop next marker some room to inside = grind (arith, nat_tests)

pub fault_ends : (bytes : List ℕ) (p stop : ℕ) (e : PartRefusal)
    → first_fault (marker_rows bytes p stop) ≡ Some e → NoSegment bytes p stop
fault_ends bytes p stop e is next t =
    let none = passed_rows bytes p stop next t.marker t.some t.room t.next_is t.inside in cc

sod_rows : (bytes : List ℕ) (p stop : ℕ) → word_at bytes p ≡ 0xFF93 → p + 2 ≤ stop
    → first_fault (marker_rows bytes p stop) ≡ None
sod_rows bytes p stop marker inside = grind (arith, nat_tests)

pub sod_no_fault : (bytes : List ℕ) (p stop : ℕ) (e : PartRefusal) → word_at bytes p ≡ 0xFF93
    → p + 2 ≤ stop → first_fault (marker_rows bytes p stop) ≡ Some e → ⊥
sod_no_fault bytes p stop e marker inside is = let none = sod_rows bytes p stop marker inside in cc

-- segments end at one place alone
ends_at : (bytes x y : List ℕ) (stop a b : ℕ) (xs ys : List Segment) (p : ℕ) → p ≤ length bytes
    → All IsSegment xs → All IsSegment ys
    → drop p bytes ≡ flat_map segment_bytes xs ++ x → drop p bytes ≡ flat_map segment_bytes ys ++ y
    → a ≡ p + length (flat_map segment_bytes xs) → b ≡ p + length (flat_map segment_bytes ys)
    → a ≤ stop → b ≤ stop → stop ≤ length bytes → NoSegment bytes a stop → NoSegment bytes b stop
    → a ≡ b
ends_at bytes x y stop a b [] [] p below ex ey ix iy ax bx ia ib within na nb = ax ∙ sym bx
ends_at bytes x y stop a b [] (t ∷ ys) p below ex ey ix iy ax bx ia ib within na nb =
    let more = flat_map segment_bytes ys in
    let widths = length-append (segment_bytes t) more in
    let here : p ≡ a = omega arith in
    let there = segment_there bytes (more ++ y) p stop t (ey 0 t (omega arith))
    (iy ∙ append_assoc (segment_bytes t) more y) (omega (arith, widths)) in
    absurd (na _ (subst (λ q. IsPassed bytes q stop (p + length (segment_bytes t))) here there))
ends_at bytes x y stop a b (s ∷ xs) [] p below ex ey ix iy ax bx ia ib within na nb =
    let more = flat_map segment_bytes xs in
    let widths = length-append (segment_bytes s) more in
    let here : p ≡ b = omega arith in
    let there = segment_there bytes (more ++ x) p stop s (ex 0 s (omega arith))
    (ix ∙ append_assoc (segment_bytes s) more x) (omega (arith, widths)) in
    absurd (nb _ (subst (λ q. IsPassed bytes q stop (p + length (segment_bytes s))) here there))
ends_at bytes x y stop a b (s ∷ xs) (t ∷ ys) p below ex ey ix iy ax bx ia ib within na nb =
    let xmore = flat_map segment_bytes xs in
    let ymore = flat_map segment_bytes ys in
    let xw = length-append (segment_bytes s) xmore in
    let yw = length-append (segment_bytes t) ymore in
    let jx = ix ∙ append_assoc (segment_bytes s) xmore x in
    let jy = iy ∙ append_assoc (segment_bytes t) ymore y in
    let one = segment_there bytes (xmore ++ x) p stop s (ex 0 s (omega arith)) jx
    (omega (arith, xw)) in
    let two = segment_there bytes (ymore ++ y) p stop t (ey 0 t (omega arith)) jy
    (omega (arith, yw)) in
    let same : p + length (segment_bytes s) ≡ p + length (segment_bytes t) =
    one.next_is ∙ sym two.next_is in
    let next = p + length (segment_bytes s) in
    let kx : drop next bytes ≡ xmore ++ x = step_on bytes (segment_bytes s) (xmore
    ++ x) p below jx in
    let ky : drop next bytes ≡ ymore ++ y =
    ap (λ q. drop q bytes) same ∙ step_on bytes (segment_bytes t) (ymore ++ y) p below jy in
    ends_at bytes x y stop a b xs ys next (omega (arith, xw))
    (λ k d h. ex (suc k) d (omega (arith, h))) (λ k d h. ey (suc k) d (omega (arith, h))) kx ky
    (omega (arith, xw)) (omega (arith, yw)) ia ib within na nb

pub ends_once : (bytes : List ℕ) (from stop a b : ℕ) → from ≤ length bytes
    → StandUpTo bytes from a → StandUpTo bytes from b → a ≤ stop → b ≤ stop → stop ≤ length bytes
    → NoSegment bytes a stop → NoSegment bytes b stop → a ≡ b
ends_once bytes from stop a b below x y ia ib within na nb =
    ends_at bytes (drop a bytes) (drop b bytes) stop a b x.segments y.segments from below x.each
    y.each
    x.bytes_are y.bytes_are x.to_is y.to_is ia ib within na nb
