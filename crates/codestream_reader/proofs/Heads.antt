-- A tile-part stands where its head is spelled and its packets fill it.
use Rattle.std.proofs.Common.{◌≡◌, ℕ, ◌+◌, ◌-◌, ◌≤◌, List, ◌++◌, length, take, drop, refl, ap}
use Rattle.std.proofs.Common.{sym, ◌∙◌, arith, slice_range, subst, append_assoc, length-append}
use Rattle.std.proofs.Common.{length-drop, get_or, Bool, true, false, ◌==◌, nat_lt}
use Rattle.std.specs.List.{All, AllPairs}
use Rattle.std.specs.Prelude.{if◌then◌else◌, not}
use Rattle.std.proofs.lemmas.Bool.{eq-eqb, ltb-true}
use Rattle.std.proofs.lemmas.List.{take_at, drop_at, drop-drop}
use Rattle.cine_nums.specs.Segments.{Segment}
use Rattle.band_geometry.specs.declared.geometry.Geometry.{Geometry}
use Rattle.dz_quantiser.specs.declared.steps.StepSizes.{StepSizes}
use Rattle.packet_order.specs.Order.{comes_before, ordered_packets, place_of}
use Rattle.packet_order.specs.declared.packet.PacketId.{PacketId}
use Rattle.packet_order.proofs.MemberLemmas.{ordered_are_packets}
use Rattle.packet_order.proofs.StrictLemmas.{packets_strict}
use Rattle.profile_reader.specs.Words.{PacketWhole, PartWhole, body_bytes, part_size}
use Rattle.profile_reader.specs.Words.{part_bytes}
use Rattle.tile_parts.specs.Spelling.{Spells, head_with}
use Rattle.tile_parts.specs.declared.part.Part.{Part}
use Rattle.codestream_reader.specs.Spans.{IsPacket}
use Rattle.codestream_reader.specs.Standing.{PacketsFill, PartStands}

-- the length of a head doesn't depend on its numbers
head_length : (n m i j t u : ℕ) (segments : List Segment) →
    length (head_with n i t segments) ≡ length (head_with m j u segments)
head_length n m i j t u segments = refl

-- the places of a tile-part that is spelled
pub record IsPlaced (bytes : List ℕ) (at index count : ℕ) (part : Part)
    (s : Spells bytes at index count part) : Type 0 where
  pub order : part.body ≤ part.stop
  pub inside : part.stop ≤ length bytes
  pub body : slice_range bytes part.body part.stop ≡ s.packets

pub placed : (bytes : List ℕ) (at index count : ℕ) (part : Part)
    (s : Spells bytes at index count part) → at ≤ length bytes →
    IsPlaced bytes at index count part s
placed bytes at index count part s begins = record {
  order = omega (arith, psot, body, stop);
  inside = omega (arith, psot, stop, whole, begins);
  body =
      ap (λ n. slice_range bytes n part.stop) body
      ∙ ap (λ n. take n (drop (at + length head) bytes))
      (let e : part.stop - (at + length head) ≡ length s.packets = omega (arith, psot, stop) in e)
      ∙ ap (take (length s.packets)) (sym (drop-drop (length head) at bytes)
      ∙ ap (drop (length head)) s.spelled
      ∙ drop_at head (s.packets ++ s.rest) (length head) refl)
      ∙ take_at s.packets s.rest (length s.packets) refl;
}
  where
    head : List ℕ
    head = head_with part.length index s.tnsot s.segments

    psot : part.length ≡ length head + length s.packets
    psot = s.psot_is

    body : part.body ≡ at + length head
    body = s.body_is

    stop : part.stop ≡ at + part.length
    stop = s.stop_is

    whole : length bytes - at ≡ length head + (length s.packets + length s.rest)
    whole = sym (length-drop at bytes) ∙ ap (λ (t : List ℕ). length t) s.spelled
        ∙ length-append head (s.packets ++ s.rest)
        ∙ ap (λ n. length head + n) (length-append s.packets s.rest)

-- a head that is spelled, and packets that fill the rest, are a tile-part
pub filled_part : (g : Geometry) (steps : StepSizes) (bytes : List ℕ) (at index count : ℕ)
    (part : Part) (ws : List PacketWhole) → at ≤ length bytes →
    (s : Spells bytes at index count part) →
    PacketsFill g steps bytes part.body part.stop (ordered_packets g index) ws →
    (w : PartWhole) × PartStands g steps bytes at index count part.length w
filled_part g steps bytes at index count part ws begins s fill = (
  w,
  record {
    fits = record { segments = s.each; count_is = s.count_is; size_is = size; packets = fill.fits };
    bytes_are =
        s.spelled
        ∙ ap (λ t. head ++ (t ++ s.rest)) packets
        ∙ sym (append_assoc head (body_bytes w) s.rest)
        ∙ ap (λ n. (head_with n index s.tnsot s.segments ++ body_bytes w) ++ s.rest) (sym size)
        ∙ ap (λ t. part_bytes index w ++ t) rest;
  },
)
  where
    w : PartWhole
    w = record { segments = s.segments; tnsot = s.tnsot; packets = ws }

    head : List ℕ
    head = head_with part.length index s.tnsot s.segments

    packets : s.packets ≡ body_bytes w
    packets = sym (placed bytes at index count part s begins).body ∙ fill.bytes_are

    size : part_size w ≡ part.length
    size = ap (λ n. length head + n) (ap (λ (t : List ℕ). length t) (sym packets))
        ∙ sym s.psot_is

    rest : s.rest ≡ drop (at + part.length) bytes
    rest = sym (ap (λ n. drop (at + n) bytes) s.psot_is
        ∙ sym (drop-drop (length head + length s.packets) at bytes)
        ∙ ap (drop (length head + length s.packets))
        (s.spelled ∙ sym (append_assoc head s.packets s.rest))
        ∙ drop_at (head ++ s.packets) s.rest (length head + length s.packets)
        (length-append head s.packets))

-- and a tile-part that stands is spelled so
pub record IsSpelled (g : Geometry) (steps : StepSizes) (bytes : List ℕ)
    (at index count size : ℕ) (w : PartWhole) (part : Part) : Type 0 where
  pub spells : Spells bytes at index count part
  pub length_is : part.length ≡ size
  pub stop_is : part.stop ≡ at + size
  pub fill : PacketsFill g steps bytes part.body part.stop (ordered_packets g index) w.packets

pub part_of : ℕ → ℕ → ℕ → PartWhole → Part
part_of at index size w = record {
  length = size;
  body = at + length (head_with size index w.tnsot w.segments);
  stop = at + size;
}

pub stands_spelled : (g : Geometry) (steps : StepSizes) (bytes : List ℕ)
    (at index count size : ℕ) (w : PartWhole) → at ≤ length bytes →
    PartStands g steps bytes at index count size w →
    IsSpelled g steps bytes at index count size w (part_of at index size w)
unfolding part_of
stands_spelled g steps bytes at index count size w begins stands = record {
  spells = s;
  length_is = refl;
  stop_is = refl;
  fill = record {
    fits = stands.fits.packets;
    bytes_are = (placed bytes at index count (part_of at index size w) s begins).body;
  };
}
  where
    head : List ℕ
    head = head_with size index w.tnsot w.segments

    s : Spells bytes at index count (part_of at index size w)
    s = record {
      segments = w.segments;
      tnsot = w.tnsot;
      packets = body_bytes w;
      rest = drop (at + size) bytes;
      each = stands.fits.segments;
      count_is = stands.fits.count_is;
      spelled = stands.bytes_are
          ∙ ap (λ n. (head_with n index w.tnsot w.segments ++ body_bytes w)
          ++ drop (at + size) bytes) stands.fits.size_is
          ∙ append_assoc head (body_bytes w) (drop (at + size) bytes);
      psot_is = sym stands.fits.size_is;
      body_is = refl;
      stop_is = refl;
    }

-- the packets of a tile-part are packets of the frame
pub of_frame : (g : Geometry) (index : ℕ) (ids : List PacketId) → ids ≡ ordered_packets g index →
    All (IsPacket g) ids
of_frame g index ids are =
    subst (λ (l : List PacketId). All (IsPacket g) l) (sym are) (λ k d below.
    let is = ordered_are_packets g index k d below in
    record {
      component = is.component;
      res = is.res;
      held = refl;
      column = is.column;
      row = is.row;
    })

either : (p q y x r : Bool) → p ≡ true → q ≡ true →
    (if not p then y else if not q then x else r) ≡ true → r ≡ true
either true true y x r a b is = is
either true false y x r a b is = absurd cc
either false q y x r a b is = absurd cc

never_itself : (g : Geometry) (a : PacketId) → comes_before g a a ≡ true → ⊥
never_itself g a is =
    let x = place_of g.levels a.res a.px in
    let y = place_of g.levels a.res a.py in
    let less = ltb-true a.res a.res (either (y == y) (x == x) (nat_lt y y) (nat_lt x x)
    (nat_lt a.res a.res) (eq-eqb y y refl) (eq-eqb x x refl) is) in
    omega (arith, less)

-- and none of them is there twice
pub all_differ : (g : Geometry) (index : ℕ) (ids : List PacketId) → ids ≡ ordered_packets g index →
    AllPairs (λ a b. a ≡ b → ⊥) ids
all_differ g index ids are =
    subst (λ (l : List PacketId). AllPairs (λ a b. a ≡ b → ⊥) l) (sym are)
    (λ i j d less below same.
    let packets = ordered_packets g index in
    never_itself g (get_or packets j d)
    (subst (λ (a : PacketId). comes_before g a (get_or packets j d) ≡ true) same
    (packets_strict g index i j d less below)))
