-- The writer's head spells a tile-part, whatever follows it.
use Rattle.std.proofs.Common.{◌≡◌, ℕ, ◌+◌, ◌-◌, ◌≤◌, inl, List, [], ◌++◌, arith, ◌∙◌, sym, ap, refl}
use Rattle.std.proofs.Common.{take, drop, length, slice_range}
use Rattle.std.proofs.lemmas.List.{take-append-drop, length-take-le, length-drop}
use Rattle.std.proofs.lemmas.List.Elements.{All-nil}
use Rattle.tile_parts.specs.Head.{part_head_of}
use Rattle.tile_parts.specs.Spelling.{IsSegment, Spells}

pub head_spells : (bytes : List ℕ) (at index count size : ℕ) → 14 ≤ size
    → at + size ≤ length bytes →
    slice_range bytes at (at + 14) ≡ part_head_of size index count →
    Spells bytes at index count (record { length = size; body = at + 14; stop = at + size })
head_spells bytes at index count size large inside is =
    let start = drop at bytes in
    let tail = drop 14 start in
    let width : at + 14 - at ≡ 14 = omega arith in
    let taken : take 14 start ≡ part_head_of size index count = ap (λ n. take n start) (sym width)
    ∙ is in
    let split : start ≡ take 14 start ++ tail = sym (take-append-drop 14 start) in
    let left : length tail ≡ length bytes - at - 14 = length-drop 14 start
    ∙ ap (λ n. n - 14) (length-drop at bytes) in
    let packets : length (take (size - 14) tail) ≡ size - 14 =
    length-take-le (size - 14) tail (omega arith) in
    record {
      segments = [];
      tnsot = count;
      packets = take (size - 14) tail;
      rest = drop (size - 14) tail;
      each = All-nil IsSegment;
      count_is = inl refl;
      spelled = split ∙ ap (λ t. t ++ tail) taken ∙ ap (λ t. part_head_of size index count
          ++ t) (sym (take-append-drop (size - 14) tail));
      psot_is = omega arith;
      body_is = refl;
      stop_is = refl;
    }
