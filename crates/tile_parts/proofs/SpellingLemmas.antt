-- The tile-part that the bytes spell is the one that is read, and the other way round.
use Rattle.std.proofs.Common.{◌≡◌, ℕ, ◌+◌, ◌-◌, ◌≤◌, List, ◌++◌, None}
use Rattle.std.proofs.Common.{arith}
use Rattle.std.proofs.Common.{◌∙◌, sym, ap, refl, subst, append_assoc, get_or, take, drop, length}
use Rattle.std.specs.List.{flat_map}
use Rattle.std.proofs.lemmas.List.{length-append, length-drop, length-take-le, take-append-drop}
use Rattle.cine_nums.specs.Bytes.{long_at, word_bytes}
use Rattle.cine_nums.specs.Faults.{first_fault}
use Rattle.cine_nums.specs.Segments.{segment_bytes}
use Rattle.cine_nums.proofs.ByteLemmas.{byte_here, first_here, step_on}
use Rattle.tile_parts.specs.Head.{Sot, sot_fields, sot_bytes, sod_bytes}
use Rattle.tile_parts.specs.Spelling.{head_with, Spells}
use Rattle.tile_parts.specs.Refusals.{sot_rows, HasSot, StandUpTo}
use Rattle.tile_parts.specs.Inside.{sot_at, IsSod}
use Rattle.tile_parts.specs.declared.part.Part.{Part}
use Rattle.tile_parts.proofs.NumberLemmas.{AreBytes, two_here}
use Rattle.tile_parts.proofs.SotLemmas.{SotIs, sot_here, sot_once, sot_is, no_sot_fault}

-- a tile-part by its places
pub record IsPart (bytes : List ℕ) (at index count : ℕ) (part : Part) : Type 0 where
  pub room : at + 12 ≤ length bytes
  pub rows : first_fault (sot_rows at (length bytes) index count (sot_at bytes at)) ≡ None
  pub length_is : part.length ≡ long_at bytes (at + 6)
  pub stop_is : part.stop ≡ at + part.length
  pub to : ℕ
  pub stand : StandUpTo bytes (at + 12) to
  pub sod : IsSod bytes to part.stop
  pub body_is : part.body ≡ to + 2

-- the fields of SOT that are spelled
abbrev pub spelled_sot : ℕ → ℕ → ℕ → Sot
spelled_sot size index tnsot = record {
  marker = 0xFF90;
  lsot = 10;
  isot = 0;
  psot = size;
  tpsot = index;
  tnsot = tnsot;
}

pub spelled_is_part : (bytes : List ℕ) (at index count : ℕ) (part : Part) → at ≤ length bytes
    → Spells bytes at index count part → IsPart bytes at index count part
spelled_is_part bytes at index count part below spells =
    let f = spelled_sot part.length index spells.tnsot in
    let sot = sot_bytes part.length index spells.tnsot in
    let segments = flat_map segment_bytes spells.segments in
    let tail = spells.packets ++ spells.rest in
    let head_width :
    length (head_with part.length index spells.tnsot spells.segments) ≡ 12
    + (length segments + 2) =
    omega (arith, length-append segments sod_bytes) in
    let split : drop at bytes ≡ sot ++ (segments ++ (sod_bytes ++ tail)) =
    spells.spelled
    ∙ append_assoc sot (segments ++ sod_bytes) tail
    ∙ ap (λ t. sot ++ t) (append_assoc segments sod_bytes tail) in
    let whole : length bytes - at
    ≡ 12 + (length segments + (2 + (length spells.packets + length spells.rest))) =
    omega (
      arith,
      length-drop at bytes,
      ap length split,
      length-append segments (sod_bytes ++ tail),
      length-append spells.packets spells.rest,
    ) in
    let psot = spells.psot_is in
    let inside : at + part.length ≤ length bytes = omega arith in
    let large : 14 ≤ part.length = omega arith in
    let has : HasSot bytes at f = (segments ++ (sod_bytes ++ tail), split) in
    let same = sot_once bytes at f has in
    let is : SotIs at (length bytes) index count f = record {
      marker = refl;
      lsot = refl;
      isot = refl;
      large = large;
      inside = inside;
      tpsot = refl;
      tnsot = spells.count_is;
    } in
    let to = at + 12 + length segments in
    let after : drop (at + 12) bytes ≡ segments ++ (sod_bytes ++ tail) =
    step_on bytes sot (segments ++ (sod_bytes ++ tail)) at below split in
    let last : drop to bytes ≡ sod_bytes ++ tail =
    step_on bytes segments (sod_bytes ++ tail) (at + 12) (omega arith) after in
    let b0 : get_or bytes to 0 ≡ 255 = first_here bytes (sod_bytes ++ tail) to last in
    let b1 : get_or bytes (to + 1) 0 ≡ 147 = byte_here bytes (sod_bytes ++ tail) to 1 last in
    record {
      room = omega arith;
      rows = subst (λ (g : Sot). first_fault (sot_rows at (length bytes) index count g) ≡ None) same
          (no_sot_fault at (length bytes) index count f is);
      length_is = ap (λ (g : Sot). g.psot) same;
      stop_is = spells.stop_is;
      to = to;
      stand = record {
        segments = spells.segments;
        each = spells.each;
        bytes_are = after ∙ ap (λ t. segments ++ t) (sym last);
        to_is = refl;
      };
      sod = record {
        marker = omega (arith, b0, b1);
        inside = (let stop = spells.stop_is in omega arith);
      };
      body_is = (let body = spells.body_is in omega arith);
    }

pub part_is_spelled : (bytes : List ℕ) (at index count : ℕ) (part : Part) → AreBytes bytes
    → IsPart bytes at index count part → Spells bytes at index count part
part_is_spelled bytes at index count part small is =
    let sot = sot_is at (length bytes) index count (sot_at bytes at) is.rows in
    let tnsot = get_or bytes (at + 11) 0 in
    let psot : part.length ≡ long_at bytes (at + 6) = is.length_is in
    let stop : part.stop ≡ at + part.length = is.stop_is in
    let fits : at + long_at bytes (at + 6) ≤ length bytes = sot.inside in
    let within : part.stop ≤ length bytes = omega arith in
    let to = is.to in
    let body : part.body ≡ to + 2 = is.body_is in
    let segments = flat_map segment_bytes is.stand.segments in
    let to_is : to ≡ at + 12 + length segments = is.stand.to_is in
    let last : to + 2 ≤ part.stop = is.sod.inside in
    let tail = drop (to + 2) bytes in
    let size = part.stop - (to + 2) in
    let left : length tail ≡ length bytes - (to + 2) = length-drop (to + 2) bytes in
    let packets = take size tail in
    let rest = drop size tail in
    let width : length packets ≡ size = length-take-le size tail (omega arith) in
    let after : drop to bytes ≡ sod_bytes ++ (packets ++ rest) =
    two_here bytes to small (omega arith)
    ∙ ap (λ w. word_bytes w ++ tail) is.sod.marker
    ∙ ap (λ t. sod_bytes ++ t) (sym (take-append-drop size tail)) in
    let f = sot_at bytes at in
    let head = sot_bytes part.length index tnsot in
    let fields : sot_at bytes at ≡ spelled_sot part.length index tnsot =
    ap (λ m. record f { marker = m }) sot.marker
    ∙ ap (λ l. record f { marker = 0xFF90; lsot = l }) sot.lsot
    ∙ ap (λ i. record f { marker = 0xFF90; lsot = 10; isot = i }) sot.isot
    ∙ ap (λ p. record f { marker = 0xFF90; lsot = 10; isot = 0; psot = p }) (sym psot)
    ∙ ap (λ t. record f { marker = 0xFF90; lsot = 10; isot = 0; psot = part.length; tpsot = t })
    sot.tpsot in
    let first : drop at bytes ≡ head ++ drop (at + 12) bytes =
    subst (λ (g : Sot). drop at bytes ≡ sot_fields g ++ drop (at + 12) bytes) fields
    (sot_here bytes at small is.room) in
    let spelled : drop at bytes ≡ (head ++ (segments ++ sod_bytes)) ++ (packets ++ rest) =
    first
    ∙ ap (λ t. head ++ t) (is.stand.bytes_are ∙ ap (λ t. segments ++ t) after
    ∙ sym (append_assoc segments sod_bytes (packets ++ rest)))
    ∙ sym (append_assoc head (segments ++ sod_bytes) (packets ++ rest)) in
    let head_width : length (head ++ (segments ++ sod_bytes)) ≡ 12 + (length segments + 2) =
    omega (arith, length-append segments sod_bytes) in
    record {
      segments = is.stand.segments;
      tnsot = tnsot;
      packets = packets;
      rest = rest;
      each = is.stand.each;
      count_is = sot.tnsot;
      spelled = spelled;
      psot_is = omega arith;
      body_is = omega arith;
      stop_is = stop;
    }
