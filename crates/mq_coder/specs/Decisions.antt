-- What a byte string decides: ISO/IEC 15444-1, Annex C.3, with one growing sum in place of
-- registers.
use Rattle.std.specs.Prelude.{ℕ, zero, suc, ◌+◌, ◌-◌, ◌*◌, ◌/◌, ◌^◌, Bool, false, ◌&&◌, ◌==◌}
use Rattle.std.specs.Prelude.{nat_lt, nat_le, List, [], ◌∷◌, length, get_or, set, fold, not}
use Rattle.std.specs.Prelude.{if◌then◌else◌}
use Rattle.mq_coder.specs.States.{row, start_contexts, context_at, same, after_symbol}

-- The value of a byte string, in the words of weights.

-- a string ends after the first FF that a byte above 8F follows (C.3.4, BYTEIN)
unfoldable pub kept : List ℕ → List ℕ
kept [] = []
kept (b ∷ []) = b ∷ []
kept (b ∷ next ∷ rest) =
    let more = kept (next ∷ rest) in
    if b == 255 && nat_lt 143 next then b ∷ [] else b ∷ more

-- byte i of the kept ones; FF follow without end
unfoldable pub byte_at : List ℕ → ℕ → ℕ
byte_at bytes i = get_or bytes i 255

-- how many bits byte i + 1 gives: 7 where it is a kept byte after FF, else 8
unfoldable pub width_after : List ℕ → ℕ → ℕ
width_after bytes i = if byte_at bytes i == 255 && nat_lt (i + 1) (length bytes) then 7 else 8

-- the bits that bytes 0 to i give: byte i has the weight 2 ^ (15 - place)
unfoldable pub place : List ℕ → ℕ → ℕ
place bytes zero = 8
place bytes (suc i) = place bytes i + width_after bytes i

-- the sum of bytes 0 to i, each times its weight over that of byte i
unfoldable pub total : List ℕ → ℕ → ℕ
total bytes zero = byte_at bytes 0
total bytes (suc i) = total bytes i * 2 ^ width_after bytes i + byte_at bytes (suc i)

-- Byte i counts after `scale` doublings where the bytes before it give fewer than scale + 15 bits;
-- bytes 0 and 1 always count. The last one that counts, of those up to i.
unfoldable pub last_counting : List ℕ → ℕ → ℕ → ℕ
last_counting bytes scale zero = 0
last_counting bytes scale (suc i) =
    let before = last_counting bytes scale i in
    if nat_lt (place bytes i) (scale + 15) then suc i else before

-- the sum of the bytes that count, times 2 ^ scale over 2 ^ 15, rounded down
unfoldable pub value : List ℕ → ℕ → ℕ
value bytes scale =
    let ks = kept bytes in
    let last = last_counting ks scale (scale + 1) in
    total ks last / 2 ^ (place ks last - (scale + 15))

-- The same value as binary digits: 15 at scale 0, and one more a doubling.

-- d digits that are ones, after the digits of acc
abbrev pub ones : ℕ → ℕ → ℕ
ones acc d = (acc + 1) * 2 ^ d - 1

-- how many digits a byte gives: 7 after FF, else 8
abbrev pub width : Bool → ℕ
width after_ff = if after_ff then 7 else 8

-- d more digits after those of acc, read from bytes; after_ff: the byte before is FF
unfoldable pub look : ℕ → Bool → List ℕ → ℕ → ℕ
look acc after_ff [] d = ones acc d
look acc after_ff (b ∷ rest) d =
    let joined = acc * 2 ^ width after_ff + b in
    let further = look joined (b == 255) rest (d - width after_ff) in
    if after_ff && nat_lt 143 b then ones acc d
    else if nat_le d (width after_ff) then joined / 2 ^ (width after_ff - d)
    else further

unfoldable pub digits : List ℕ → ℕ → ℕ
digits bytes scale = look 0 false bytes (scale + 15)

-- Decoding, by the interval that the decisions so far leave.

pub record Interval : Type 0 where
  pub low : ℕ
  pub size : ℕ
  pub scale : ℕ
  pub contexts : List (ℕ × Bool)

unfoldable pub start_interval : Interval
start_interval = record { low = 0; size = 0x8000; scale = 0; contexts = start_contexts }

-- Qe of a context
unfoldable pub estimate : List (ℕ × Bool) → ℕ → ℕ
estimate contexts cx = (row (context_at contexts cx).0).qe

-- The symbol of a part: the lower part is the less probable symbol where the upper one is not
-- smaller, else the more probable one (C.3.2, the conditional exchange); the upper is the other.
unfoldable pub part_symbol : List (ℕ × Bool) → ℕ → ℕ → Bool → Bool
part_symbol contexts size cx lower =
    let qe = estimate contexts cx in
    same (same lower (nat_lt (size - qe) qe)) (context_at contexts cx).1

-- the context after a part; after an upper part of 0x8000 or more it stays
unfoldable pub part_contexts : List (ℕ × Bool) → ℕ → ℕ → Bool → List (ℕ × Bool)
part_contexts contexts size cx lower =
    if not lower && nat_le 0x8000 (size - estimate contexts cx) then contexts
    else set contexts cx (after_symbol (context_at contexts cx)
    (part_symbol contexts size cx lower))

-- a part of an interval: the lower one has the size Qe
unfoldable pub part : Interval → ℕ → Bool → Interval
part it cx lower =
    let qe = estimate it.contexts cx in
    record {
      low = (if lower then it.low else it.low + qe);
      size = (if lower then qe else it.size - qe);
      scale = it.scale;
      contexts = part_contexts it.contexts it.size cx lower;
    }

abbrev pub twice : Interval → Interval
twice it = record it { low = 2 * it.low; size = 2 * it.size; scale = it.scale + 1 }

-- doubled until the size is 0x8000 or more, at most n times (C.3.3, RENORMD)
unfoldable pub doubled : ℕ → Interval → Interval
doubled zero it = it
doubled (suc n) it =
    let next = doubled n (twice it) in
    if nat_lt it.size 0x8000 then next else it

-- a string decides for the lower part where its value lies in it
unfoldable pub is_lower : List ℕ → Interval → ℕ → Bool
is_lower bytes it cx = nat_lt (digits bytes it.scale) (it.low + estimate it.contexts cx)

-- the interval that a decision leaves
unfoldable pub next_interval : List ℕ → Interval → ℕ → Interval
next_interval bytes it cx = doubled 15 (part it cx (is_lower bytes it cx))

unfoldable pub decisions_from : List ℕ → Interval → List ℕ → List Bool
decisions_from bytes it [] = []
decisions_from bytes it (cx ∷ cxs) =
    part_symbol it.contexts it.size cx (is_lower bytes it cx)
    ∷ decisions_from bytes (next_interval bytes it cx) cxs

-- the decisions of a byte string for a list of contexts
unfoldable pub decisions : List ℕ → List ℕ → List Bool
decisions bytes cxs = decisions_from bytes start_interval cxs

-- the interval that they leave
unfoldable pub interval_after : List ℕ → List ℕ → Interval
interval_after bytes cxs = fold (next_interval bytes) start_interval cxs
