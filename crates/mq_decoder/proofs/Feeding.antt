-- BYTEIN reads one byte more of the string, or of the FF after it.
use Rattle.std.proofs.Common.{◌≡◌, ℕ, ◌+◌, ◌-◌, ◌*◌, ◌^◌, min, ◌<◌, ◌≤◌, inl, inr, true, false}
use Rattle.std.proofs.Common.{List, [], ◌∷◌, length, drop, arith, add-one}
use Rattle.std.proofs.lemmas.Bool.{cases_lt, cases_Bool, lt-ltb, le-ltb}
use Rattle.std.proofs.lemmas.List.{drop_all, get_or_past}
use Rattle.std.proofs.Math.Seq.{drop-cons}
use Rattle.mq_coder.specs.Decisions.{start_interval}
use Rattle.mq_coder.specs.Reading.{Holds}
use Rattle.mq_coder.proofs.Holding.{holds_start}
use Rattle.mq_coder.proofs.Fed.{Fed, fed_past, fed_cut, fed_7, fed_8}
use Rattle.mq_decoder.specs.declared.byte_in.ByteIn.{ByteIn}
use Rattle.mq_coder.specs.Decisions.{byte_at}
use Rattle.mq_decoder.specs.Bytes.{is_ff, rest_of, next_byte}

-- a byte more from a place on
abbrev pub Feeds : List ℕ → ℕ → ByteIn → Type 0
Feeds bytes place r =
    Fed (is_ff bytes place) (rest_of bytes place) r.byte r.bits (is_ff bytes r.place)
    (rest_of bytes r.place)

-- what follows a place
rest_within : (bytes : List ℕ) (place : ℕ) → place + 1 < length bytes
    → rest_of bytes place ≡ byte_at bytes (place + 1) ∷ rest_of bytes (place + 1)
unfolding byte_at
rest_within bytes place h = rw (add-one (place + 1)) (drop-cons bytes (place + 1) 255 h)

pub feeds : (bytes : List ℕ) (place : ℕ) → Feeds bytes place (next_byte bytes place)
unfolding byte_at
feeds bytes place = elim (cases_Bool (is_ff bytes place)) [
  | inl ff ↦ elim (cases_lt 143 (byte_at bytes (place + 1))) [
    | inl high ↦ rw (ff, lt-ltb 143 (byte_at bytes (place + 1)) high, ff)
        (elim (cases_lt (place + 1) (length bytes)) [
          | inl within ↦ rw (rest_within bytes place within)
              (fed_cut (byte_at bytes (place + 1)) (rest_of bytes (place + 1)) high)
          | inr past ↦ rw (drop_all (place + 1) bytes past) (fed_past true true)
        ])
    | inr low ↦ rw (ff, le-ltb 143 (byte_at bytes (place + 1)) low)
        (elim (cases_lt (place + 1) (length bytes)) [
          | inl within ↦ rw (rest_within bytes place within)
              (fed_7 (byte_at bytes (place + 1)) (rest_of bytes (place + 1)) low)
          | inr past ↦ let e = get_or_past bytes (place + 1) 255 past in absurd (omega (arith, e))
        ])
  ]
  | inr not ↦ rw not (elim (cases_lt (place + 1) (length bytes)) [
    | inl within ↦ rw (rest_within bytes place within)
        (fed_8 (byte_at bytes (place + 1)) (rest_of bytes (place + 1)))
    | inr past ↦ let e = get_or_past bytes (place + 1) 255 past in
        rw (e, drop_all (place + 1) bytes past, drop_all (place + 1 + 1) bytes (omega arith))
        (fed_past false true)
  ])
]

-- the first byte
pub feeds_first : (bytes : List ℕ) →
    Fed false bytes (byte_at bytes 0) 8 (is_ff bytes 0) (rest_of bytes 0)
unfolding byte_at
feeds_first [] = fed_past false true
feeds_first (b ∷ r) = fed_8 b r

-- INITDEC
pub holds_first : (bytes : List ℕ) (first : ℕ) (next : ByteIn) → first ≡ byte_at bytes 0 →
    next ≡ next_byte bytes 0
    → Holds bytes (min ((first * 2 ^ 16 + next.byte * 2 ^ (16 - next.bits)) * 2 ^ 7) (2 ^ 31))
    (next.bits - 7)
    (is_ff bytes next.place) (rest_of bytes next.place) start_interval
holds_first bytes first next e f =
    rw (e, f) (holds_start bytes _ _ _ _ _ _ _ (feeds_first bytes) (feeds bytes 0))
