-- The code of a list of symbols: the encoder's procedures of ISO/IEC 15444-1, Annex C.2.
use Rattle.std.specs.Prelude.{ℕ, zero, suc, ◌+◌, ◌-◌, ◌*◌, ◌/◌, ◌%◌, ◌^◌, Bool, ◌==◌, nat_lt}
use Rattle.std.specs.Prelude.{nat_le, List, [], ◌∷◌, ◌++◌, length, get_or, set, take, fold}
use Rattle.std.specs.Prelude.{if◌then◌else◌}
use Rattle.mq_coder.specs.States.{start_contexts, context_at, same, after_symbol}
use Rattle.mq_coder.specs.Decisions.{estimate}

-- A symbol: its context and its bit.
-- The registers A, C and CT, the bytes put out so far, and the contexts.
pub record Coding : Type 0 where
  pub a : ℕ
  pub c : ℕ
  pub ct : ℕ
  pub bytes : List ℕ
  pub contexts : List (ℕ × Bool)

-- INITENC (C.2.8)
unfoldable pub start_coding : Coding
start_coding = record { a = 0x8000; c = 0; ct = 12; bytes = []; contexts = start_contexts }

-- the last byte, 0 where there is none
abbrev pub last_byte : List ℕ → ℕ
last_byte bytes = get_or bytes (length bytes - 1) 0

-- the carry: 1 more in the last byte
abbrev pub raise_last : List ℕ → List ℕ
raise_last bytes = set bytes (length bytes - 1) (last_byte bytes + 1)

-- a byte of 8 bits, and one of 7 bits after FF
abbrev pub put_8 : Coding → List ℕ → ℕ → Coding
put_8 x bytes c = record x { bytes = bytes ++ (c / 2 ^ 19) ∷ []; c = c % 2 ^ 19; ct = 8 }

abbrev pub put_7 : Coding → List ℕ → ℕ → Coding
put_7 x bytes c = record x { bytes = bytes ++ (c / 2 ^ 20) ∷ []; c = c % 2 ^ 20; ct = 7 }

-- BYTEOUT (C.2.7)
unfoldable pub byte_out : Coding → Coding
byte_out x =
    if last_byte x.bytes == 255 then put_7 x x.bytes x.c
    else if nat_lt x.c 0x8000000 then put_8 x x.bytes x.c
    else if last_byte x.bytes + 1 == 255 then put_7 x (raise_last x.bytes) (x.c - 0x8000000)
    else put_8 x (raise_last x.bytes) (x.c - 0x8000000)

-- one turn of RENORME (C.2.6)
unfoldable pub shift : Coding → Coding
shift x =
    let next = record x { a = 2 * x.a; c = 2 * x.c; ct = x.ct - 1 } in
    if x.ct == 1 then byte_out next else next

-- RENORME, of at most n turns
unfoldable pub renormalise : ℕ → Coding → Coding
renormalise zero x = x
renormalise (suc n) x =
    let next = renormalise n (shift x) in
    if nat_lt x.a 0x8000 then next else x

-- the lower and the upper part of the interval
abbrev pub take_lower : Coding → ℕ → Coding
take_lower x qe = record x { a = qe }

abbrev pub take_upper : Coding → ℕ → Coding
take_upper x qe = record x { a = x.a - qe; c = x.c + qe }

-- the context of a symbol after it
abbrev pub learn : Coding → ℕ → Bool → Coding
learn x cx bit =
    record x { contexts = set x.contexts cx (after_symbol (context_at x.contexts cx) bit) }

-- CODEMPS (C.2.4)
unfoldable pub code_mps : Coding → ℕ → Bool → Coding
code_mps x cx bit =
    let qe = estimate x.contexts cx in
    if nat_le 0x8000 (x.a - qe) then take_upper x qe
    else if nat_lt (x.a - qe) qe then renormalise 15 (learn (take_lower x qe) cx bit)
    else renormalise 15 (learn (take_upper x qe) cx bit)

-- CODELPS (C.2.4)
unfoldable pub code_lps : Coding → ℕ → Bool → Coding
code_lps x cx bit =
    let qe = estimate x.contexts cx in
    if nat_lt (x.a - qe) qe then renormalise 15 (learn (take_upper x qe) cx bit)
    else renormalise 15 (learn (take_lower x qe) cx bit)

-- ENCODE (C.2.2) of a symbol: its context and its bit
unfoldable pub code_symbol : Coding → ℕ × Bool → Coding
code_symbol x (cx, bit) =
    if same bit (context_at x.contexts cx).1 then code_mps x cx bit else code_lps x cx bit

-- after a list of symbols
unfoldable pub coded : List (ℕ × Bool) → Coding
coded symbols = fold code_symbol start_coding symbols

-- SETBITS (C.2.9)
unfoldable pub set_bits : Coding → Coding
set_bits x =
    let filled = x.c / 0x10000 * 0x10000 + 0xFFFF in
    record x { c = (if nat_lt filled (x.c + x.a) then filled else filled - 0x8000) }

-- the shift by CT bits and the BYTEOUT of FLUSH
unfoldable pub shift_out : Coding → Coding
shift_out x = byte_out (record x { c = x.c * 2 ^ x.ct; ct = 0 })

-- a last byte FF is left out
unfoldable pub drop_ff : List ℕ → List ℕ
drop_ff bytes = if last_byte bytes == 255 then take (length bytes - 1) bytes else bytes

-- FLUSH (C.2.9): the ended code
unfoldable pub flush : Coding → List ℕ
flush x = drop_ff (shift_out (shift_out (set_bits x))).bytes

-- the code of a list of symbols
unfoldable pub code : List (ℕ × Bool) → List ℕ
code symbols = flush (coded symbols)
