-- Names as they are read, byte by byte: how a character in UTF-8 may go on (Unicode, table 3-7).
use Rattle.std.specs.Prelude.{ℕ, ◌≡◌, ◌≢◌, ◌-◌, ◌/◌, ◌%◌, ◌<◌, ◌≤◌, ◌⊎◌, ◌++◌, ◌==◌, ◌||◌, nat_lt}
use Rattle.std.specs.Prelude.{List, [], ◌∷◌, Option, Some, None, if◌then◌else◌, false}
use Rattle.cert_text.specs.Names.{is_plain, hex_digit, escaped_byte}
use Rattle.cert_text.specs.Forms.{Form, word}
use Rattle.cert_text.specs.LineForms.{name}
use Rattle.cert_text.specs.declared.characters.Character.{Character}

-- no character has begun
abbrev pub between : Character
between = record { left = 0; least = 0; most = 255 }

-- this many bytes are left, the next one in this range
abbrev pub rest : ℕ → ℕ → ℕ → Option Character
rest left least most = Some (record { left = left; least = least; most = most })

-- after the first byte of a character
abbrev pub begun : ℕ → Option Character
begun b =
    if nat_lt b 0x80 then Some between else
    if nat_lt b 0xC2 then None else
    if nat_lt b 0xE0 then rest 1 0x80 0xBF else
    if b == 0xE0 then rest 2 0xA0 0xBF else
    if b == 0xED then rest 2 0x80 0x9F else
    if nat_lt b 0xF0 then rest 2 0x80 0xBF else
    if b == 0xF0 then rest 3 0x90 0xBF else
    if nat_lt b 0xF4 then rest 3 0x80 0xBF else
    if b == 0xF4 then rest 3 0x80 0x8F else
    None

-- after one byte more
abbrev pub after : Character → ℕ → Option Character
after state byte =
    if state.left == 0 then begun byte else
    if nat_lt byte state.least || nat_lt state.most byte then None else
    if state.left == 1 then Some between else
    rest (state.left - 1) 0x80 0xBF

-- a character that some bytes end
abbrev pub IsSound : Character → Type 0
IsSound state = (state.left ≡ 0) ⊎ ((state.left ≤ 3) × (128 ≤ state.least)
    × (state.least ≤ state.most) × (state.most < 192))

-- a byte that may come next
abbrev pub CanFollow : Character → ℕ → Type 0
CanFollow state byte = (byte < 256) × ((next : Character) × (after state byte ≡ Some next))

-- bytes that end the character that has begun, and are whole ones from there on
abbrev pub Ends : Character → List ℕ → Type 0
Ends state [] = state.left ≡ 0
Ends state (b ∷ bytes) = (b < 256)
    × ((next : Character) × ((after state b ≡ Some next) × Ends next bytes))

-- the two digits of an escape
abbrev pub escape : Character → Form ℕ
escape state = record {
  Has = λ byte. CanFollow state byte × (is_plain byte ≡ false);
  parts = λ byte. word (hex_digit (byte / 16) ∷ hex_digit (byte % 16) ∷ []);
}

-- a byte of a name, as it is or escaped
abbrev pub name_byte : Character → Form ℕ
name_byte state = record { Has = CanFollow state; parts = λ byte. word (escaped_byte byte) }

-- what follows some bytes of a name, up to the space after it
abbrev pub name_after : List ℕ → Character → Form (List ℕ)
name_after before state = record {
  Has = λ bytes. Ends state bytes × (before ++ bytes ≢ []);
  parts = name.parts;
}
