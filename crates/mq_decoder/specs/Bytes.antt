-- A byte string as the decoder reads it (ISO/IEC 15444-1, C.3.4).
use Rattle.std.specs.Prelude.{ℕ, ◌+◌, Bool, ◌==◌, nat_lt, if◌then◌else◌, List, drop}
use Rattle.mq_coder.specs.Decisions.{byte_at}
use Rattle.mq_decoder.specs.declared.byte_in.ByteIn.{ByteIn}

abbrev pub is_ff : List ℕ → ℕ → Bool
is_ff bytes place = byte_at bytes place == 255

-- what follows the byte at a place
abbrev pub rest_of : List ℕ → ℕ → List ℕ
rest_of bytes place = drop (place + 1) bytes

-- BYTEIN: the byte that is added after the one at a place, and the place of the last byte read
abbrev pub next_byte : List ℕ → ℕ → ByteIn
next_byte bytes place =
    if is_ff bytes place
    then (if nat_lt 143 (byte_at bytes (place + 1))
    then record { byte = 255; bits = 8; place = place }
    else record { byte = byte_at bytes (place + 1); bits = 7; place = place + 1 })
    else record { byte = byte_at bytes (place + 1); bits = 8; place = place + 1 }
