-- Packing of a header's bits into bytes (ISO/IEC 15444-1, B.10.1): what a header's bytes may be,
-- what the writer makes of its bits, and what can be taken from bytes.
use Rattle.std.specs.Prelude.{◌≡◌, ℕ, suc, zero, ◌+◌, ◌-◌, ◌<◌, ◌==◌, nat_lt, nat_le, Bool, true}
use Rattle.std.specs.Prelude.{false, ◌&&◌, if◌then◌else◌, List, [], ◌∷◌, ◌++◌, length, replicate}
use Rattle.bit_stuffing.specs.Bits.{number, value, byte_width, useful, IsStuffed, ends_in_ff}
use Rattle.bit_stuffing.specs.declared.fault.BitFault.{BitFault}
use Rattle.bit_stuffing.specs.declared.fault.BitFault.TheVariants.{OutOfBits, StuffedBitSet}

-- after a last FF stands one more byte, whose high bit is 0, and elsewhere nothing
abbrev pub Closes : Bool → List ℕ → Type 0
Closes false [] = Unit {0}
Closes true (byte ∷ []) = byte < 128
Closes false (_ ∷ _) = ⊥
Closes true [] = ⊥
Closes true (_ ∷ _ ∷ _) = ⊥

-- These bytes are a header of these bits: the bits, fewer than eight bits of padding up to the end
-- of a byte, and one more byte where that byte is FF.
pub record Stuffs (bits : List Bool) (bytes : List ℕ) : Type 0 where
  pub core : List ℕ
  pub last : List ℕ
  pub padding : List Bool
  pub bytes_are : bytes ≡ core ++ last
  pub bits_are : useful false core ≡ bits ++ padding
  pub padded : length padding < 8
  pub stuffed : IsStuffed false core
  pub closed : Closes (ends_in_ff false core) last

-- The writer's bytes where `begun` has the bits of a byte that is begun, which holds `width` bits:
-- at the end it is filled up with zeros, and where none is begun after FF a byte 0 follows.
abbrev pub closing : ℕ → List Bool → List ℕ
closing width [] = if width == 7 then 0 ∷ [] else []
closing width (bit ∷ begun) = value ((bit ∷ begun)
    ++ replicate (width - length (bit ∷ begun)) false) ∷ []

-- the writer's bytes of the bits that follow those of the byte begun
unfoldable pub packed_from : ℕ → List Bool → List Bool → List ℕ
packed_from width begun [] = closing width begun
packed_from width begun (bit ∷ bits) =
    if length begun + 1 == width
    then value (begun ++ bit ∷ []) ∷ packed_from (byte_width (value (begun ++ bit ∷ []) == 255)) []
    bits
    else packed_from width (begun ++ bit ∷ []) bits

-- the bytes that the writer makes of a header's bits
abbrev pub packed : List Bool → List ℕ
packed bits = packed_from 8 [] bits

-- a byte whose high bit is 1 after FF can't be read
abbrev pub is_broken : Bool → ℕ → Bool
is_broken after_ff byte = after_ff && nat_le 128 byte

-- the bits that can be taken from bytes, of which the first stands after FF or not
unfoldable pub supply_from : Bool → List ℕ → List Bool
supply_from after_ff [] = []
supply_from after_ff (byte ∷ bytes) =
    if is_broken after_ff byte then [] else number (byte_width after_ff) byte
    ++ supply_from (byte == 255) bytes

-- the bits that can be taken from bytes
abbrev pub supply : List ℕ → List Bool
supply bytes = supply_from false bytes

-- why no more bits can be taken, where the first byte has this place
unfoldable pub fault_from : ℕ → Bool → List ℕ → BitFault
fault_from place after_ff [] = OutOfBits place
fault_from place after_ff (byte ∷ bytes) =
    if is_broken after_ff byte then StuffedBitSet place else fault_from (place + 1) (byte == 255)
    bytes

-- why no more bits can be taken after the supply: the bytes end, at their number, or a byte after
-- FF has its high bit set, at its place
abbrev pub fault_of : List ℕ → BitFault
fault_of bytes = fault_from 0 false bytes

-- the place of the byte that has the bit n of the useful bits, where the first byte has this place
unfoldable pub place_from : ℕ → Bool → ℕ → List ℕ → ℕ
place_from place after_ff n [] = place
place_from place after_ff n (byte ∷ bytes) =
    if nat_lt n (byte_width after_ff) then place else place_from (place + 1) (byte == 255)
    (n - byte_width after_ff) bytes

-- the place of the byte that has the last of the first n bits, and 0 where n is 0
abbrev pub place_of : List ℕ → ℕ → ℕ
place_of bytes zero = 0
place_of bytes (suc n) = place_from 0 false n bytes
