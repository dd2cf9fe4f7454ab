-- What the writers and the reader of a header's bits keep: the inside of this crate.
use Rattle.std.specs.Prelude.{◌≡◌, ℕ, ◌+◌, ◌-◌, ◌/◌, ◌%◌, ◌^◌, ◌<◌, ◌≤◌, ◌==◌, Bool, false, List}
use Rattle.std.specs.Prelude.{◌++◌, length, take, drop, ◌⊎◌}
use Rattle.bit_stuffing.specs.Bits.{number, byte_width, useful, IsStuffed, ends_in_ff}
use Rattle.bit_stuffing.specs.Stuffing.{supply_from}
use Rattle.bit_stuffing.specs.Source.{BitSource}

-- What a writer keeps: whole bytes, and a byte begun, of `width` bits, `filled` of which are there
-- as the number `part`; at most 7,000 bits.
pub record Keeps (bytes : List ℕ) (part filled width : ℕ) : Type 0 where
  pub width_is : width ≡ byte_width (ends_in_ff false bytes)
  pub below : part < 2 ^ filled
  pub room : filled < width
  pub few : length (useful false bytes) + filled ≤ 7000
  pub stuffed : IsStuffed false bytes

-- Whole bytes, and bits after them that may fill more: `filled` bits, which are those of the number
-- `held`; at most 7,000 bits.
pub record HoldsBits (bytes : List ℕ) (held filled width : ℕ) (bits : List Bool) : Type 0 where
  pub width_is : width ≡ byte_width (ends_in_ff false bytes)
  pub below : held < 2 ^ filled
  pub few : length bits ≤ 7000
  pub stuffed : IsStuffed false bytes
  pub bits_are : useful false bytes ++ number filled held ≡ bits

-- A counter of so many whole bytes, with bits after them, has counted these bits, so many in all.
-- The low `filled` bits of `held` are those after the bytes, and before them the stuffed 0 where a
-- byte FF is the last.
pub record Counts (whole held filled all : ℕ) (bits : List Bool) : Type 0 where
  pub bytes : List ℕ
  pub begun : ℕ
  pub width : ℕ
  pub whole_are : length bytes ≡ whole
  pub all_are : length bits ≡ all
  pub filled_is : filled ≡ begun + (8 - width)
  pub holds : HoldsBits bytes (held % 2 ^ filled) begun width bits

-- none of the four bytes of a word is FF
pub record HasNoFf (word : ℕ) : Type 0 where
  pub first : word / 2 ^ 24 % 2 ^ 8 ≡ 255 → ⊥
  pub second : word / 2 ^ 16 % 2 ^ 8 ≡ 255 → ⊥
  pub third : word / 2 ^ 8 % 2 ^ 8 ≡ 255 → ⊥
  pub last : word / 2 ^ 0 % 2 ^ 8 ≡ 255 → ⊥

-- all but the last `left` bits of the first `opened` bytes
abbrev pub opened_bits : List ℕ → ℕ → ℕ → List Bool
opened_bits bytes opened left = let whole = useful false (take opened bytes) in
    take (length whole - left) whole

-- What a reader keeps: how many bytes are opened, the last of them (0 where there is none), and how
-- many of its low bits are left.
pub record Opens (bytes : List ℕ) (opened last left : ℕ) : Type 0 where
  pub short : length bytes < 2 ^ 32
  pub within : opened ≤ length bytes
  pub few : left < 8
  pub stuffed : IsStuffed false (take opened bytes)
  pub behind : ends_in_ff false (take opened bytes) ≡ (last == 255)
  pub split : useful false (take opened bytes) ≡ opened_bits bytes opened left ++ number left last
  pub begun : ((opened ≡ 0) × (left ≡ 0))
      ⊎ (length (useful false (take (opened - 1) bytes)) + left
      < length (useful false (take opened bytes)))

-- the reader that these are
abbrev pub source_of : List ℕ → ℕ → ℕ → ℕ → BitSource
source_of bytes opened last left = record {
  bytes = bytes;
  taken = opened_bits bytes opened left;
  ahead = number left last ++ supply_from (last == 255) (drop opened bytes);
}
