-- The grammar of a file: ppm(5), magic P6, maxval 4095, comments in the gaps of the header.
use Rattle.std.specs.Prelude.{ℕ, ◌≡◌, ◌<◌, ◌≤◌, ◌+◌, ◌*◌, ◌-◌, ◌⊎◌, Bool, true, false, ◌||◌, ◌==◌}
use Rattle.std.specs.Prelude.{if◌then◌else◌, List, [], ◌∷◌, ◌++◌, length, All}
use Rattle.std.specs.Char.{is_ascii_digit}
use Rattle.std.specs.List.{concat}
use Rattle.pnm_frames.specs.Picture.{Picture, raster}

-- space, TAB, LF and CR
abbrev pub is_white : ℕ → Bool
is_white b = b == 32 || b == 9 || b == 10 || b == 13

-- what the digits are worth after a number n
abbrev pub value_from : ℕ → List ℕ → ℕ
value_from n [] = n
value_from n (digit ∷ digits) = value_from (10 * n + (digit - 48)) digits

-- white space, or the `#` of a comment
abbrev pub begins_gap : ℕ → Bool
begins_gap b = is_white b || b == 35

-- LF and CR
abbrev pub ends_comment : ℕ → Bool
ends_comment b = b == 10 || b == 13

-- `#`, a text without LF and CR, and one LF or CR
pub record IsComment (bytes : List ℕ) : Type 0 where
  pub text : List ℕ
  pub end : ℕ
  pub inside : All (λ b. ends_comment b ≡ false) text
  pub ended : ends_comment end ≡ true
  pub whole : bytes ≡ 35 ∷ (text ++ (end ∷ []))

-- a white space byte, or a comment
abbrev pub IsGapItem : List ℕ → Type 0
IsGapItem bytes = ((b : ℕ) × (is_white b ≡ true) × (bytes ≡ b ∷ [])) ⊎ IsComment bytes

-- one or more of them, each after the other
pub record IsGap (gap : List ℕ) : Type 0 where
  pub items : List (List ℕ)
  pub some : 0 < length items
  pub each : All IsGapItem items
  pub whole : gap ≡ concat items

-- what ends a number: the first byte of a gap, and after the last number, the maxval, white space
abbrev pub ends_number : Bool → ℕ → Bool
ends_number last b = if last then is_white b else begins_gap b

-- one or more ASCII digits, leading zeros allowed, that are worth n
pub record IsNumeral (digits : List ℕ) (n : ℕ) : Type 0 where
  pub some : 0 < length digits
  pub ascii : All (λ b. is_ascii_digit b ≡ true) digits
  pub worth : value_from 0 digits ≡ n

-- the parts of a header
pub record Parts : Type 0 where
  pub gap1 : List ℕ
  pub width : List ℕ
  pub gap2 : List ℕ
  pub height : List ℕ
  pub gap3 : List ℕ
  pub maxval : List ℕ
  pub end : ℕ

-- the magic number `P6`, the parts in order, and one byte after the maxval
abbrev pub header : Parts → List ℕ
header parts = 80 ∷ 54 ∷ (parts.gap1 ++ (parts.width ++ (parts.gap2 ++ (parts.height
    ++ (parts.gap3 ++ (parts.maxval ++ (parts.end ∷ [])))))))

-- the longest header, in bytes
abbrev pub header_limit : ℕ
header_limit = 4096

-- Gaps and numbers in turn; the maxval is 4095, a white space byte ends it, and the header isn't
-- too long.
pub record IsHeader (parts : Parts) (width height : ℕ) : Type 0 where
  pub gap1 : IsGap parts.gap1
  pub width_is : IsNumeral parts.width width
  pub gap2 : IsGap parts.gap2
  pub height_is : IsNumeral parts.height height
  pub gap3 : IsGap parts.gap3
  pub maxval : IsNumeral parts.maxval 4095
  pub ended : is_white parts.end ≡ true
  pub short : length (header parts) ≤ header_limit

-- the bytes are a header of the picture's width and height, and its raster
abbrev pub Spells : List ℕ → Picture → Type 0
Spells bytes p = (parts : Parts) × IsHeader parts p.width p.height ×
    (bytes ≡ header parts ++ raster p)
