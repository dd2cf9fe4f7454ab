-- What is wrong with a file, in the words of the grammar: each fault by the bytes up to the one
-- that shows it.
use Rattle.std.specs.Prelude.{ℕ, zero, suc, ◌≡◌, ◌<◌, ◌≤◌, ◌+◌, ◌*◌, ◌⊎◌, Bool, true, false, ◌==◌}
use Rattle.std.specs.Prelude.{◌&&◌, nat_lt, List, [], ◌∷◌, ◌++◌, length, All}
use Rattle.std.specs.Char.{is_ascii_digit}
use Rattle.std.specs.List.{concat, flat_map}
use Rattle.pnm_frames.specs.declared.limits.SizeLimits.{SizeLimits}
use Rattle.pnm_frames.specs.declared.fault.FrameFault.{FrameFault}
use Rattle.pnm_frames.specs.declared.fault.FrameFault.TheVariants.{NotPpm, BadHeader, HeaderTooLong}
use Rattle.pnm_frames.specs.declared.fault.FrameFault.TheVariants.{WrongMaxval, WidthOutOfRange}
use Rattle.pnm_frames.specs.declared.fault.FrameFault.TheVariants.{HeightOutOfRange, SampleTooLarge}
use Rattle.pnm_frames.specs.declared.fault.FrameFault.TheVariants.{Truncated, TrailingBytes}
use Rattle.pnm_frames.specs.Grammar.{begins_gap, ends_comment, ends_number, header_limit, IsGapItem}
use Rattle.pnm_frames.specs.Grammar.{IsGap, IsNumeral, Parts, header, IsHeader}
use Rattle.pnm_frames.specs.Picture.{IsSample, IsWithin}

-- what a header's number may be after so many others: a width, a height, a maxval
abbrev pub IsInRange : SizeLimits → ℕ → ℕ → Type 0
IsInRange limits zero n = (1 ≤ n) × (n ≤ limits.width)
IsInRange limits (suc zero) n = (1 ≤ n) × (n ≤ limits.height)
IsInRange limits (suc (suc k)) n = n ≡ 4095

-- the fault of one that isn't
abbrev pub range_fault : ℕ → FrameFault
range_fault zero = WidthOutOfRange
range_fault (suc zero) = HeightOutOfRange
range_fault (suc (suc k)) = WrongMaxval

-- bytes of a kind, a gap, and a number that is worth n
pub record EndsInNumber (IsBefore : List ℕ → Type 0) (n : ℕ) (bytes : List ℕ) : Type 0 where
  pub before : List ℕ
  pub gap : List ℕ
  pub digits : List ℕ
  pub begins : IsBefore before
  pub is_gap : IsGap gap
  pub number : IsNumeral digits n
  pub whole : bytes ≡ before ++ (gap ++ digits)

-- `P6`, and so many numbers in their ranges, each after a gap
abbrev pub HasNumbers : SizeLimits → ℕ → List ℕ → Type 0
HasNumbers limits zero bytes = bytes ≡ 80 ∷ 54 ∷ []
HasNumbers limits (suc k) bytes =
    (n : ℕ) × EndsInNumber (HasNumbers limits k) n bytes × IsInRange limits k n

-- a header that hasn't ended and is in no comment: `P6`, at most two numbers, a gap, and no digits or
-- some of the next number
pub record IsOpen (limits : SizeLimits) (bytes : List ℕ) : Type 0 where
  pub numbers : ℕ
  pub few : numbers < 3
  pub before : List ℕ
  pub gap : List ℕ
  pub digits : List ℕ
  pub begins : HasNumbers limits numbers before
  pub is_gap : IsGap gap
  pub ascii : All (λ b. is_ascii_digit b ≡ true) digits
  pub whole : bytes ≡ before ++ (gap ++ digits)

-- one that ends in a comment: `P6`, at most two numbers, items of a gap or none, and a `#` with some
-- of its text
pub record IsCommented (limits : SizeLimits) (bytes : List ℕ) : Type 0 where
  pub numbers : ℕ
  pub few : numbers < 3
  pub before : List ℕ
  pub items : List (List ℕ)
  pub text : List ℕ
  pub begins : HasNumbers limits numbers before
  pub each : All IsGapItem items
  pub inside : All (λ b. ends_comment b ≡ false) text
  pub whole : bytes ≡ before ++ (concat items ++ (35 ∷ text))

-- a header that hasn't ended, in a comment or not
abbrev pub IsBegun : SizeLimits → List ℕ → Type 0
IsBegun limits bytes = IsOpen limits bytes ⊎ IsCommented limits bytes

-- two bytes of a raster, the high one first
pub record Pair : Type 0 where
  pub high : ℕ
  pub low : ℕ

abbrev pub pair_value : Pair → ℕ
pair_value pair = 256 * pair.high + pair.low

abbrev pub pair_bytes : Pair → List ℕ
pair_bytes pair = pair.high ∷ pair.low ∷ []

-- a header of a size within the limits, and samples of 12 bits
pub record HasSamples (limits : SizeLimits) (bytes : List ℕ) : Type 0 where
  pub parts : Parts
  pub width : ℕ
  pub height : ℕ
  pub samples : List Pair
  pub is_header : IsHeader parts width height
  pub within : IsWithin limits width height
  pub fit : All (λ pair. IsSample (pair_value pair)) samples
  pub whole : bytes ≡ header parts ++ flat_map pair_bytes samples

-- a raster in which samples are missing, and one in which none is
abbrev pub LacksSamples : SizeLimits → List ℕ → Type 0
LacksSamples limits bytes = (read : HasSamples limits bytes) ×
    (length read.samples < 3 * (read.width * read.height))

abbrev pub HasAllSamples : SizeLimits → List ℕ → Type 0
HasAllSamples limits bytes = (read : HasSamples limits bytes) ×
    (length read.samples ≡ 3 * (read.width * read.height))

-- what is there of the first two bytes isn't `P6`
abbrev pub IsNotP6 : List ℕ → Type 0
IsNotP6 [] = ⊥
IsNotP6 (p ∷ []) = p ≡ 80 → ⊥
IsNotP6 (p ∷ six ∷ bytes) = p ≡ 80 → six ≡ 54 → ⊥

-- whether the header ends in digits of the maxval
abbrev pub in_maxval : {limits : SizeLimits} {bytes : List ℕ} → IsOpen limits bytes → Bool
in_maxval header = header.numbers == 2 && nat_lt 0 (length header.digits)

-- neither white space nor a `#`, which may not follow the maxval, nor, after a gap, a digit
abbrev pub IsNotAllowed : SizeLimits → List ℕ → ℕ → Type 0
IsNotAllowed limits prefix b =
    ((prefix ≡ 80 ∷ 54 ∷ []) × (begins_gap b ≡ false))
    ⊎ ((header : IsOpen limits prefix) × (ends_number (in_maxval header) b ≡ false) ×
    (is_ascii_digit b ≡ false))

-- the number after so many others isn't what it may be, and a byte ends it that the longest header
-- still holds
abbrev pub IsOutOfRange : SizeLimits → ℕ → List ℕ → Type 0
IsOutOfRange limits k bytes = (prefix : List ℕ) × (end : ℕ) × (rest : List ℕ) × (n : ℕ) ×
    (bytes ≡ prefix ++ (end ∷ rest))
    × EndsInNumber (HasNumbers limits k) n prefix × (IsInRange limits k n → ⊥) ×
    (ends_number (k == 2) end ≡ true) × (length prefix < header_limit)

-- right as far as it goes, and no whole file
abbrev pub IsUnfinished : SizeLimits → List ℕ → Type 0
IsUnfinished limits bytes = (bytes ≡ []) ⊎
    ((bytes ≡ 80 ∷ []) ⊎ ((bytes ≡ 80 ∷ 54 ∷ []) ⊎
    ((IsBegun limits bytes × (length bytes < header_limit))
    ⊎ ((prefix : List ℕ) × (half : List ℕ) × (bytes ≡ prefix ++ half) × LacksSamples limits prefix ×
    (length half < 2)))))

-- The file has the fault. What follows the byte that shows it, the last that is named here, may be
-- anything; of Truncated nothing follows.
abbrev pub HasFault : SizeLimits → List ℕ → FrameFault → Type 0
HasFault limits bytes NotPpm = IsNotP6 bytes
HasFault limits bytes (BadHeader place) =
    (prefix : List ℕ) × (b : ℕ) × (rest : List ℕ) × (bytes ≡ prefix ++ (b ∷ rest))
    × (length prefix ≡ place) × (place < header_limit) × IsNotAllowed limits prefix b
HasFault limits bytes HeaderTooLong =
    (prefix : List ℕ) × (rest : List ℕ) × (bytes ≡ prefix ++ rest) ×
    (length prefix ≡ header_limit) × IsBegun limits prefix
HasFault limits bytes WidthOutOfRange = IsOutOfRange limits 0 bytes
HasFault limits bytes HeightOutOfRange = IsOutOfRange limits 1 bytes
HasFault limits bytes WrongMaxval = IsOutOfRange limits 2 bytes
HasFault limits bytes (SampleTooLarge place) =
    (prefix : List ℕ) × (pair : Pair) × (rest : List ℕ) ×
    (bytes ≡ prefix ++ (pair_bytes pair ++ rest))
    × (length prefix ≡ place) × LacksSamples limits prefix × (4095 < pair_value pair)
HasFault limits bytes (Truncated seen) = (length bytes ≡ seen) × IsUnfinished limits bytes
HasFault limits bytes TrailingBytes =
    (prefix : List ℕ) × (b : ℕ) × (rest : List ℕ) ×
    (bytes ≡ prefix ++ (b ∷ rest)) × HasAllSamples limits prefix
