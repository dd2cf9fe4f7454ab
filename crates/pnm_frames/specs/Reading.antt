-- Reading a file from left to right: the picture that its bytes spell, or the first fault.
use Rattle.std.specs.Prelude.{ℕ, zero, suc, ◌+◌, ◌*◌, ◌-◌, ◌^◌, min, Bool, true, false, not, List, []}
use Rattle.std.specs.Prelude.{◌∷◌, Option, Some, None, Result, Ok, Err, nat_lt, nat_le, ◌==◌, ◌&&◌}
use Rattle.std.specs.Prelude.{◌||◌, if◌then◌else◌}
use Rattle.std.specs.Char.{is_ascii_digit}
use Rattle.pnm_frames.specs.declared.limits.SizeLimits.{SizeLimits}
use Rattle.pnm_frames.specs.declared.fault.FrameFault.{FrameFault}
use Rattle.pnm_frames.specs.declared.fault.FrameFault.TheVariants.{NotPpm, BadHeader, HeaderTooLong}
use Rattle.pnm_frames.specs.declared.fault.FrameFault.TheVariants.{WrongMaxval, WidthOutOfRange}
use Rattle.pnm_frames.specs.declared.fault.FrameFault.TheVariants.{HeightOutOfRange, SampleTooLarge}
use Rattle.pnm_frames.specs.declared.fault.FrameFault.TheVariants.{Truncated, TrailingBytes}
use Rattle.pnm_frames.specs.Fault.{◌>>=◌}
use Rattle.pnm_frames.specs.Grammar.{begins_gap, ends_comment, ends_number, header_limit}
use Rattle.pnm_frames.specs.Picture.{Picture}

-- a value, and where reading goes on: the next place and the bytes from there
abbrev pub Read : Type 0 → Type 0
Read A = Result (A × ℕ × List ℕ) FrameFault

-- one more header byte is needed at the end of a file
abbrev pub ended_at : {A : Type 0} → ℕ → Read A
ended_at at = if nat_lt at header_limit then Err (Truncated at) else Err HeaderTooLong

-- the next byte of a header
abbrev pub byte_at : ℕ → List ℕ → Read ℕ
byte_at at [] = ended_at at
byte_at at (b ∷ bytes) = if nat_lt at header_limit then Ok (b, suc at, bytes) else Err HeaderTooLong

-- `P6` and the first byte of a gap
unfoldable pub magic_at : ℕ → List ℕ → Read ℕ
magic_at at bytes = do
  first ← byte_at at bytes
  second ← if first.0 == 80 then byte_at first.1 first.2 else Err NotPpm
  gap ← if second.0 == 54 then byte_at second.1 second.2 else Err NotPpm
  if begins_gap gap.0 then Ok (gap.0, gap.1, gap.2) else Err (BadHeader second.1)

-- whether a byte goes on with a gap, in a comment or not, and whether it leaves a comment open
abbrev pub goes_on : Bool → ℕ → Bool
goes_on commented b = commented || begins_gap b

abbrev pub stays_open : Bool → ℕ → Bool
stays_open commented b = if commented then not (ends_comment b) else b == 35

-- the rest of a gap, in a comment or not, and the byte after the gap
abbrev pub gap_at : Bool → ℕ → List ℕ → Read ℕ
gap_at commented at [] = ended_at at
gap_at commented at (b ∷ bytes) =
    if nat_lt at header_limit
    then (if goes_on commented b
    then gap_at (stays_open commented b) (suc at) bytes else Ok (b, suc at, bytes))
    else Err HeaderTooLong

-- further digits of a number, which is worth n so far, and the byte that ends it
abbrev pub digits_at : Bool → ℕ → ℕ → List ℕ → Read (ℕ × ℕ)
digits_at last n at [] = ended_at at
digits_at last n at (b ∷ bytes) =
    if nat_lt at header_limit
    then (if ends_number last b then Ok ((n, b), suc at, bytes)
    else (if is_ascii_digit b then digits_at last (10 * n + (b - 48)) (suc at) bytes else Err
    (BadHeader at)))
    else Err HeaderTooLong

-- a number of 2^32 or more as 2^32
abbrev pub capped : Read (ℕ × ℕ) → Read (ℕ × ℕ)
capped number = number >>= λ read. Ok ((min read.0.0 (2 ^ 32), read.0.1), read.1, read.2)

-- the rest of a gap that began with this byte, a number, and the byte that ends it
unfoldable pub number_at : Bool → ℕ → ℕ → List ℕ → Read (ℕ × ℕ)
number_at last begun at bytes = do
  first ← gap_at (begun == 35) at bytes
  if is_ascii_digit first.0 then digits_at last (first.0 - 48) first.1 first.2 else Err
      (BadHeader (first.1 - 1))

-- the same number, and whether it is within a range
unfoldable pub ranged_at : Bool → ℕ → ℕ → ℕ → ℕ → List ℕ → Read (Option ℕ × ℕ)
ranged_at last low high begun at bytes = do
  number ← number_at last begun at bytes
  Ok (
    (
      (if nat_le low number.0.0 && nat_le number.0.0 high then Some number.0.0 else None),
      number.0.1,
    ),
    number.1,
    number.2,
  )

abbrev pub or_fault : {A : Type 0} → FrameFault → Option A → Result A FrameFault
or_fault fault None = Err fault
or_fault fault (Some x) = Ok x

-- width and height, each judged at the byte that ends it, and the maxval
unfoldable pub header_at : SizeLimits → List ℕ → Read (ℕ × ℕ)
header_at limits bytes = do
  magic ← magic_at 0 bytes
  width ← ranged_at false 1 limits.width magic.0 magic.1 magic.2
  w ← or_fault WidthOutOfRange width.0.0
  height ← ranged_at false 1 limits.height width.0.1 width.1 width.2
  h ← or_fault HeightOutOfRange height.0.0
  maxval ← ranged_at true 4095 4095 height.0.1 height.1 height.2
  m ← or_fault WrongMaxval maxval.0.0
  Ok ((w, h), maxval.1, maxval.2)

-- so many samples, each judged when both its bytes are there
abbrev pub samples_at : ℕ → ℕ → List ℕ → Result (List ℕ × List ℕ) FrameFault
samples_at zero at bytes = Ok ([], bytes)
samples_at (suc n) at [] = Err (Truncated at)
samples_at (suc n) at (high ∷ []) = Err (Truncated (suc at))
samples_at (suc n) at (high ∷ low ∷ bytes) =
    if nat_le (256 * high + low) 4095
    then (samples_at n (suc (suc at)) bytes >>= λ read. Ok ((256 * high + low) ∷ read.0, read.1))
    else Err (SampleTooLarge at)

-- one sample of each pixel
abbrev pub plane_of : (ℕ → ℕ → ℕ → ℕ) → List ℕ → List ℕ
plane_of pick [] = []
plane_of pick (x ∷ []) = []
plane_of pick (x ∷ y ∷ []) = []
plane_of pick (x ∷ y ∷ z ∷ samples) = pick x y z ∷ plane_of pick samples

-- nothing more
abbrev pub ended : {A : Type 0} → A → List ℕ → Result A FrameFault
ended value [] = Ok value
ended value (b ∷ bytes) = Err TrailingBytes

-- the picture of all the bytes
unfoldable pub frame_of : SizeLimits → List ℕ → Result Picture FrameFault
frame_of limits bytes = do
  header ← header_at limits bytes
  samples ← samples_at (3 * (header.0.0 * header.0.1)) header.1 header.2
  ended (record {
    width = header.0.0;
    height = header.0.1;
    x = plane_of (λ x y z. x) samples.0;
    y = plane_of (λ x y z. y) samples.0;
    z = plane_of (λ x y z. z) samples.0;
  }) samples.1
