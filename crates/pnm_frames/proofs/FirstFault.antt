-- Which fault is the first: the shortest prefix of a file that has one other than a missing byte
-- decides, whatever follows.
use Rattle.std.proofs.Common.{◌≡◌, ℕ, zero, suc, ◌+◌, ◌*◌, ◌-◌, Bool, true, false, cond, eqb, List}
use Rattle.std.proofs.Common.{[], ◌∷◌, ◌++◌, length, Option, Some, None, Result, Ok, Err, refl, ap}
use Rattle.std.proofs.Common.{arith}
use Rattle.std.specs.Prelude.{nat_lt, nat_le}
use Rattle.std.specs.Char.{is_ascii_digit}
use Rattle.std.proofs.Math.Dec.{leb}
use Rattle.pnm_frames.specs.declared.limits.SizeLimits.{SizeLimits}
use Rattle.pnm_frames.specs.declared.fault.FrameFault.{FrameFault}
use Rattle.pnm_frames.specs.declared.fault.FrameFault.TheVariants.{NotPpm, BadHeader, HeaderTooLong}
use Rattle.pnm_frames.specs.declared.fault.FrameFault.TheVariants.{WrongMaxval, WidthOutOfRange}
use Rattle.pnm_frames.specs.declared.fault.FrameFault.TheVariants.{HeightOutOfRange, SampleTooLarge}
use Rattle.pnm_frames.specs.declared.fault.FrameFault.TheVariants.{Truncated, TrailingBytes}
use Rattle.pnm_frames.specs.Fault.{◌>>=◌}
use Rattle.pnm_frames.specs.FirstFault.{Stands, Foretells}
use Rattle.pnm_frames.specs.Grammar.{begins_gap, ends_number, header_limit}
use Rattle.pnm_frames.specs.Picture.{Picture}
use Rattle.pnm_frames.specs.Reading.{Read, byte_at, magic_at, goes_on, stays_open, gap_at, digits_at}
use Rattle.pnm_frames.specs.Reading.{number_at, ranged_at, or_fault, header_at, samples_at, plane_of}
use Rattle.pnm_frames.specs.Reading.{ended, frame_of}
use Rattle.pnm_frames.proofs.Grammar.{Sizes, behind_gap, judged, step1, step2, step3, step4, step5}
use Rattle.pnm_frames.proofs.Grammar.{step6, step7}

stands-on : {X Y : Type 0} (e : FrameFault) (whole : ℕ) (l : Result X FrameFault)
    (f : X → Result Y FrameFault) → Stands e whole l → Stands e whole (l >>= f)
stands-on (Truncated seen) whole l f h = h
stands-on NotPpm whole l f h = rw h refl
stands-on (BadHeader place) whole l f h = rw h refl
stands-on HeaderTooLong whole l f h = rw h refl
stands-on WrongMaxval whole l f h = rw h refl
stands-on WidthOutOfRange whole l f h = rw h refl
stands-on HeightOutOfRange whole l f h = rw h refl
stands-on (SampleTooLarge place) whole l f h = rw h refl
stands-on TrailingBytes whole l f h = rw h refl

-- ---- a part of a header

abbrev Point : Type 0 → Type 0
Point A = A × ℕ × List ℕ

-- With more bytes after it, a part reads the same and leaves them, or its fault stands.
abbrev Goes : {A : Type 0} → ℕ → List ℕ → Result (A × ℕ × List ℕ) FrameFault →
    Result (A × ℕ × List ℕ) FrameFault → Type 0
Goes whole more (Ok read) longer =
    (longer ≡ Ok (read.0, read.1, read.2 ++ more)) × (read.1 + length read.2 ≡ whole)
Goes whole more (Err e) longer = Stands e whole longer

goes-then : {A B : Type 0} (whole : ℕ) (more : List ℕ) (r l : Read A) (f : Point A → Read B) →
    Goes whole more r l
    → ((read : Point A) → read.1 + length read.2 ≡ whole →
    Goes whole more (f read) (f (read.0, read.1, read.2 ++ more)))
    → Goes whole more (r >>= f) (l >>= f)
goes-then whole more (Ok read) l f goes next = rw goes.0 (next read goes.1)
goes-then whole more (Err e) l f goes next = stands-on e whole l f goes

goes-choice : {A : Type 0} (whole : ℕ) (more : List ℕ) (t : Bool) (x y u v : Read A) →
    Goes whole more x u → Goes whole more y v → Goes whole more (cond t x y) (cond t u v)
goes-choice whole more true x y u v left right = left
goes-choice whole more false x y u v left right = right

-- at the end of the file
goes-end : {A : Type 0} (whole at : ℕ) (more : List ℕ) (t : Bool) (longer : Read A) →
    at + 0 ≡ whole → (t ≡ false → longer ≡ Err HeaderTooLong)
    → Goes whole more (cond t (Err (Truncated at)) (Err HeaderTooLong)) longer
goes-end whole at more true longer len late = omega (arith, len)
goes-end whole at more false longer len late = late refl

late-byte : (at : ℕ) (more : List ℕ) → nat_lt at header_limit ≡ false →
    byte_at at more ≡ Err HeaderTooLong
late-byte at [] late = rw late refl
late-byte at (b ∷ more) late = rw late refl

goes-byte : (whole at : ℕ) (bytes more : List ℕ) → at + length bytes ≡ whole →
    Goes whole more (byte_at at bytes) (byte_at at (bytes ++ more))
goes-byte whole at [] more len =
    goes-end whole at more (nat_lt at header_limit) (byte_at at more) len (late-byte at more)
goes-byte whole at (b ∷ bytes) more len =
    goes-choice whole more (nat_lt at header_limit) (Ok (b, suc at, bytes)) (Err HeaderTooLong)
    (Ok (b, suc at, bytes ++ more)) (Err HeaderTooLong) (refl, omega (arith, len)) refl

late-gap : (commented : Bool) (at : ℕ) (more : List ℕ) → nat_lt at header_limit ≡ false →
    gap_at commented at more ≡ Err HeaderTooLong
late-gap commented at [] late = rw late refl
late-gap commented at (b ∷ more) late = rw late refl

goes-gap : (whole : ℕ) (commented : Bool) (at : ℕ) (bytes more : List ℕ) →
    at + length bytes ≡ whole →
    Goes whole more (gap_at commented at bytes) (gap_at commented at (bytes ++ more))
goes-gap whole commented at [] more len =
    goes-end whole at more (nat_lt at header_limit) (gap_at commented at more) len
    (late-gap commented at more)
goes-gap whole commented at (b ∷ bytes) more len =
    let still : Bool = stays_open commented b in
    let on = goes-gap whole still (suc at) bytes more (omega (arith, len)) in
    goes-choice whole more (nat_lt at header_limit)
    (cond (goes_on commented b) (gap_at still (suc at) bytes) (Ok (b, suc at, bytes)))
    (Err HeaderTooLong)
    (cond (goes_on commented b) (gap_at still (suc at) (bytes ++ more))
    (Ok (b, suc at, bytes ++ more)))
    (Err HeaderTooLong)
    (goes-choice whole more (goes_on commented b) (gap_at still (suc at) bytes)
    (Ok (b, suc at, bytes))
    (gap_at still (suc at) (bytes ++ more)) (Ok (b, suc at, bytes ++ more)) on
    (refl, omega (arith, len)))
    refl

late-digits : (last : Bool) (n at : ℕ) (more : List ℕ) → nat_lt at header_limit ≡ false →
    digits_at last n at more ≡ Err HeaderTooLong
late-digits last n at [] late = rw late refl
late-digits last n at (b ∷ more) late = rw late refl

goes-digits : (whole : ℕ) (last : Bool) (n at : ℕ) (bytes more : List ℕ) →
    at + length bytes ≡ whole →
    Goes whole more (digits_at last n at bytes) (digits_at last n at (bytes ++ more))
goes-digits whole last n at [] more len =
    goes-end whole at more (nat_lt at header_limit) (digits_at last n at more) len
    (late-digits last n at more)
goes-digits whole last n at (b ∷ bytes) more len =
    let on = goes-digits whole last
    (10 * n + (b - 48)) (suc at) bytes more (omega (arith, len)) in
    let number = digits_at last (10 * n + (b - 48)) (suc at) in
    let inner = goes-choice whole more (is_ascii_digit b) (number bytes) (Err (BadHeader at))
    (number (bytes ++ more)) (Err (BadHeader at)) on refl in
    goes-choice whole more (nat_lt at header_limit)
    (cond (ends_number last b) (Ok ((n, b), suc at, bytes))
    (cond (is_ascii_digit b) (number bytes) (Err (BadHeader at)))) (Err HeaderTooLong)
    (cond (ends_number last b) (Ok ((n, b), suc at, bytes ++ more))
    (cond (is_ascii_digit b) (number (bytes ++ more)) (Err (BadHeader at)))) (Err HeaderTooLong)
    (goes-choice whole more (ends_number last b) (Ok ((n, b), suc at, bytes))
    (cond (is_ascii_digit b) (number bytes) (Err (BadHeader at)))
    (Ok ((n, b), suc at, bytes ++ more))
    (cond (is_ascii_digit b) (number (bytes ++ more)) (Err (BadHeader at)))
    (refl, omega (arith, len)) inner)
    refl

goes-number : (whole : ℕ) (last : Bool) (begun at : ℕ) (bytes more : List ℕ) →
    at + length bytes ≡ whole →
    Goes whole more (number_at last begun at bytes) (number_at last begun at (bytes ++ more))
unfolding number_at
goes-number whole last begun at bytes more len =
    goes-then whole more (gap_at (eqb begun 35) at bytes)
    (gap_at (eqb begun 35) at (bytes ++ more)) (behind_gap last)
    (goes-gap whole (eqb begun 35) at bytes more len)
    (λ first place. goes-choice whole more (is_ascii_digit first.0)
    (digits_at last (first.0 - 48) first.1 first.2) (Err (BadHeader (first.1 - 1)))
    (digits_at last (first.0 - 48) first.1 (first.2 ++ more)) (Err (BadHeader (first.1 - 1)))
    (goes-digits whole last (first.0 - 48) first.1 first.2 more place) refl)

goes-ranged : (whole : ℕ) (last : Bool) (low high begun at : ℕ) (bytes more : List ℕ) →
    at + length bytes ≡ whole →
    Goes whole more (ranged_at last low high begun at bytes)
    (ranged_at last low high begun at (bytes ++ more))
unfolding ranged_at
goes-ranged whole last low high begun at bytes more len =
    goes-then whole more (number_at last begun at bytes) (number_at last begun at (bytes ++ more))
    (judged low high)
    (goes-number whole last begun at bytes more len) (λ number place. (refl, place))

goes-or : {A : Type 0} (whole : ℕ) (more : List ℕ) (fault : FrameFault) (o : Option ℕ)
    (f g : ℕ → Read A) → Goes {A = A} whole more (Err fault) (Err fault)
    → ((n : ℕ) → Goes whole more (f n) (g n)) →
    Goes whole more (or_fault fault o >>= f) (or_fault fault o >>= g)
goes-or whole more fault None f g stands next = stands
goes-or whole more fault (Some n) f g stands next = next n

-- ---- the magic number

abbrev letter : ℕ → Point ℕ → Read ℕ
letter wanted first = cond (eqb first.0 wanted) (byte_at first.1 first.2) (Err NotPpm)

abbrev behind_six : Point ℕ → Point ℕ → Read ℕ
behind_six second gap = cond (begins_gap gap.0) (Ok (gap.0, gap.1, gap.2)) (Err (BadHeader second.1))

abbrev behind_second : Point ℕ → Read ℕ
behind_second second = letter 54 second >>= behind_six second

abbrev behind_first : Point ℕ → Read ℕ
behind_first first = letter 80 first >>= behind_second

goes-letter : (whole wanted : ℕ) (more : List ℕ) (first : Point ℕ) →
    first.1 + length first.2 ≡ whole →
    Goes whole more (letter wanted first) (letter wanted (first.0, first.1, first.2 ++ more))
goes-letter whole wanted more first place =
    goes-choice whole more (eqb first.0 wanted) (byte_at first.1 first.2) (Err NotPpm)
    (byte_at first.1 (first.2 ++ more)) (Err NotPpm)
    (goes-byte whole first.1 first.2 more place) refl

goes-magic : (whole at : ℕ) (bytes more : List ℕ) → at + length bytes ≡ whole →
    Goes whole more (magic_at at bytes) (magic_at at (bytes ++ more))
unfolding magic_at
goes-magic whole at bytes more len =
    goes-then whole more (byte_at at bytes) (byte_at at (bytes ++ more)) behind_first
    (goes-byte whole at bytes more len)
    (λ first here. goes-then whole more (letter 80 first)
    (letter 80 (first.0, first.1, first.2 ++ more)) behind_second
    (goes-letter whole 80 more first here)
    (λ second there. goes-then whole more (letter 54 second)
    (letter 54 (second.0, second.1, second.2 ++ more)) (behind_six second)
    (goes-letter whole 54 more second there)
    (λ gap place. goes-choice whole more (begins_gap gap.0) (Ok (gap.0, gap.1, gap.2))
    (Err (BadHeader second.1)) (Ok (gap.0, gap.1, gap.2 ++ more)) (Err (BadHeader second.1))
    (refl, place) refl)))

-- ---- the header

abbrev longer : {A : Type 0} → List ℕ → Point A → Point A
longer more read = (read.0, read.1, read.2 ++ more)

goes-step6 : (whole w h : ℕ) (more : List ℕ) (maxval : Point (Option ℕ × ℕ)) →
    maxval.1 + length maxval.2 ≡ whole →
    Goes whole more (step6 w h maxval) (step6 w h (longer more maxval))
goes-step6 whole w h more maxval place =
    goes-or whole more WrongMaxval maxval.0.0 (step7 w h maxval) (step7 w h (longer more maxval))
    refl
    (λ m. (refl, place))

goes-step4 : (whole w : ℕ) (more : List ℕ) (height : Point (Option ℕ × ℕ)) →
    height.1 + length height.2 ≡ whole →
    Goes whole more (step4 w height) (step4 w (longer more height))
goes-step4 whole w more height place =
    let begun : ℕ = height.0.1 in
    goes-or whole more HeightOutOfRange height.0.0 (step5 w height)
    (step5 w (longer more height)) refl
    (λ h. goes-then whole more (ranged_at true 4095 4095 begun height.1 height.2)
    (ranged_at true 4095 4095 begun height.1 (height.2 ++ more)) (step6 w h)
    (goes-ranged whole true 4095 4095 begun height.1 height.2 more place)
    (λ maxval here. goes-step6 whole w h more maxval here))

goes-step2 : (limits : SizeLimits) (whole : ℕ) (more : List ℕ) (width : Point (Option ℕ × ℕ)) →
    width.1 + length width.2 ≡ whole →
    Goes whole more (step2 limits width) (step2 limits (longer more width))
goes-step2 limits whole more width place =
    let begun : ℕ = width.0.1 in
    goes-or whole more WidthOutOfRange width.0.0 (step3 limits width)
    (step3 limits (longer more width)) refl
    (λ w. goes-then whole more (ranged_at false 1 limits.height begun width.1 width.2)
    (ranged_at false 1 limits.height begun width.1 (width.2 ++ more)) (step4 w)
    (goes-ranged whole false 1 limits.height begun width.1 width.2 more place)
    (λ height here. goes-step4 whole w more height here))

goes-header : (limits : SizeLimits) (bytes more : List ℕ) →
    Goes (length bytes) more (header_at limits bytes) (header_at limits (bytes ++ more))
unfolding header_at
goes-header limits bytes more =
    let whole : ℕ = length bytes in
    goes-then whole more (magic_at 0 bytes) (magic_at 0 (bytes ++ more)) (step1 limits)
    (goes-magic whole 0 bytes more (omega arith))
    (λ magic here. goes-then whole more (ranged_at false 1 limits.width magic.0 magic.1 magic.2)
    (ranged_at false 1 limits.width magic.0 magic.1 (magic.2 ++ more)) (step2 limits)
    (goes-ranged whole false 1 limits.width magic.0 magic.1 magic.2 more here)
    (λ width place. goes-step2 limits whole more width place))

-- ---- the samples

abbrev pub Samples : Type 0
Samples = List ℕ × List ℕ

abbrev Runs : ℕ → List ℕ → Result Samples FrameFault → Result Samples FrameFault → Type 0
Runs whole more (Ok read) further = further ≡ Ok (read.0, read.1 ++ more)
Runs whole more (Err e) further = Stands e whole further

abbrev pub with_sample : ℕ → Samples → Result Samples FrameFault
with_sample s read = Ok (s ∷ read.0, read.1)

runs-on : (whole s : ℕ) (more : List ℕ) (r l : Result Samples FrameFault) → Runs whole more r l →
    Runs whole more (r >>= with_sample s) (l >>= with_sample s)
runs-on whole s more (Ok read) l runs = rw runs refl
runs-on whole s more (Err e) l runs = stands-on e whole l (with_sample s) runs

runs-choice : (whole : ℕ) (more : List ℕ) (t : Bool) (x y u v : Result Samples FrameFault) →
    Runs whole more x u → Runs whole more y v → Runs whole more (cond t x y) (cond t u v)
runs-choice whole more true x y u v left right = left
runs-choice whole more false x y u v left right = right

runs-samples : (whole n at : ℕ) (bytes more : List ℕ) → at + length bytes ≡ whole →
    Runs whole more (samples_at n at bytes) (samples_at n at (bytes ++ more))
runs-samples whole zero at bytes more len = refl
runs-samples whole (suc n) at [] more len = omega (arith, len)
runs-samples whole (suc n) at (high ∷ []) more len = omega (arith, len)
runs-samples whole (suc n) at (high ∷ low ∷ bytes) more len =
    let s : ℕ = 256 * high + low in
    let on = runs-samples whole n (suc (suc at)) bytes more (omega (arith, len)) in
    runs-choice whole more (nat_le s 4095) (samples_at n (suc (suc at)) bytes >>= with_sample s)
    (Err (SampleTooLarge at))
    (samples_at n (suc (suc at)) (bytes ++ more) >>= with_sample s) (Err (SampleTooLarge at))
    (runs-on whole s more (samples_at n (suc (suc at)) bytes)
    (samples_at n (suc (suc at)) (bytes ++ more)) on) refl

-- ---- the file

from-header : (whole : ℕ) (more : List ℕ) (r l : Read (ℕ × ℕ))
    (f : Sizes → Result Picture FrameFault) → Goes whole more r l
    → ((read : Sizes) → read.1 + length read.2 ≡ whole →
    Foretells whole more (f read) (f (longer more read)))
    → Foretells whole more (r >>= f) (l >>= f)
from-header whole more (Ok read) l f goes next = rw goes.0 (next read goes.1)
from-header whole more (Err e) l f goes next = stands-on e whole l f goes

from-samples : (whole : ℕ) (more : List ℕ) (r l : Result Samples FrameFault)
    (f : Samples → Result Picture FrameFault) → Runs whole more r l
    → ((read : Samples) → Foretells whole more (f read) (f (read.0, read.1 ++ more)))
    → Foretells whole more (r >>= f) (l >>= f)
from-samples whole more (Ok read) l f runs next = rw runs (next read)
from-samples whole more (Err e) l f runs next = stands-on e whole l f runs

from-end : (whole : ℕ) (more : List ℕ) (p : Picture) (rest : List ℕ) →
    Foretells whole more (ended p rest) (ended p (rest ++ more))
from-end whole more p [] = refl
from-end whole more p (b ∷ rest) = refl

abbrev pub picture : ℕ × ℕ → List ℕ → Picture
picture sizes samples = record {
  width = sizes.0;
  height = sizes.1;
  x = plane_of (λ x y z. x) samples;
  y = plane_of (λ x y z. y) samples;
  z = plane_of (λ x y z. z) samples;
}

abbrev pub behind_samples : ℕ × ℕ → Samples → Result Picture FrameFault
behind_samples sizes samples = ended (picture sizes samples.0) samples.1

abbrev pub behind_header : Sizes → Result Picture FrameFault
behind_header header = samples_at
    (3 * (header.0.0 * header.0.1)) header.1 header.2 >>= behind_samples header.0

-- A file foretells every longer one: its fault stands, unless only a byte was missing at its end.
pub foretells : (limits : SizeLimits) (bytes more : List ℕ) →
    Foretells (length bytes) more (frame_of limits bytes) (frame_of limits (bytes ++ more))
unfolding frame_of
foretells limits bytes more =
    let whole : ℕ = length bytes in
    from-header whole more (header_at limits bytes) (header_at limits (bytes ++ more)) behind_header
    (goes-header limits bytes more)
    (λ header place. from-samples whole more
    (samples_at (3 * (header.0.0 * header.0.1)) header.1 header.2)
    (samples_at (3 * (header.0.0 * header.0.1)) header.1 (header.2 ++ more))
    (behind_samples header.0) (runs-samples whole
    (3 * (header.0.0 * header.0.1)) header.1 header.2 more place)
    (λ samples. from-end whole more (picture header.0 samples.0) samples.1))

-- a proper prefix of a file that spells a picture lacks a byte, and nothing else is wrong with it
no-frame : {f : FrameFault} {p : Picture} {r : Result Picture FrameFault} → r ≡ Ok p → r ≡ Err f → ⊥
no-frame frame fault = cc

lacks : (fault : FrameFault) (whole : ℕ) (p : Picture) (r : Result Picture FrameFault) → r ≡ Ok p →
    Stands fault whole r → fault ≡ Truncated whole
lacks (Truncated seen) whole p r frame stands = ap (λ (n : ℕ). Truncated n) stands
lacks NotPpm whole p r frame stands = absurd (no-frame frame stands)
lacks (BadHeader place) whole p r frame stands = absurd (no-frame frame stands)
lacks HeaderTooLong whole p r frame stands = absurd (no-frame frame stands)
lacks WrongMaxval whole p r frame stands = absurd (no-frame frame stands)
lacks WidthOutOfRange whole p r frame stands = absurd (no-frame frame stands)
lacks HeightOutOfRange whole p r frame stands = absurd (no-frame frame stands)
lacks (SampleTooLarge place) whole p r frame stands = absurd (no-frame frame stands)
lacks TrailingBytes whole p r frame stands = absurd (no-frame frame stands)

prefix : (whole b : ℕ) (more : List ℕ) (p : Picture) (r l : Result Picture FrameFault) →
    Foretells whole (b ∷ more) r l → l ≡ Ok p → r ≡ Err (Truncated whole)
prefix whole b more p (Ok q) l tells frame = absurd (no-frame frame tells)
prefix whole b more p (Err e) l tells frame =
    ap (λ (f : FrameFault). refused f) (lacks e whole p l frame tells)
  where
    refused : FrameFault → Result Picture FrameFault
    refused f = Err f

pub prefix-truncated : (limits : SizeLimits) (bytes : List ℕ) (b : ℕ) (more : List ℕ) (p : Picture)
    →
    frame_of limits (bytes ++ (b ∷ more)) ≡ Ok p →
    frame_of limits bytes ≡ Err (Truncated (length bytes))
prefix-truncated limits bytes b more p frame =
    prefix (length bytes) b more p (frame_of limits bytes) (frame_of limits (bytes ++ (b ∷ more)))
    (foretells limits bytes (b ∷ more)) frame
