-- Reading gives what is wrong with a file.
use Rattle.std.proofs.Common.{◌≡◌, ℕ, zero, suc, ◌+◌, ◌*◌, ◌-◌, ◌<◌, ◌≤◌, Bool, true, false, ◌&&◌, ◌⊎◌, eqb}
use Rattle.std.proofs.Common.{List, [], ◌∷◌, ◌++◌, length, Some, Result, Ok, Err, refl, sym, ap}
use Rattle.std.proofs.Common.{◌∙◌, inl, inr, append_assoc, arith, zero-add, length-append}
use Rattle.std.specs.Prelude.{All, nat_lt, nat_le}
use Rattle.std.specs.Char.{is_ascii_digit}
use Rattle.std.specs.List.{concat, flat_map}
use Rattle.std.proofs.lemmas.Bool.{lt-ltb, le-ltb, le-leb, lt-leb, ne_eqb}
use Rattle.std.proofs.lemmas.Bool.Decides.{leb_tells, eqb_tells}
use Rattle.std.proofs.lemmas.List.{append-nil}
use Rattle.pnm_frames.specs.declared.limits.SizeLimits.{SizeLimits}
use Rattle.pnm_frames.specs.declared.fault.FrameFault.{FrameFault}
use Rattle.pnm_frames.specs.declared.fault.FrameFault.TheVariants.{NotPpm, BadHeader, HeaderTooLong}
use Rattle.pnm_frames.specs.declared.fault.FrameFault.TheVariants.{WrongMaxval, WidthOutOfRange}
use Rattle.pnm_frames.specs.declared.fault.FrameFault.TheVariants.{HeightOutOfRange, SampleTooLarge}
use Rattle.pnm_frames.specs.declared.fault.FrameFault.TheVariants.{Truncated, TrailingBytes}
use Rattle.pnm_frames.specs.Fault.{◌>>=◌}
use Rattle.pnm_frames.specs.Grammar.{begins_gap, ends_number, value_from, header_limit, IsGap}
use Rattle.pnm_frames.specs.Grammar.{IsNumeral, header}
use Rattle.pnm_frames.specs.HasFault.{IsInRange, range_fault, HasNumbers, IsOpen, IsCommented}
use Rattle.pnm_frames.specs.HasFault.{IsBegun, Pair, pair_value, pair_bytes, HasSamples}
use Rattle.pnm_frames.specs.HasFault.{LacksSamples, HasAllSamples, IsNotP6, IsNotAllowed, IsUnfinished}
use Rattle.pnm_frames.specs.HasFault.{IsOutOfRange, HasFault}
use Rattle.pnm_frames.specs.Picture.{Picture}
use Rattle.pnm_frames.specs.Reading.{stays_open, gap_at, digits_at, number_at, ranged_at, magic_at}
use Rattle.pnm_frames.specs.Reading.{header_at, samples_at, frame_of}
use Rattle.pnm_frames.proofs.Again.{number-again, ranged-again, parts-again}
use Rattle.pnm_frames.proofs.FaultTold.{Ranges, ranges-width, ranges-height, ranges-maxval, judge}
use Rattle.pnm_frames.proofs.FaultTold.{Fit}
use Rattle.pnm_frames.proofs.FirstFault.{picture}
use Rattle.pnm_frames.proofs.Files.{header-fault, raster-fault}
use Rattle.pnm_frames.proofs.Gaps.{Runs, runs-append, items-run, text-runs, gap-runs, gap-some}
use Rattle.pnm_frames.proofs.Gaps.{digit-ends}
use Rattle.pnm_frames.proofs.Grammar.{IsDigit, Choice, Sizes, refused, behind_gap, step3, step5}
use Rattle.pnm_frames.proofs.Grammar.{step7}

-- ---- gaps and digits that are allowed

gap-over : (from to : Bool) (gap : List ℕ) (at place : ℕ) (rest : List ℕ) → Runs from gap to →
    place ≡ at + length gap → place ≤ header_limit →
    gap_at from at (gap ++ rest) ≡ gap_at to place rest
gap-over from to [] at place rest runs here room =
    let same : at ≡ place = omega (arith, here) in rw (runs, same) refl
gap-over from to (x ∷ gap) at place rest runs here room =
    let early : nat_lt at header_limit ≡ true =
    lt-ltb at header_limit (omega (arith, here, room)) in
    rw (early, runs.0) (gap-over (stays_open from x) to gap (suc at) place rest runs.1
    (omega (arith, here)) room)

digits-over : (last : Bool) (digits : List ℕ) (n at place : ℕ) (rest : List ℕ) →
    All IsDigit digits → place ≡ at + length digits → place ≤ header_limit →
    digits_at last n at (digits ++ rest) ≡ digits_at last (value_from n digits) place rest
digits-over last [] n at place rest all here room =
    ap (λ (k : ℕ). digits_at last n k rest) (let same : at ≡ place = omega (arith, here) in same)
digits-over last (x ∷ digits) n at place rest all here room =
    let early : nat_lt at header_limit ≡ true =
    lt-ltb at header_limit (omega (arith, here, room)) in
    let digit : is_ascii_digit x ≡ true = all 0 0 (omega arith) in
    rw (early, digit-ends last x digit, digit)
    (digits-over last digits (10 * n + (x - 48)) (suc at) place rest
    (λ k d lt. all (suc k) d (omega (arith, lt))) (omega (arith, here)) room)

-- a gap stops with the fault at the place, in a comment or not
abbrev GapStops : Bool → Bool → ℕ → List ℕ → FrameFault → Type 0
GapStops last commented place rest fault =
    (gap_at commented place rest >>= behind_gap last) ≡ Err fault

-- so do the digits so far, or the gap if there are none
abbrev StopsAt : Bool → List ℕ → ℕ → List ℕ → FrameFault → Type 0
StopsAt last [] place rest fault = GapStops last false place rest fault
StopsAt last (x ∷ digits) place rest fault = (n : ℕ) → digits_at last n place rest ≡ Err fault

gap-late : (last commented : Bool) (place : ℕ) (rest : List ℕ) → header_limit ≤ place →
    GapStops last commented place rest HeaderTooLong
gap-late last commented place [] late =
    let test : nat_lt place header_limit ≡ false = le-ltb place header_limit late in rw test refl
gap-late last commented place (b ∷ rest) late =
    let test : nat_lt place header_limit ≡ false = le-ltb place header_limit late in rw test refl

stops-late : (last : Bool) (digits : List ℕ) (place : ℕ) (rest : List ℕ) →
    header_limit ≤ place → StopsAt last digits place rest HeaderTooLong
stops-late last [] place rest late = gap-late last false place rest late
stops-late last (x ∷ digits) place [] late =
    let test : nat_lt place header_limit ≡ false = le-ltb place header_limit late in
    λ n. rw test refl
stops-late last (x ∷ digits) place (b ∷ rest) late =
    let test : nat_lt place header_limit ≡ false = le-ltb place header_limit late in
    λ n. rw test refl

gap-short : (last commented : Bool) (place : ℕ) → place < header_limit →
    GapStops last commented place [] (Truncated place)
gap-short last commented place early =
    let test : nat_lt place header_limit ≡ true = lt-ltb place header_limit early in rw test refl

stops-short : (last : Bool) (digits : List ℕ) (place : ℕ) → place < header_limit →
    StopsAt last digits place [] (Truncated place)
stops-short last [] place early = gap-short last false place early
stops-short last (x ∷ digits) place early =
    let test : nat_lt place header_limit ≡ true = lt-ltb place header_limit early in
    λ n. rw test refl

stops-bad : (k : ℕ) (digits : List ℕ) (place b : ℕ) (rest : List ℕ) → place < header_limit →
    ends_number (eqb k 2 && nat_lt 0 (length digits)) b ≡ false →
    is_ascii_digit b ≡ false → StopsAt (eqb k 2) digits place (b ∷ rest) (BadHeader place)
stops-bad k [] place b rest early other bad =
    let test : nat_lt place header_limit ≡ true = lt-ltb place header_limit early in
    let here : suc place - 1 ≡ place = omega arith in
    let gap : begins_gap b ≡ false = rw (and-false (eqb k 2)) at other in
    rw (test, gap, bad, here) refl
  where
    and-false : (x : Bool) → (x && false) ≡ false
    and-false true = refl
    and-false false = refl
stops-bad k (x ∷ digits) place b rest early other bad =
    let test : nat_lt place header_limit ≡ true = lt-ltb place header_limit early in
    let some : nat_lt 0 (length (x ∷ digits)) ≡ true = lt-ltb 0 (length (x ∷ digits)) (omega arith) in
    let end : ends_number (eqb k 2) b ≡ false = rw (some, and-true (eqb k 2)) at other in
    λ n. rw (test, end, bad) refl
  where
    and-true : (x : Bool) → (x && true) ≡ x
    and-true true = refl
    and-true false = refl

gap-stops : (last commented : Bool) (begun : ℕ) (gap : List ℕ) (at place : ℕ) (rest : List ℕ)
    (fault : FrameFault) → Runs (eqb begun 35) gap commented →
    place ≡ at + length gap →
    place ≤ header_limit → GapStops last commented place rest fault
    → number_at last begun at (gap ++ rest) ≡ Err fault
unfolding number_at
gap-stops last commented begun gap at place rest fault runs here room stops =
    rw (gap-over (eqb begun 35) commented gap at place rest runs here room) stops

number-stops : (last : Bool) (begun : ℕ) (gap digits : List ℕ) (at place : ℕ) (rest : List ℕ)
    (fault : FrameFault) → Runs (eqb begun 35) gap false → All IsDigit digits →
    place ≡ at + length gap + length digits →
    place ≤ header_limit → StopsAt last digits place rest fault
    → number_at last begun at (gap ++ (digits ++ rest)) ≡ Err fault
unfolding number_at
number-stops last begun gap [] at place rest fault runs ascii here room stops =
    gap-stops last false begun gap at place rest fault runs (omega (arith, here)) room stops
number-stops last begun gap (x ∷ digits) at place rest fault runs ascii here room stops =
    let early : nat_lt (at + length gap) header_limit ≡ true =
    lt-ltb (at + length gap) header_limit (omega (arith, here, room)) in
    let digit : is_ascii_digit x ≡ true = ascii 0 0 (omega arith) in
    let over = gap-over (eqb begun 35) false gap at (at + length gap) (x ∷ (digits ++ rest)) runs
    refl (omega (arith, here, room)) in
    let more = digits-over last digits (x - 48) (suc (at + length gap)) place rest
    (λ k d lt. ascii (suc k) d (omega (arith, lt))) (omega (arith, here)) room in
    rw (over, early, digit-ends false x digit, digit, more) (stops (value_from (x - 48) digits))

-- ---- how far a header is read

-- reading goes on at the place with the next number, in the gap that this byte begins
pub record ReadsAt (limits : SizeLimits) (k : ℕ) (bytes : List ℕ) (begun at : ℕ)
    (rest : List ℕ) : Type 0 where
  pub low : ℕ
  pub high : ℕ
  pub next : Choice → ℕ → Result Sizes FrameFault
  pub ranges : Ranges limits k low high
  pub reads : header_at limits bytes
      ≡ (ranged_at (eqb k 2) low high begun at rest >>= judge k next)

ranged-stops : (last : Bool) (low high begun at : ℕ) (rest : List ℕ) (k : ℕ)
    (next : Choice → ℕ → Result Sizes FrameFault) (fault : FrameFault) →
    number_at last begun at rest ≡ Err fault →
    (ranged_at last low high begun at rest >>= judge k next) ≡ Err fault
unfolding ranged_at
ranged-stops last low high begun at rest k next fault stops = rw stops refl

header-stops : (limits : SizeLimits) (k : ℕ) (bytes : List ℕ) (begun at : ℕ) (rest : List ℕ)
    (fault : FrameFault) → ReadsAt limits k bytes begun at rest →
    number_at (eqb k 2) begun at rest ≡ Err fault → header_at limits bytes ≡ Err fault
header-stops limits k bytes begun at rest fault here stops = here.reads
    ∙ ranged-stops (eqb k 2) here.low here.high begun at rest k here.next fault stops

both-false : (low high n : ℕ) → (low ≤ n → n ≤ high → ⊥) → (nat_le low n && nat_le n high) ≡ false
both-false low high n out = elim (leb_tells low n) [
  | inr under ↦ rw under.0 refl
  | inl above ↦ elim (leb_tells n high) [
    | inr over ↦ rw (above.0, over.0) refl
    | inl below ↦ absurd (out above.1 below.1)
  ]
]

ranged-out : (last : Bool) (low high begun at n end place : ℕ) (rest behind : List ℕ) (k : ℕ)
    (next : Choice → ℕ → Result Sizes FrameFault) →
    number_at last begun at rest ≡ Ok ((n, end), place, behind) →
    (low ≤ n → n ≤ high → ⊥) → (ranged_at last low high begun at rest >>= judge k next)
    ≡ Err (range_fault k)
unfolding ranged_at
ranged-out last low high begun at n end place rest behind k next number out =
    rw (number, both-false low high n out) refl

header-out : (limits : SizeLimits) (k : ℕ) (bytes : List ℕ) (begun at n end place : ℕ)
    (rest behind : List ℕ) → ReadsAt limits k bytes begun at rest →
    number_at (eqb k 2) begun at rest ≡ Ok ((n, end), place, behind) →
    (IsInRange limits k n → ⊥) → header_at limits bytes ≡ Err (range_fault k)
header-out limits k bytes begun at n end place rest behind here number out =
    here.reads
    ∙ ranged-out (eqb k 2) here.low here.high begun at n end place rest behind k here.next number
    (λ low high. out (here.ranges.0 n low high))

-- what a number in its range leads to
ranged-in : (last : Bool) (low high begun at n end place : ℕ) (rest behind : List ℕ) (k : ℕ)
    (next : Choice → ℕ → Result Sizes FrameFault) →
    number_at last begun at rest ≡ Ok ((n, end), place, behind) →
    low ≤ n → n ≤ high → (ranged_at last low high begun at rest >>= judge k next)
    ≡ next ((Some n, end), place, behind) n
ranged-in last low high begun at n end place rest behind k next number above below =
    rw (ranged-again last low high begun at n end place rest behind above below number) refl

number-reads : (last : Bool) (before gap digits prefix : List ℕ) (end n place : ℕ)
    (behind : List ℕ) → IsGap gap →
    IsNumeral digits n → ends_number last end ≡ true → prefix ≡ before ++ (gap ++ digits) →
    place ≡ length prefix + 1 → place ≤ header_limit
    → (first : ℕ) × (rest : List ℕ) × (begins_gap first ≡ true) ×
    (prefix ++ (end ∷ behind) ≡ before ++ (first ∷ rest)) ×
    (number_at last first (length before + 1) rest ≡ Ok ((n, end), place, behind))
number-reads last before [] digits prefix end n place behind is_gap numeral ends whole here room =
    absurd (omega (arith, gap-some [] is_gap))
number-reads last before (g ∷ gap) digits prefix end n place behind is_gap numeral ends whole here
    room
    =
    let runs = gap-runs (g ∷ gap) is_gap in
    let len : length prefix ≡ length before + (1 + length gap + length digits) =
    rw whole (simp length-append (omega arith)) in (
      g,
      gap ++ (digits ++ (end ∷ behind)),
      runs.0,
      rw whole (simp append_assoc),
      number-again last g gap digits (length before + 1) place n end behind runs.1 numeral ends
          (omega (arith, here, len)) room,
    )

reach-width : (limits : SizeLimits) (before : List ℕ) (begun : ℕ) (rest : List ℕ) →
    HasNumbers limits 0 before → begins_gap begun ≡ true
    → header_at limits (before ++ (begun ∷ rest))
    ≡ (ranged_at false 1 limits.width begun (length before + 1) rest >>= judge 0 (step3 limits))
unfolding header_at magic_at
reach-width limits before begun rest magic gap = rw (magic, gap) refl

reach-height : (limits : SizeLimits) (before : List ℕ) (begun : ℕ) (rest : List ℕ) →
    HasNumbers limits 1 before → begins_gap begun ≡ true → length before + 1 ≤ header_limit
    → (w : ℕ) × (header_at limits (before ++ (begun ∷ rest))
    ≡ (ranged_at false 1 limits.height begun (length before + 1) rest >>= judge 1 (step5 w)))
reach-height limits before begun rest has gap room =
    let n : ℕ = has.0 in
    let number = has.1 in
    let read = number-reads false number.before number.gap number.digits before begun n
    (length before + 1) rest number.is_gap number.number gap number.whole refl room in (
      n,
      ap (header_at limits) read.3
          ∙ reach-width limits number.before read.0 read.1 number.begins read.2
          ∙ ranged-in false 1 limits.width read.0 (length number.before + 1) n begun
          (length before + 1) read.1 rest 0 (step3 limits) read.4 has.2.0 has.2.1,
    )

reach-maxval : (limits : SizeLimits) (before : List ℕ) (begun : ℕ) (rest : List ℕ) →
    HasNumbers limits 2 before → begins_gap begun ≡ true → length before + 1 ≤ header_limit
    → (w : ℕ) × (h : ℕ) × (header_at limits (before ++ (begun ∷ rest))
    ≡ (ranged_at true 4095 4095 begun (length before + 1) rest >>= judge 2 (step7 w h)))
reach-maxval limits before begun rest has gap room =
    let n : ℕ = has.0 in
    let number = has.1 in
    let read = number-reads false number.before number.gap number.digits before begun n
    (length before + 1) rest number.is_gap number.number gap number.whole refl room in
    let earlier : length number.before + 1 ≤ header_limit =
    omega (
      arith,
      room,
      ap (λ (t : List ℕ). length t) number.whole,
      length-append number.before
          (number.gap ++ number.digits),
    ) in
    let width = reach-height limits number.before read.0 read.1 number.begins read.2 earlier in (
      width.0,
      n,
      ap (header_at limits) read.3 ∙ width.1
          ∙ ranged-in false 1 limits.height read.0 (length number.before + 1) n begun
          (length before + 1) read.1 rest 1 (step5 width.0) read.4 has.2.0 has.2.1,
    )

reads-at : (limits : SizeLimits) (k : ℕ) (before : List ℕ) (begun : ℕ) (rest : List ℕ) → k < 3 →
    HasNumbers limits k before → begins_gap begun ≡ true → length before + 1 ≤ header_limit
    → ReadsAt limits k (before ++ (begun ∷ rest)) begun (length before + 1) rest
reads-at limits zero before begun rest few has gap room = record {
  low = 1;
  high = limits.width;
  next = step3 limits;
  ranges = ranges-width limits;
  reads = reach-width limits before begun rest has gap;
}
reads-at limits (suc zero) before begun rest few has gap room =
    let reach = reach-height limits before begun rest has gap room in
    record {
      low = 1;
      high = limits.height;
      next = step5 reach.0;
      ranges =
          ranges-height limits;
      reads = reach.1;
    }
reads-at limits (suc (suc zero)) before begun rest few has gap room =
    let reach = reach-maxval limits before begun rest has gap room in
    record {
      low = 4095;
      high = 4095;
      next = step7 reach.0 reach.1;
      ranges =
          ranges-maxval limits;
      reads = reach.2;
    }
reads-at limits (suc (suc (suc k))) before begun rest few has gap room =
    absurd (omega (arith, few))

-- ---- the faults of a header

-- the number that comes next is refused, and so is the header
gap-parts : (limits : SizeLimits) (k : ℕ) (before : List ℕ) (g : ℕ) (left : List ℕ)
    (fault : FrameFault) → k < 3 → HasNumbers limits k before → begins_gap g ≡ true →
    length before + 1 ≤ header_limit → number_at (eqb k 2) g (length before + 1) left ≡ Err fault →
    header_at limits (before ++ (g ∷ left)) ≡ Err fault
gap-parts limits k before g left fault few has begins room stops =
    header-stops limits k (before ++ (g ∷ left)) g (length before + 1) left fault
    (reads-at limits k before g left few has begins room) stops

open-parts : (limits : SizeLimits) (k : ℕ) (before gap digits prefix rest : List ℕ)
    (fault : FrameFault) → k < 3 → HasNumbers limits k before → IsGap gap → All IsDigit digits →
    prefix ≡ before ++ (gap ++ digits)
    → length prefix ≤ header_limit → StopsAt (eqb k 2) digits (length prefix) rest fault →
    header_at limits (prefix ++ rest) ≡ Err fault
open-parts limits k before [] digits prefix rest fault few has is_gap ascii whole room stops =
    absurd (omega (arith, gap-some [] is_gap))
open-parts limits k before (g ∷ gap) digits prefix rest fault few has is_gap ascii whole room stops
    =
    let runs = gap-runs (g ∷ gap) is_gap in
    let len : length prefix ≡ length before + (1 + length gap + length digits) =
    rw whole (simp length-append (omega arith)) in
    let same : prefix ++ rest ≡ before ++ (g ∷ (gap ++ (digits ++ rest))) =
    rw whole (simp append_assoc) in
    ap (header_at limits) same
    ∙ gap-parts limits k before g (gap ++ (digits ++ rest)) fault few has runs.0
    (omega (arith, len, room))
    (number-stops (eqb k 2) g gap digits (length before + 1) (length prefix) rest fault runs.1 ascii
    (omega (arith, len)) room stops)

open-stops : (limits : SizeLimits) (prefix rest : List ℕ) (fault : FrameFault) →
    (so_far : IsOpen limits prefix) → length prefix ≤ header_limit →
    StopsAt (eqb so_far.numbers 2) so_far.digits (length prefix) rest fault →
    frame_of limits (prefix ++ rest) ≡ Err fault
open-stops limits prefix rest fault so_far room stops =
    header-fault limits (prefix ++ rest) fault
    (open-parts limits so_far.numbers so_far.before so_far.gap so_far.digits prefix rest fault
    so_far.few so_far.begins so_far.is_gap so_far.ascii so_far.whole room stops)

comment-parts : (limits : SizeLimits) (k : ℕ) (before gap prefix rest : List ℕ)
    (fault : FrameFault) → k < 3 → HasNumbers limits k before → 0 < length gap →
    Runs false gap true → prefix ≡ before ++ gap
    → length prefix ≤ header_limit → GapStops (eqb k 2) true (length prefix) rest fault →
    header_at limits (prefix ++ rest) ≡ Err fault
comment-parts limits k before [] prefix rest fault few has some runs whole room stops =
    absurd (omega (arith, some))
comment-parts limits k before (g ∷ gap) prefix rest fault few has some runs whole room stops =
    let len : length prefix ≡ length before + (1 + length gap) =
    rw whole (simp length-append (omega arith)) in
    let same : prefix ++ rest ≡ before ++ (g ∷ (gap ++ rest)) = rw whole (simp append_assoc) in
    ap (header_at limits) same
    ∙ gap-parts limits k before g (gap ++ rest) fault few has runs.0 (omega (arith, len, room))
    (gap-stops (eqb k 2) true g gap (length before + 1) (length prefix) rest fault runs.1
    (omega (arith, len)) room stops)

comment-stops : (limits : SizeLimits) (prefix rest : List ℕ) (fault : FrameFault) →
    (so_far : IsCommented limits prefix) → length prefix ≤ header_limit →
    GapStops (eqb so_far.numbers 2) true (length prefix) rest fault →
    frame_of limits (prefix ++ rest) ≡ Err fault
comment-stops limits prefix rest fault so_far room stops =
    let items : List ℕ = concat so_far.items in
    header-fault limits (prefix ++ rest) fault
    (comment-parts limits so_far.numbers so_far.before
    (items ++ (35 ∷ so_far.text)) prefix rest fault so_far.few so_far.begins
    (omega (arith, length-append items (35 ∷ so_far.text)))
    (runs-append false false true items (35 ∷ so_far.text) (items-run so_far.items so_far.each)
    (refl, text-runs so_far.text so_far.inside))
    so_far.whole room stops)

-- a header that hasn't ended, at the end of the file or as long as the longest
begun-late : (limits : SizeLimits) (prefix rest : List ℕ) → IsBegun limits prefix →
    length prefix ≡ header_limit → frame_of limits (prefix ++ rest) ≡ Err HeaderTooLong
begun-late limits prefix rest (inl so_far) len =
    open-stops limits prefix rest HeaderTooLong so_far (omega (arith, len))
    (stops-late (eqb so_far.numbers 2) so_far.digits (length prefix) rest (omega (arith, len)))
begun-late limits prefix rest (inr so_far) len =
    comment-stops limits prefix rest HeaderTooLong so_far (omega (arith, len))
    (gap-late (eqb so_far.numbers 2) true (length prefix) rest (omega (arith, len)))

begun-short : (limits : SizeLimits) (prefix : List ℕ) → IsBegun limits prefix →
    length prefix < header_limit
    → frame_of limits (prefix ++ []) ≡ Err (Truncated (length prefix))
begun-short limits prefix (inl so_far) early =
    open-stops limits prefix [] (Truncated (length prefix)) so_far (omega (arith, early))
    (stops-short (eqb so_far.numbers 2) so_far.digits (length prefix) early)
begun-short limits prefix (inr so_far) early =
    comment-stops limits prefix [] (Truncated (length prefix)) so_far (omega (arith, early))
    (gap-short (eqb so_far.numbers 2) true (length prefix) early)

range-shown : (limits : SizeLimits) (k : ℕ) (bytes : List ℕ) → k < 3 → IsOutOfRange limits k bytes →
    frame_of limits bytes ≡ Err (range_fault k)
range-shown limits k bytes few out =
    let prefix : List ℕ = out.0 in
    let end : ℕ = out.1 in
    let rest : List ℕ = out.2 in
    let n : ℕ = out.3 in
    let number = out.5 in
    let read = number-reads (eqb k 2) number.before number.gap number.digits prefix end n
    (length prefix + 1) rest number.is_gap number.number out.7 number.whole refl
    (omega (arith, out.8)) in
    let earlier : length number.before + 1 ≤ header_limit =
    omega (
      arith,
      out.8,
      ap (λ (t : List ℕ). length t) number.whole,
      length-append number.before
          (number.gap ++ number.digits),
    ) in
    let here = reads-at limits k number.before read.0 read.1 few number.begins read.2 earlier in
    header-fault limits bytes (range_fault k)
    (ap (header_at limits) (out.4 ∙ read.3)
    ∙ header-out limits k (number.before ++ (read.0 ∷ read.1)) read.0 (length number.before + 1) n
    end (length prefix + 1) read.1 rest here read.4 out.6)

magic-fault : (limits : SizeLimits) (bytes : List ℕ) (fault : FrameFault) →
    magic_at 0 bytes ≡ Err fault → header_at limits bytes ≡ Err fault
unfolding header_at
magic-fault limits bytes fault stops = rw stops refl

magic-shown : (limits : SizeLimits) (bytes : List ℕ) (fault : FrameFault) →
    magic_at 0 bytes ≡ Err fault → frame_of limits bytes ≡ Err fault
magic-shown limits bytes fault stops =
    header-fault limits bytes fault (magic-fault limits bytes fault stops)

not-magic : (bytes : List ℕ) → IsNotP6 bytes → magic_at 0 bytes ≡ Err NotPpm
unfolding magic_at
not-magic [] other = absurd other
not-magic (p ∷ []) other = rw (ne_eqb p 80 other) refl
not-magic (p ∷ six ∷ bytes) other =
    elim (eqb_tells p 80) [
      | inr not_p ↦ rw not_p.0 refl
      | inl is ↦ rw (is.0, ne_eqb six 54 (other is.1)) refl
    ]

magic-ends : (bytes : List ℕ) → (bytes ≡ []) ⊎ ((bytes ≡ 80 ∷ []) ⊎ (bytes ≡ 80 ∷ 54 ∷ [])) →
    magic_at 0 bytes ≡ Err (Truncated (length bytes))
unfolding magic_at
magic-ends bytes (inl none) = rw none refl
magic-ends bytes (inr (inl one)) = rw one refl
magic-ends bytes (inr (inr two)) = rw two refl

magic-bad : (prefix : List ℕ) (b : ℕ) (rest : List ℕ) → prefix ≡ 80 ∷ 54 ∷ [] →
    begins_gap b ≡ false →
    magic_at 0 (prefix ++ (b ∷ rest)) ≡ Err (BadHeader (length prefix))
unfolding magic_at
magic-bad prefix b rest magic other = rw (magic, other) refl

-- ---- the faults of a raster

length-pairs : (samples : List Pair) → length (flat_map pair_bytes samples) ≡ 2 * length samples
length-pairs [] = omega arith
length-pairs (pair ∷ samples) = omega (arith, length-pairs samples)

samples-over : (samples : List Pair) (n at place : ℕ) (rest : List ℕ) (fault : FrameFault) →
    All Fit samples → place ≡ at + 2 * length samples → samples_at n place rest ≡ Err fault
    → samples_at (length samples + n) at (flat_map pair_bytes samples ++ rest) ≡ Err fault
samples-over [] n at place rest fault all here stops =
    let same : place ≡ at = omega (arith, here) in
    rw (zero-add n) (rw same at stops)
samples-over (pair ∷ samples) n at place rest fault all here stops =
    let count : suc (length samples) + n ≡ suc (length samples + n) = omega arith in
    let test : nat_le (256 * pair.high + pair.low) 4095 ≡ true =
    le-leb (256 * pair.high + pair.low) 4095 (all 0 pair (omega arith)) in
    let on = samples-over samples n (suc (suc at)) place rest fault
    (λ k d lt. all (suc k) d (omega (arith, lt))) (omega (arith, here)) stops in
    rw (count, test, on) refl

samples-all : (samples : List Pair) (at : ℕ) (rest : List ℕ) → All Fit samples →
    (values : List ℕ) × (samples_at (length samples) at (flat_map pair_bytes samples ++ rest)
    ≡ Ok (values, rest))
samples-all [] at rest all = ([], refl)
samples-all (pair ∷ samples) at rest all =
    let test : nat_le (256 * pair.high + pair.low) 4095 ≡ true =
    le-leb (256 * pair.high + pair.low) 4095 (all 0 pair (omega arith)) in
    let on = samples-all samples (suc (suc at)) rest
    (λ k d lt. all (suc k) d (omega (arith, lt))) in
    ((256 * pair.high + pair.low) ∷ on.0, rw (test, on.1) refl)

header-read : (limits : SizeLimits) (prefix rest : List ℕ) (has : HasSamples limits prefix)
    → (at : ℕ) × (header_at limits (prefix ++ rest)
    ≡ Ok ((has.width, has.height), at, flat_map pair_bytes has.samples ++ rest)) ×
    (length prefix ≡ at + 2 * length has.samples)
header-read limits prefix rest has =
    let parts = has.parts in
    let left : List ℕ = flat_map pair_bytes has.samples ++ rest in
    let head = parts-again limits has.width has.height parts.end parts.gap1 parts.width parts.gap2
    parts.height parts.gap3 parts.maxval left
    has.within.some_width has.within.width_in_limits has.within.some_height
    has.within.height_in_limits has.is_header in
    let same : prefix ++ rest ≡ header parts ++ left = ap (λ (t : List ℕ). t ++ rest) has.whole
    ∙ append_assoc (header parts) (flat_map pair_bytes has.samples) rest in
    let len : length prefix ≡ length (header parts) + length (flat_map pair_bytes has.samples) =
    ap (λ (t : List ℕ). length t) has.whole
    ∙ length-append (header parts) (flat_map pair_bytes has.samples) in (
      head.0,
      ap (header_at limits) same
          ∙ head.1,
      omega (arith, len, head.2, length-pairs has.samples),
    )

lacks-stops : (limits : SizeLimits) (prefix rest : List ℕ) (fault : FrameFault) →
    LacksSamples limits prefix → ((n : ℕ) → samples_at (suc n) (length prefix) rest ≡ Err fault) →
    frame_of limits (prefix ++ rest) ≡ Err fault
lacks-stops limits prefix rest fault lacks stops =
    let has = lacks.0 in
    let head = header-read limits prefix rest has in
    let total : ℕ = 3 * (has.width * has.height) in
    let left : ℕ = total - (length has.samples + 1) in
    let count : total ≡ length has.samples + suc left = omega (arith, lacks.1) in
    raster-fault limits (prefix ++ rest) has.width has.height head.0
    (flat_map pair_bytes has.samples ++ rest) fault head.1
    (ap (λ (n : ℕ). samples_at n head.0 (flat_map pair_bytes has.samples ++ rest)) count
    ∙ samples-over has.samples (suc left) head.0 (length prefix) rest fault has.fit head.2
    (stops left))

trailing-shown : (limits : SizeLimits) (prefix : List ℕ) (b : ℕ) (rest : List ℕ) →
    HasAllSamples limits prefix → frame_of limits (prefix ++ (b ∷ rest)) ≡ Err TrailingBytes
unfolding frame_of
trailing-shown limits prefix b rest all =
    let has = all.0 in
    let head = header-read limits prefix (b ∷ rest) has in
    let samples = samples-all has.samples head.0 (b ∷ rest) has.fit in
    rw (head.1, ← all.1, samples.1) refl

pub all-shown : (limits : SizeLimits) (bytes : List ℕ) → HasAllSamples limits bytes →
    (p : Picture) × (frame_of limits bytes ≡ Ok p)
unfolding frame_of
all-shown limits bytes all =
    let has = all.0 in
    let head = header-read limits bytes [] has in
    let samples = samples-all has.samples head.0 [] has.fit in (
      picture (has.width, has.height) samples.0,
      ap (frame_of limits) (sym (append-nil bytes))
          ∙ rw (head.1, ← all.1, samples.1) refl,
    )

half-stops : (n at : ℕ) (half : List ℕ) → length half < 2 →
    samples_at (suc n) at half ≡ Err (Truncated (at + length half))
half-stops n at [] few = ap (λ (k : ℕ). refused (Truncated k))
    (let same : at ≡ at + 0 = omega arith in same)
half-stops n at (b ∷ []) few =
    ap (λ (k : ℕ). refused (Truncated k)) (let same : suc at ≡ at + 1 = omega arith in same)
half-stops n at (a ∷ b ∷ half) few = absurd (omega (arith, few))

large-stops : (n at : ℕ) (pair : Pair) (rest : List ℕ) → 4095 < pair_value pair →
    samples_at (suc n) at (pair_bytes pair ++ rest) ≡ Err (SampleTooLarge at)
large-stops n at pair rest large = rw (lt-leb (256 * pair.high + pair.low) 4095 large) refl

-- ---- the file

bad-shown : (limits : SizeLimits) (prefix : List ℕ) (b : ℕ) (rest : List ℕ) →
    length prefix < header_limit → IsNotAllowed limits prefix b
    → frame_of limits (prefix ++ (b ∷ rest)) ≡ Err (BadHeader (length prefix))
bad-shown limits prefix b rest early (inl magic) =
    magic-shown limits (prefix ++ (b ∷ rest)) (BadHeader (length prefix))
    (magic-bad prefix b rest magic.0 magic.1)
bad-shown limits prefix b rest early (inr other) =
    let so_far = other.0 in
    open-stops limits prefix (b ∷ rest) (BadHeader (length prefix)) so_far (omega (arith, early))
    (stops-bad so_far.numbers so_far.digits (length prefix) b rest early other.1 other.2)

short-shown : (limits : SizeLimits) (bytes : List ℕ) → IsUnfinished limits bytes →
    frame_of limits bytes ≡ Err (Truncated (length bytes))
short-shown limits bytes (inl none) =
    magic-shown limits bytes (Truncated (length bytes)) (magic-ends bytes (inl none))
short-shown limits bytes (inr (inl one)) =
    magic-shown limits bytes (Truncated (length bytes)) (magic-ends bytes (inr (inl one)))
short-shown limits bytes (inr (inr (inl two))) =
    magic-shown limits bytes (Truncated (length bytes)) (magic-ends bytes (inr (inr two)))
short-shown limits bytes (inr (inr (inr (inl so_far)))) =
    ap (frame_of limits) (sym (append-nil bytes))
    ∙ begun-short limits bytes so_far.0 so_far.1
short-shown limits bytes (inr (inr (inr (inr half)))) =
    let prefix : List ℕ = half.0 in
    let last : List ℕ = half.1 in
    let len : length prefix + length last ≡ length bytes =
    sym (ap (λ (t : List ℕ). length t) half.2 ∙ length-append prefix last) in
    ap (frame_of limits) half.2 ∙ lacks-stops limits prefix last (Truncated (length bytes)) half.3
    (λ n. half-stops n (length prefix) last half.4 ∙ ap (λ (k : ℕ). refused (Truncated k)) len)

pub fault-shown : (limits : SizeLimits) (bytes : List ℕ) (fault : FrameFault) →
    HasFault limits bytes fault → frame_of limits bytes ≡ Err fault
fault-shown limits bytes NotPpm has = magic-shown limits bytes NotPpm (not-magic bytes has)
fault-shown limits bytes (BadHeader place) has =
    ap (frame_of limits) has.3 ∙ bad-shown limits has.0 has.1 has.2
    (omega (arith, has.4, has.5)) has.6 ∙ ap (λ (k : ℕ). refused (BadHeader k)) has.4
fault-shown limits bytes HeaderTooLong has =
    ap (frame_of limits) has.2 ∙ begun-late limits has.0 has.1 has.4 has.3
fault-shown limits bytes WidthOutOfRange has = range-shown limits 0 bytes (omega arith) has
fault-shown limits bytes HeightOutOfRange has = range-shown limits 1 bytes (omega arith) has
fault-shown limits bytes WrongMaxval has = range-shown limits 2 bytes (omega arith) has
fault-shown limits bytes (SampleTooLarge place) has =
    ap (frame_of limits) has.3 ∙ lacks-stops limits has.0 (pair_bytes has.1 ++ has.2)
    (SampleTooLarge place) has.5
    (λ n. large-stops n (length has.0) has.1 has.2 has.6
    ∙ ap (λ (k : ℕ). refused (SampleTooLarge k)) has.4)
fault-shown limits bytes (Truncated seen) has = short-shown limits bytes has.1
    ∙ ap (λ (k : ℕ). refused (Truncated k)) has.0
fault-shown limits bytes TrailingBytes has = ap (frame_of limits) has.3
    ∙ trailing-shown limits has.0 has.1 has.2 has.4
