-- The fault that reading gives is what is wrong with a file.
use Rattle.std.proofs.Common.{◌≡◌, ℕ, zero, suc, ◌+◌, ◌*◌, ◌-◌, ◌<◌, ◌≤◌, Bool, true, false, cond}
use Rattle.std.proofs.Common.{◌&&◌, ◌⊎◌, eqb, List, [], ◌∷◌, ◌++◌, length, Some, None, Result, Ok, Err}
use Rattle.std.proofs.Common.{refl, sym, ap, subst, ◌∙◌, inl, inr, append_assoc, arith, zero-add}
use Rattle.std.proofs.Common.{length-append}
use Rattle.std.specs.Prelude.{All, nat_lt, nat_le}
use Rattle.std.specs.Char.{is_ascii_digit}
use Rattle.std.specs.List.{concat, flat_map}
use Rattle.std.proofs.lemmas.Bool.{lt-ltb, ltb-true, ltb-false, leb-true, leb-false}
use Rattle.std.proofs.lemmas.Bool.Decides.{eqb_tells}
use Rattle.std.proofs.lemmas.Grind.{flat_map-append}
use Rattle.std.proofs.lemmas.List.{append-nil}
use Rattle.std.proofs.lemmas.List.Elements.{All-cons, All-nil, All-append}
use Rattle.pnm_frames.specs.declared.limits.SizeLimits.{SizeLimits}
use Rattle.pnm_frames.specs.declared.fault.FrameFault.{FrameFault}
use Rattle.pnm_frames.specs.declared.fault.FrameFault.TheVariants.{NotPpm, BadHeader, HeaderTooLong}
use Rattle.pnm_frames.specs.declared.fault.FrameFault.TheVariants.{SampleTooLarge, Truncated}
use Rattle.pnm_frames.specs.declared.fault.FrameFault.TheVariants.{TrailingBytes}
use Rattle.pnm_frames.specs.Fault.{◌>>=◌}
use Rattle.pnm_frames.specs.Grammar.{begins_gap, ends_number, header_limit, IsGap, header}
use Rattle.pnm_frames.specs.HasFault.{IsInRange, range_fault, HasNumbers, IsOpen, IsCommented}
use Rattle.pnm_frames.specs.HasFault.{IsBegun, Pair, pair_value, pair_bytes, HasSamples}
use Rattle.pnm_frames.specs.HasFault.{HasAllSamples, in_maxval, IsOutOfRange, HasFault}
use Rattle.pnm_frames.specs.Picture.{Picture, IsSample, IsWithin}
use Rattle.pnm_frames.specs.Reading.{Read, goes_on, stays_open, gap_at, digits_at, number_at}
use Rattle.pnm_frames.specs.Reading.{ranged_at, or_fault, magic_at, header_at, samples_at, ended}
use Rattle.pnm_frames.specs.Reading.{frame_of}
use Rattle.pnm_frames.proofs.FirstFault.{Samples, with_sample, picture, behind_samples}
use Rattle.pnm_frames.proofs.FirstFault.{behind_header}
use Rattle.pnm_frames.proofs.Gaps.{Runs, runs-more, parsed, gap-of}
use Rattle.pnm_frames.proofs.Grammar.{IsDigit, Point, Number, Choice, Sizes, NumberRead, HeaderRead}
use Rattle.pnm_frames.proofs.Grammar.{chosen, value-is, no-value, refused, bind_ok, behind_gap}
use Rattle.pnm_frames.proofs.Grammar.{choice_of, judged, gap-found, number-found, magic-found}
use Rattle.pnm_frames.proofs.Grammar.{header-found, step1, step3, step5, step7}

fault-is : {B : Type 0} (d e : FrameFault) → refused {A = B} d ≡ refused e → d ≡ e
fault-is d e h = cc

bind_err : {A B : Type 0} (r : Result A FrameFault) (f : A → Result B FrameFault) (e : FrameFault) →
    (r >>= f) ≡ Err e → (r ≡ Err e) ⊎ ((x : A) × (r ≡ Ok x) × (f x ≡ Err e))
bind_err (Ok x) f e h = inr (x, refl, h)
bind_err (Err d) f e h = inl (ap (λ (x : FrameFault). refused x) (fault-is d e h))

no-fault : {A : Type 0} {f : FrameFault} {x : A} →
    (let r : Result A FrameFault = Ok x in r) ≡ refused f → ⊥
no-fault e = cc

-- ---- a header that hasn't ended

open-late : (limits : SizeLimits) (prefix rest : List ℕ) (at : ℕ) → IsBegun limits prefix →
    length prefix ≡ at → at ≤ header_limit → header_limit ≤ at →
    HasFault limits (prefix ++ rest) HeaderTooLong
open-late limits prefix rest at so_far len room late =
    (prefix, rest, refl, omega (arith, len, room, late), so_far)

open-short : (limits : SizeLimits) (prefix : List ℕ) (at : ℕ) → IsBegun limits prefix →
    length prefix ≡ at → at < header_limit → HasFault limits (prefix ++ []) (Truncated at)
open-short limits prefix at so_far len early =
    rw (append-nil prefix) (len, inr (inr (inr (inl (so_far, omega (arith, len, early))))))

open-bad : (limits : SizeLimits) (prefix : List ℕ) (at b : ℕ) (rest : List ℕ) →
    (so_far : IsOpen limits prefix) →
    length prefix ≡ at → at < header_limit → ends_number (in_maxval so_far) b ≡ false →
    is_ascii_digit b ≡ false
    → HasFault limits (prefix ++ (b ∷ rest)) (BadHeader at)
open-bad limits prefix at b rest so_far len early other bad =
    (prefix, b, rest, refl, len, early, inr (so_far, other, bad))

told : (limits : SizeLimits) (bytes : List ℕ) (d e : FrameFault) → d ≡ e → HasFault limits bytes d →
    HasFault limits bytes e
told limits bytes d e same has = subst (λ (x : FrameFault). HasFault limits bytes x) same has

-- a file that ends in a header, or a header that is as long as the longest
open-ends : {A : Type 0} (limits : SizeLimits) (prefix : List ℕ) (at : ℕ) (e : FrameFault) →
    IsBegun limits prefix → length prefix ≡ at → at ≤ header_limit
    → cond (nat_lt at header_limit) (refused {A = A} (Truncated at)) (refused HeaderTooLong)
    ≡ refused e → HasFault limits (prefix ++ []) e
open-ends limits prefix at e so_far len room h =
    elim (chosen (nat_lt at header_limit) (refused (Truncated at)) (refused HeaderTooLong)
    (refused e) h) [
      | inl early ↦ told limits (prefix ++ []) (Truncated at) e (fault-is (Truncated at) e early.1)
          (open-short limits prefix at so_far len (ltb-true at header_limit early.0))
      | inr late ↦ told limits (prefix ++ []) HeaderTooLong e (fault-is HeaderTooLong e late.1)
          (open-late limits prefix [] at so_far len room (ltb-false at header_limit late.0))
    ]

-- ---- gaps

abbrev open-gap : (limits : SizeLimits) (k : ℕ) (before : List ℕ) (g : ℕ) (gap : List ℕ) → k < 3 →
    HasNumbers limits k before → Runs false (g ∷ gap) false → IsOpen limits (before ++ (g ∷ gap))
open-gap limits k before g gap few begins runs = record {
  numbers = k;
  few = few;
  before = before;
  gap = g ∷ gap;
  digits = [];
  begins = begins;
  is_gap = gap-of g gap runs;
  ascii = All-nil IsDigit;
  whole = ap (λ (t : List ℕ). before ++ t) (sym (append-nil (g ∷ gap)));
}

open-comment : (limits : SizeLimits) (k : ℕ) (before gap : List ℕ) → k < 3 →
    HasNumbers limits k before → Runs false gap true → IsCommented limits (before ++ gap)
open-comment limits k before gap few begins runs =
    let parts = parsed false true gap runs in
    record {
      numbers = k;
      few = few;
      before = before;
      items = parts.items;
      text = parts.unended.0;
      begins = begins;
      each = parts.each;
      inside = parts.unended.2;
      whole = ap (λ (t : List ℕ). before ++ t)
          (parts.whole ∙ ap (λ (t : List ℕ). concat parts.items ++ t) parts.unended.1);
    }

begun-gap : (limits : SizeLimits) (k : ℕ) (before : List ℕ) (g : ℕ) (gap : List ℕ) (s : Bool) →
    k < 3 → HasNumbers limits k before → Runs false (g ∷ gap) s →
    IsBegun limits (before ++ (g ∷ gap))
begun-gap limits k before g gap false few begins runs =
    inl (open-gap limits k before g gap few begins runs)
begun-gap limits k before g gap true few begins runs =
    inr (open-comment limits k before (g ∷ gap) few begins runs)

gap-told : (limits : SizeLimits) (k at : ℕ) (before : List ℕ) (g : ℕ) (gap : List ℕ) (s : Bool)
    (bytes : List ℕ) (e : FrameFault) → k < 3 →
    HasNumbers limits k before → Runs false (g ∷ gap) s → length (before ++ (g ∷ gap)) ≡ at →
    at ≤ header_limit
    → gap_at s at bytes ≡ Err e → HasFault limits ((before ++ (g ∷ gap)) ++ bytes) e
gap-told limits k at before g gap s [] e few begins runs len room h =
    open-ends limits (before ++ (g ∷ gap)) at e
    (begun-gap limits k before g gap s few begins runs) len room h
gap-told limits k at before g gap s (b ∷ bytes) e few begins runs len room h =
    let on : Read ℕ = gap_at (stays_open s b) (suc at) bytes in
    elim (chosen (nat_lt at header_limit)
    (cond (goes_on s b) on (Ok (b, suc at, bytes))) (Err HeaderTooLong)
    (Err e) h) [
      | inr late ↦
          told limits ((before ++ (g ∷ gap)) ++ (b ∷ bytes)) HeaderTooLong e
          (fault-is HeaderTooLong e late.1)
          (open-late limits (before ++ (g ∷ gap)) (b ∷ bytes) at
          (begun-gap limits k before g gap s few begins runs) len room
          (ltb-false at header_limit late.0))
      | inl early ↦
          let lt : at < header_limit = ltb-true at header_limit early.0 in
          elim (chosen (goes_on s b) on (Ok (b, suc at, bytes))
          (Err e) early.1) [
            | inr other ↦ absurd (no-fault other.1)
            | inl more ↦
                let longer : (before ++ (g ∷ (gap ++ (b ∷ [])))) ++ bytes
                ≡ (before ++ (g ∷ gap)) ++ (b ∷ bytes) = simp append_assoc in
                subst (λ (t : List ℕ). HasFault limits t e) longer
                (gap-told limits k (suc at) before g (gap ++ (b ∷ [])) (stays_open s b) bytes e few
                begins (runs-more false s (g ∷ gap) b runs more.0)
                (omega (
                  arith,
                  len,
                  length-append before (g ∷ gap),
                  length-append before
                      (g ∷ (gap ++ (b ∷ []))),
                  length-append gap (b ∷ []),
                )) (omega (arith, lt)) more.1)
          ]
    ]

-- ---- digits

abbrev open-digits : (limits : SizeLimits) (k : ℕ) (before gap digits : List ℕ) → k < 3 →
    HasNumbers limits k before → IsGap gap → All IsDigit digits →
    IsOpen limits (before ++ (gap ++ digits))
open-digits limits k before gap digits few begins is_gap ascii = record {
  numbers = k;
  few = few;
  before = before;
  gap = gap;
  digits = digits;
  begins = begins;
  is_gap = is_gap;
  ascii = ascii;
  whole = refl;
}

-- in digits of a number the header ends in the maxval exactly where that is the number
digits-last : (limits : SizeLimits) (k b : ℕ) (before gap digits : List ℕ) (few : k < 3)
    (begins : HasNumbers limits k before) (is_gap : IsGap gap) (ascii : All IsDigit digits) →
    0 < length digits → ends_number (eqb k 2) b ≡ false
    → ends_number (in_maxval (open-digits limits k before gap digits few begins is_gap ascii)) b
    ≡ false
digits-last limits k b before gap digits few begins is_gap ascii some other =
    rw (lt-ltb 0 (length digits) some, and-true (eqb k 2)) other
  where
    and-true : (x : Bool) → (x && true) ≡ x
    and-true true = refl
    and-true false = refl

digits-told : (limits : SizeLimits) (k n at : ℕ) (before gap digits bytes : List ℕ)
    (e : FrameFault) → k < 3 → HasNumbers limits k before → IsGap gap → All IsDigit digits
    → 0 < length digits
    → length (before ++ (gap ++ digits)) ≡ at → at ≤ header_limit →
    digits_at (eqb k 2) n at bytes ≡ Err e →
    HasFault limits ((before ++ (gap ++ digits)) ++ bytes) e
digits-told limits k n at before gap digits [] e few begins is_gap ascii some len room h =
    open-ends limits (before ++ (gap ++ digits)) at e
    (inl (open-digits limits k before gap digits few begins is_gap ascii)) len room h
digits-told limits k n at before gap digits (b ∷ bytes) e few begins is_gap ascii some len room h =
    let prefix : List ℕ = before ++ (gap ++ digits) in
    let on : Read (ℕ × ℕ) = digits_at (eqb k 2) (10 * n + (b - 48)) (suc at) bytes in
    let inner : Read (ℕ × ℕ) = cond (is_ascii_digit b) on (Err (BadHeader at)) in
    let so_far = open-digits limits k before gap digits few begins is_gap ascii in
    elim (chosen (nat_lt at header_limit)
    (cond (ends_number (eqb k 2) b) (Ok ((n, b), suc at, bytes)) inner)
    (Err HeaderTooLong) (Err e) h) [
      | inr late ↦
          told limits (prefix ++ (b ∷ bytes)) HeaderTooLong e (fault-is HeaderTooLong e late.1)
          (open-late limits prefix (b ∷ bytes) at (inl so_far) len room
          (ltb-false at header_limit late.0))
      | inl early ↦
          let lt : at < header_limit = ltb-true at header_limit early.0 in
          elim (chosen (ends_number (eqb k 2) b) (Ok ((n, b), suc at, bytes)) inner
          (Err e) early.1) [
            | inl ends ↦ absurd (no-fault ends.1)
            | inr other ↦ elim (chosen (is_ascii_digit b) on (Err (BadHeader at)) (Err e) other.1) [
              | inr bad ↦ told limits (prefix ++ (b ∷ bytes)) (BadHeader at) e
                  (fault-is (BadHeader at) e bad.1)
                  (open-bad limits prefix at b bytes
                  (open-digits limits k before gap digits few begins is_gap ascii) len lt
                  (digits-last limits k b before gap digits few begins is_gap ascii some other.0)
                  bad.0)
              | inl more ↦
                  let longer : (before ++ (gap ++ (digits ++ (b ∷ [])))) ++ bytes
                  ≡ (before ++ (gap ++ digits)) ++ (b ∷ bytes) = simp append_assoc in
                  subst (λ (t : List ℕ). HasFault limits t e) longer
                  (digits-told limits k (10 * n + (b - 48)) (suc at) before gap
                  (digits ++ (b ∷ [])) bytes e few begins is_gap
                  (All-append IsDigit digits (b ∷ []) ascii
                  (All-cons IsDigit b [] more.0 (All-nil IsDigit)))
                  (omega (arith, some, length-append digits (b ∷ [])))
                  (omega (
                    arith,
                    len,
                    length-append before
                        (gap ++ digits),
                    length-append gap digits,
                    length-append before
                        (gap ++ (digits ++ (b ∷ []))),
                    length-append gap
                        (digits ++ (b ∷ [])),
                    length-append digits (b ∷ []),
                  ))
                  (omega (arith, lt)) more.1)
            ]
          ]
    ]

-- ---- numbers

-- what was read of a header: so many numbers, and the first byte of a gap
pub record Reached (limits : SizeLimits) (k : ℕ) (bytes : List ℕ) (begun at : ℕ)
    (rest : List ℕ) : Type 0 where
  pub before : List ℕ
  pub begins : HasNumbers limits k before
  pub gap : begins_gap begun ≡ true
  pub whole : bytes ≡ before ++ (begun ∷ rest)
  pub place : at ≡ length before + 1
  pub room : at ≤ header_limit

number-told : (limits : SizeLimits) (k begun at : ℕ) (bytes rest : List ℕ) (e : FrameFault) →
    k < 3 →
    Reached limits k bytes begun at rest → number_at (eqb k 2) begun at rest ≡ Err e →
    HasFault limits bytes e
unfolding number_at
number-told limits k begun at bytes rest e few here h =
    elim (bind_err (gap_at (eqb begun 35) at rest) (behind_gap (eqb k 2)) e h) [
      | inl stops ↦
          let longer : (here.before ++ (begun ∷ [])) ++ rest ≡ bytes =
          append_assoc here.before (begun ∷ []) rest ∙ sym here.whole in
          subst (λ (t : List ℕ). HasFault limits t e) longer
          (gap-told limits k at here.before begun [] (eqb begun 35) rest e few here.begins
          (here.gap, refl)
          (omega (arith, here.place, length-append here.before (begun ∷ []))) here.room stops)
      | inr goes ↦
          let first = goes.0 in
          let found = gap-found (eqb begun 35) at rest first goes.1 in
          let runs : Runs false (begun ∷ found.gap) false = (here.gap, found.runs) in
          let len = length-append here.before (begun ∷ found.gap) in
          elim (chosen (is_ascii_digit first.0)
          (digits_at (eqb k 2) (first.0 - 48) first.1 first.2)
          (Err (BadHeader (first.1 - 1))) (Err e) goes.2) [
            | inl digit ↦
                let longer : (here.before ++ ((begun ∷ found.gap) ++ (first.0 ∷ []))) ++ first.2
                ≡ bytes =
                simp append_assoc (sym (here.whole
                ∙ ap (λ (t : List ℕ). here.before ++ (begun ∷ t)) found.parts)) in
                subst (λ (t : List ℕ). HasFault limits t e) longer
                (digits-told limits k (first.0 - 48) first.1 here.before (begun ∷ found.gap)
                (first.0 ∷ []) first.2 e few here.begins (gap-of begun found.gap runs)
                (All-cons IsDigit first.0 [] digit.0 (All-nil IsDigit)) (omega arith)
                (omega (
                  arith,
                  here.place,
                  found.place,
                  length-append here.before
                      ((begun ∷ found.gap) ++ (first.0 ∷ [])),
                  length-append (begun ∷ found.gap)
                      (first.0 ∷ []),
                )) found.room digit.1)
            | inr bad ↦
                let longer : (here.before ++ (begun ∷ found.gap)) ++ (first.0 ∷ first.2)
                ≡ bytes =
                append_assoc here.before (begun ∷ found.gap) (first.0 ∷ first.2)
                ∙ sym (here.whole ∙ ap (λ (t : List ℕ). here.before
                ++ (begun ∷ t)) found.parts) in
                subst (λ (t : List ℕ). HasFault limits t e) longer
                (told limits _ (BadHeader (first.1 - 1)) e
                (fault-is (BadHeader (first.1 - 1)) e bad.1)
                (open-bad limits (here.before ++ (begun ∷ found.gap))
                (first.1 - 1) first.0 first.2 (open-gap limits k here.before begun found.gap
                few here.begins runs)
                (omega (arith, here.place, found.place, len))
                (omega (arith, found.room, found.place))
                (gap-last limits k first.0 here.before begun found.gap few here.begins runs
                found.other) bad.0))
          ]
    ]
  where
    and-false : (x : Bool) → (x && false) ≡ false
    and-false true = refl
    and-false false = refl

    gap-last : (limits : SizeLimits) (k b : ℕ) (before : List ℕ) (g : ℕ) (gap : List ℕ)
        (few : k < 3) (begins : HasNumbers limits k before) (runs : Runs false (g ∷ gap) false) →
        begins_gap b ≡ false →
        ends_number (in_maxval (open-gap limits k before g gap few begins runs)) b ≡ false
    gap-last limits k b before g gap few begins runs other = rw (and-false (eqb k 2)) other

out-of-range : (limits : SizeLimits) (k : ℕ) (bytes : List ℕ) → k < 3 →
    IsOutOfRange limits k bytes → HasFault limits bytes (range_fault k)
out-of-range limits zero bytes few out = out
out-of-range limits (suc zero) bytes few out = out
out-of-range limits (suc (suc zero)) bytes few out = out
out-of-range limits (suc (suc (suc k))) bytes few out = absurd (omega (arith, few))

-- a test and a range that agree
abbrev pub Ranges : SizeLimits → ℕ → ℕ → ℕ → Type 0
Ranges limits k low high = ((n : ℕ) → low ≤ n → n ≤ high → IsInRange limits k n) ×
    ((n : ℕ) → IsInRange limits k n → (low ≤ n) × (n ≤ high))

pub ranges-width : (limits : SizeLimits) → Ranges limits 0 1 limits.width
ranges-width limits = (λ n low high. (low, high), λ n both. both)

pub ranges-height : (limits : SizeLimits) → Ranges limits 1 1 limits.height
ranges-height limits = (λ n low high. (low, high), λ n both. both)

pub ranges-maxval : (limits : SizeLimits) → Ranges limits 2 4095 4095
ranges-maxval limits = (
  λ n low high. omega (arith, low, high),
  λ n same.
      (omega (arith, same), omega (arith, same)),
)

abbrev pub judge : {A : Type 0} → ℕ → (Choice → ℕ → Result A FrameFault) → Choice →
    Result A FrameFault
judge k next read = or_fault (range_fault k) read.0.0 >>= next read

whole-number : (before : List ℕ) (end : ℕ) (gap digits : List ℕ) (behind : ℕ)
    (left bytes rest : List ℕ) → bytes ≡ before ++ (end ∷ rest) →
    rest ≡ gap ++ (digits ++ (behind ∷ left))
    → bytes ≡ (before ++ ((end ∷ gap) ++ digits)) ++ (behind ∷ left)
whole-number before end gap digits behind left bytes rest whole parts =
    rw (whole, parts) (simp append_assoc)

-- a number that was read: in its range the header goes on, and else that is its fault
pub record NumberBehind (limits : SizeLimits) (k : ℕ) (bytes : List ℕ)
    (next : Choice → ℕ → Result Sizes FrameFault) (e : FrameFault) : Type 0 where
  pub read : Choice
  pub n : ℕ
  pub on : (begins_gap read.0.1 ≡ true) → Reached limits (suc k) bytes read.0.1 read.1 read.2
  pub ends : ends_number (eqb k 2) read.0.1 ≡ true
  pub rest : next read n ≡ Err e

number-out : (limits : SizeLimits) (k begun at : ℕ) (bytes rest : List ℕ) (x : Number) →
    Reached limits k bytes begun at rest → NumberRead (eqb k 2) begun at rest x →
    (IsInRange limits k x.0.0 → ⊥) →
    IsOutOfRange limits k bytes
number-out limits k begun at bytes rest x here number out = (
  here.before ++ ((begun ∷ number.gap) ++ number.digits),
  x.0.1,
  x.2,
  x.0.0,
  whole-number here.before begun number.gap number.digits x.0.1 x.2 bytes rest here.whole
      number.parts,
  record {
    before = here.before;
    gap = begun ∷ number.gap;
    digits = number.digits;
    begins = here.begins;
    is_gap = gap-of begun number.gap (here.gap, number.runs);
    number = number.numeral;
    whole = refl;
  },
  out,
  number.ends,
  omega (
    arith,
    here.place,
    number.place,
    number.room,
    length-append here.before
        ((begun ∷ number.gap) ++ number.digits),
    length-append
        (begun ∷ number.gap) number.digits,
  ),
)

lt-not : {a b : ℕ} → a < b → b ≤ a → ⊥
lt-not lt le = omega (arith, lt, le)

read-on : (limits : SizeLimits) (k low high begun at : ℕ) (bytes rest : List ℕ)
    (next : Choice → ℕ → Result Sizes FrameFault) (e : FrameFault) (x : Number) (a b : Bool) →
    k < 3 → Reached limits k bytes begun at rest → Ranges limits k low high
    → NumberRead (eqb k 2) begun at rest x → nat_le low x.0.0 ≡ a → nat_le x.0.0 high ≡ b →
    judge k next ((cond (a && b) (Some x.0.0) None, x.0.1), x.1, x.2) ≡ Err e →
    HasFault limits bytes e ⊎ NumberBehind limits k bytes next e
read-on limits k low high begun at bytes rest next e x true true few here ranges number above below
    h =
    inr (record {
      read = ((Some x.0.0, x.0.1), x.1, x.2);
      n = x.0.0;
      on = λ gap. record {
        before = here.before ++ ((begun ∷ number.gap) ++ number.digits);
        begins = (
          x.0.0,
          record {
            before = here.before;
            gap = begun ∷ number.gap;
            digits = number.digits;
            begins = here.begins;
            is_gap = gap-of begun number.gap (here.gap, number.runs);
            number = number.numeral;
            whole = refl;
          },
          ranges.0 x.0.0 (leb-true low x.0.0 above) (leb-true x.0.0 high below),
        );
        gap = gap;
        whole = whole-number here.before begun number.gap number.digits x.0.1 x.2 bytes rest
            here.whole number.parts;
        place = omega (
          arith,
          here.place,
          number.place,
          length-append here.before
              ((begun ∷ number.gap) ++ number.digits),
          length-append
              (begun ∷ number.gap) number.digits,
        );
        room = number.room;
      };
      ends = number.ends;
      rest = h;
    })
read-on limits k low high begun at bytes rest next e x true false few here ranges number above below
    h =
    inl (told limits bytes (range_fault k) e (fault-is (range_fault k) e h)
    (out-of-range limits k bytes few
    (number-out limits k begun at bytes rest x here number
    (λ is. lt-not (leb-false x.0.0 high below) (ranges.1 x.0.0 is).1))))
read-on limits k low high begun at bytes rest next e x false b few here ranges number above below
    h =
    inl (told limits bytes (range_fault k) e (fault-is (range_fault k) e h)
    (out-of-range limits k bytes few
    (number-out limits k begun at bytes rest x here number
    (λ is. lt-not (leb-false low x.0.0 above) (ranges.1 x.0.0 is).0))))

ranged-told : (limits : SizeLimits) (k low high begun at : ℕ) (bytes rest : List ℕ)
    (next : Choice → ℕ → Result Sizes FrameFault) (e : FrameFault) → k < 3 →
    Reached limits k bytes begun at rest → Ranges limits k low high
    → (ranged_at (eqb k 2) low high begun at rest >>= judge k next) ≡ Err e →
    HasFault limits bytes e ⊎ NumberBehind limits k bytes next e
unfolding ranged_at
ranged-told limits k low high begun at bytes rest next e few here ranges h =
    let last : Bool = eqb k 2 in
    elim (bind_err (ranged_at last low high begun at rest) (judge k next) e h) [
      | inl stops ↦ elim (bind_err (number_at last begun at rest) (judged low high) e stops) [
        | inl number ↦ inl (number-told limits k begun at bytes rest e few here number)
        | inr never ↦ absurd (no-fault never.2)
      ]
      | inr goes ↦
          let number = bind_ok (number_at last begun at rest) (judged low high) goes.0 goes.1 in
          let x = number.0 in
          let same : choice_of low high x ≡ goes.0 =
          value-is (choice_of low high x) goes.0 number.2 in
          read-on limits k low high begun at bytes rest next e x (nat_le low x.0.0)
          (nat_le x.0.0 high) few here ranges (number-found last begun at rest x number.1) refl refl
          (subst (λ (r : Choice). judge k next r ≡ Err e) (sym same) goes.2)
    ]

-- ---- the header

magic-told : (limits : SizeLimits) (bytes : List ℕ) (e : FrameFault) → magic_at 0 bytes ≡ Err e →
    HasFault limits bytes e
unfolding magic_at
magic-told limits [] e h = told limits [] (Truncated 0) e (fault-is (Truncated 0) e h)
    (refl, inl refl)
magic-told limits (p ∷ []) e h =
    elim (eqb_tells p 80) [
      | inl is ↦ told limits (p ∷ []) (Truncated 1) e (fault-is (Truncated 1) e (rw is.0 at h))
          (refl, inr (inl (rw is.1 refl)))
      | inr other ↦ told limits (p ∷ []) NotPpm e (fault-is NotPpm e (rw other.0 at h)) other.1
    ]
magic-told limits (p ∷ six ∷ bytes) e h =
    elim (eqb_tells p 80) [
      | inr other ↦ told limits (p ∷ six ∷ bytes) NotPpm e (fault-is NotPpm e (rw other.0 at h))
          (λ is also. other.1 is)
      | inl is ↦ elim (eqb_tells six 54) [
        | inr other ↦ told limits (p ∷ six ∷ bytes) NotPpm e
            (fault-is NotPpm e (rw (is.0, other.0) at h)) (λ first also. other.1 also)
        | inl also ↦ rw (is.1, also.1) (behind limits bytes e (rw (is.1, also.1) at h))
      ]
    ]
  where
    behind : (limits : SizeLimits) (bytes : List ℕ) (e : FrameFault) →
        magic_at 0 (80 ∷ 54 ∷ bytes) ≡ Err e → HasFault limits (80 ∷ 54 ∷ bytes) e
    behind limits [] e h = told limits (80 ∷ 54 ∷ []) (Truncated 2) e (fault-is (Truncated 2) e h)
        (refl, inr (inr (inl refl)))
    behind limits (gap ∷ bytes) e h =
        elim (chosen (begins_gap gap) (Ok (gap, 3, bytes)) (Err (BadHeader 2)) (Err e) h) [
          | inl begins ↦ absurd (no-fault begins.1)
          | inr bad ↦ told limits (80 ∷ 54 ∷ gap ∷ bytes) (BadHeader 2) e
              (fault-is (BadHeader 2) e bad.1)
              (80 ∷ 54 ∷ [], gap, bytes, refl, refl, omega arith, inl (refl, bad.0))
        ]

reached-magic : (limits : SizeLimits) (bytes : List ℕ) (read : Point) → magic_at 0 bytes ≡ Ok read →
    Reached limits 0 bytes read.0 read.1 read.2
reached-magic limits bytes read e =
    let magic = magic-found bytes read e in
    record {
      before = 80 ∷ 54 ∷ [];
      begins = refl;
      gap = magic.begins;
      whole = magic.parts;
      place = omega (arith, magic.place);
      room = omega (arith, magic.place);
    }

header-told : (limits : SizeLimits) (bytes : List ℕ) (e : FrameFault) →
    header_at limits bytes ≡ Err e → HasFault limits bytes e
unfolding header_at
header-told limits bytes e h =
    elim (bind_err (magic_at 0 bytes) (step1 limits) e h) [
      | inl stops ↦ magic-told limits bytes e stops
      | inr magic ↦ elim (ranged-told limits 0 1 limits.width magic.0.0 magic.0.1 bytes magic.0.2
          (step3 limits) e (omega arith) (reached-magic limits bytes magic.0 magic.1)
          (ranges-width limits) magic.2) [
            | inl stops ↦ stops
            | inr width ↦ elim (ranged-told limits 1 1 limits.height width.read.0.1 width.read.1
                bytes width.read.2 (step5 width.n) e (omega arith) (width.on width.ends)
                (ranges-height limits) width.rest) [
                  | inl stops ↦ stops
                  | inr height ↦ elim (ranged-told limits 2 4095 4095 height.read.0.1
                      height.read.1 bytes height.read.2
                      (step7 width.n height.n) e (omega arith) (height.on height.ends)
                      (ranges-maxval limits) height.rest) [
                        | inl stops ↦ stops
                        | inr maxval ↦ absurd (no-fault maxval.rest)
                      ]
                ]
          ]
    ]

-- ---- the samples

abbrev pub Fit : Pair → Type 0
Fit pair = IsSample (pair_value pair)

abbrev one-more : (limits : SizeLimits) (prefix : List ℕ) (read : HasSamples limits prefix)
    (pair : Pair) → Fit pair → HasSamples limits (prefix ++ pair_bytes pair)
one-more limits prefix read pair fits = record {
  parts = read.parts;
  width = read.width;
  height = read.height;
  samples = read.samples ++ (pair ∷ []);
  is_header = read.is_header;
  within = read.within;
  fit = All-append Fit read.samples (pair ∷ []) read.fit (All-cons Fit pair [] fits (All-nil Fit));
  whole = ap (λ (t : List ℕ). t ++ pair_bytes pair) read.whole
      ∙ append_assoc (header read.parts) (flat_map pair_bytes read.samples) (pair_bytes pair)
      ∙ ap (λ (t : List ℕ). header read.parts ++ t)
      (sym (flat_map-append pair_bytes read.samples (pair ∷ [])));
}

samples-told : (limits : SizeLimits) (prefix : List ℕ) (read : HasSamples limits prefix) (n at : ℕ)
    (bytes : List ℕ) (e : FrameFault) → length read.samples + n ≡ 3 * (read.width * read.height) →
    length prefix ≡ at
    → samples_at n at bytes ≡ Err e → HasFault limits (prefix ++ bytes) e
samples-told limits prefix read zero at bytes e all len h = absurd (no-fault h)
samples-told limits prefix read (suc n) at [] e all len h =
    told limits (prefix ++ []) (Truncated at) e (fault-is (Truncated at) e h) (
      omega (arith, len, length-append prefix []),
      inr
          (inr (inr (inr (prefix, [], refl, (read, omega (arith, all)), omega arith)))),
    )
samples-told limits prefix read (suc n) at (high ∷ []) e all len h =
    told limits (prefix ++ (high ∷ [])) (Truncated (suc at)) e (fault-is (Truncated (suc at)) e h) (
      omega (arith, len, length-append prefix (high ∷ [])),
      inr
          (inr (inr (inr (prefix, high ∷ [], refl, (read, omega (arith, all)), omega arith)))),
    )
samples-told limits prefix read (suc n) at (high ∷ low ∷ bytes) e all len h =
    let pair : Pair = record { high = high; low = low } in
    let on = samples_at n (suc (suc at)) bytes in
    elim (chosen (nat_le (256 * high + low) 4095) (on >>= with_sample (256 * high + low))
    (Err (SampleTooLarge at)) (Err e) h) [
      | inr large ↦
          told limits (prefix ++ (high ∷ low ∷ bytes)) (SampleTooLarge at) e
          (fault-is (SampleTooLarge at) e large.1) (
            prefix,
            pair,
            bytes,
            refl,
            len,
            (read, omega (arith, all)),
            leb-false
                (256 * high + low) 4095 large.0,
          )
      | inl fits ↦ elim (bind_err on (with_sample (256 * high + low)) e fits.1) [
        | inr never ↦ absurd (no-fault never.2)
        | inl stops ↦
            let count : length (read.samples ++ (pair ∷ [])) + n ≡ 3 * (read.width * read.height) =
            omega (arith, all, length-append read.samples (pair ∷ [])) in
            let more = one-more limits prefix read pair (leb-true (256 * high + low) 4095 fits.0) in
            subst (λ (t : List ℕ). HasFault limits t e)
            (append_assoc prefix (pair_bytes pair) bytes)
            (samples-told limits (prefix ++ pair_bytes pair) more n (suc (suc at)) bytes e count
            (omega (arith, len, length-append prefix (pair_bytes pair))) stops)
      ]
    ]

pub record SamplesRead (n : ℕ) (bytes rest : List ℕ) : Type 0 where
  pub samples : List Pair
  pub count : length samples ≡ n
  pub fit : All Fit samples
  pub whole : bytes ≡ flat_map pair_bytes samples ++ rest

samples-found : (n at : ℕ) (bytes : List ℕ) (read : Samples) → samples_at n at bytes ≡ Ok read →
    SamplesRead n bytes read.1
samples-found zero at bytes read h =
    let same : (let p : Samples = ([], bytes) in p) ≡ read = value-is ([], bytes) read h in
    record { samples = []; count = refl; fit = All-nil Fit; whole = ap (λ (p : Samples). p.1) same }
samples-found (suc n) at [] read h = absurd (no-value h)
samples-found (suc n) at (high ∷ []) read h = absurd (no-value h)
samples-found (suc n) at (high ∷ low ∷ bytes) read h =
    let pair : Pair = record { high = high; low = low } in
    let on = samples_at n (suc (suc at)) bytes in
    elim (chosen (nat_le (256 * high + low) 4095) (on >>= with_sample (256 * high + low))
    (Err (SampleTooLarge at)) (Ok read) h) [
      | inr large ↦ absurd (no-value large.1)
      | inl fits ↦
          let rest = bind_ok on (with_sample (256 * high + low)) read fits.1 in
          let found = samples-found n (suc (suc at)) bytes rest.0 rest.1 in
          let same : (let p : Samples = ((256 * high + low) ∷ rest.0.0, rest.0.1) in p) ≡ read =
          value-is ((256 * high + low) ∷ rest.0.0, rest.0.1) read rest.2 in
          subst (λ (p : Samples). SamplesRead (suc n) (high ∷ low ∷ bytes) p.1) same (record {
            samples = pair ∷ found.samples;
            count = ap (λ (k : ℕ). suc k) found.count;
            fit = All-cons Fit pair found.samples
                (leb-true (256 * high + low) 4095 fits.0) found.fit;
            whole = ap (λ (t : List ℕ). high ∷ low ∷ t) found.whole;
          })
    ]

-- ---- the file

abbrev no-samples : (limits : SizeLimits) (bytes : List ℕ) (read : Sizes) →
    (head : HeaderRead limits bytes read) → HasSamples limits (header head.parts)
no-samples limits bytes read head = record {
  parts = head.parts;
  width = read.0.0;
  height = read.0.1;
  samples = [];
  is_header = head.is_header;
  within = head.within;
  fit = All-nil Fit;
  whole = sym (append-nil (header head.parts));
}

end-told : (limits : SizeLimits) (prefix rest : List ℕ) (p : Picture) (e : FrameFault) →
    HasAllSamples limits prefix → ended p rest ≡ Err e → HasFault limits (prefix ++ rest) e
end-told limits prefix [] p e all h = absurd (no-fault h)
end-told limits prefix (b ∷ rest) p e all h =
    told limits (prefix ++ (b ∷ rest)) TrailingBytes e (fault-is TrailingBytes e h)
    (prefix, b, rest, refl, all)

-- a header and all its samples, and what is left after them
pub record AllRead (limits : SizeLimits) (bytes rest : List ℕ) : Type 0 where
  pub prefix : List ℕ
  pub all : HasAllSamples limits prefix
  pub whole : bytes ≡ prefix ++ rest

all-read : (limits : SizeLimits) (bytes : List ℕ) (read : Sizes) (last : Samples) →
    header_at limits bytes ≡ Ok read →
    samples_at (3 * (read.0.0 * read.0.1)) read.1 read.2 ≡ Ok last → AllRead limits bytes last.1
all-read limits bytes read last head_is samples_are =
    let head = header-found limits bytes read head_is in
    let found = samples-found (3 * (read.0.0 * read.0.1)) read.1 read.2 last samples_are in
    let has : HasSamples limits (header head.parts ++ flat_map pair_bytes found.samples) = record {
      parts = head.parts;
      width = read.0.0;
      height = read.0.1;
      samples = found.samples;
      is_header = head.is_header;
      within = head.within;
      fit = found.fit;
      whole = refl;
    } in
    record {
      prefix = header head.parts ++ flat_map pair_bytes found.samples;
      all = (has, found.count);
      whole = head.whole ∙ ap (λ (t : List ℕ). header head.parts ++ t) found.whole
          ∙ sym (append_assoc (header head.parts) (flat_map pair_bytes found.samples) last.1);
    }

pub frame-told : (limits : SizeLimits) (bytes : List ℕ) (e : FrameFault) →
    frame_of limits bytes ≡ Err e → HasFault limits bytes e
unfolding frame_of
frame-told limits bytes e h =
    elim (bind_err (header_at limits bytes) behind_header e h) [
      | inl stops ↦ header-told limits bytes e stops
      | inr goes ↦
          let read = goes.0 in
          let head = header-found limits bytes read goes.1 in
          let total : ℕ = 3 * (read.0.0 * read.0.1) in
          elim (bind_err (samples_at total read.1 read.2) (behind_samples read.0) e goes.2) [
            | inl stops ↦
                subst (λ (t : List ℕ). HasFault limits t e) (sym head.whole)
                (samples-told limits (header head.parts)
                (no-samples limits bytes read head) total read.1 read.2 e (zero-add total)
                (sym head.place) stops)
            | inr last ↦
                let found = all-read limits bytes read last.0 goes.1 last.1 in
                subst (λ (t : List ℕ). HasFault limits t e) (sym found.whole)
                (end-told limits found.prefix last.0.1
                (picture read.0 last.0.0) e found.all last.2)
          ]
    ]

nothing-left : (rest : List ℕ) (p q : Picture) → ended p rest ≡ Ok q → rest ≡ []
nothing-left [] p q h = refl
nothing-left (b ∷ rest) p q h = absurd (no-value h)

pub all-told : (limits : SizeLimits) (bytes : List ℕ) (p : Picture) → frame_of limits bytes ≡ Ok p →
    HasAllSamples limits bytes
unfolding frame_of
all-told limits bytes p h =
    let head = bind_ok (header_at limits bytes) behind_header p h in
    let read = head.0 in
    let last = bind_ok (samples_at (3 * (read.0.0 * read.0.1)) read.1 read.2)
    (behind_samples read.0) p head.2 in
    let found = all-read limits bytes read last.0 head.1 last.1 in
    let none : last.0.1 ≡ [] = nothing-left last.0.1 (picture read.0 last.0.0) p last.2 in
    let same : found.prefix ≡ bytes =
    sym (found.whole ∙ ap (λ (t : List ℕ). found.prefix ++ t) none ∙ append-nil found.prefix) in
    subst (λ (t : List ℕ). HasAllSamples limits t) same found.all

picture-is : (p q : Picture) (rest : List ℕ) → ended p rest ≡ Ok q → p ≡ q
picture-is p q [] h = value-is p q h
picture-is p q (b ∷ rest) h = absurd (no-value h)

-- a picture that is read has sides within the limits
pub frame-sizes : (limits : SizeLimits) (bytes : List ℕ) (p : Picture) →
    frame_of limits bytes ≡ Ok p → IsWithin limits p.width p.height
unfolding frame_of
frame-sizes limits bytes p h =
    let head = bind_ok (header_at limits bytes) behind_header p h in
    let read = head.0 in
    let last = bind_ok (samples_at (3 * (read.0.0 * read.0.1)) read.1 read.2)
    (behind_samples read.0) p head.2 in
    let same : picture read.0 last.0.0 ≡ p =
    picture-is (picture read.0 last.0.0) p last.0.1 last.2 in
    subst (λ (q : Picture). IsWithin limits q.width q.height) same
    (header-found limits bytes read head.1).within
