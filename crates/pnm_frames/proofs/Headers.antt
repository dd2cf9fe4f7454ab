-- Reading a header byte by byte.
use Rattle.std.proofs.Common.{◌≡◌, ℕ, suc, ◌+◌, ◌*◌, ◌-◌, ◌<◌, ◌≤◌, ◌^◌, min, Bool, true, false}
use Rattle.std.proofs.Common.{cond, ◌&&◌, eqb, List, [], ◌∷◌, Option, Some, None, Result, Ok, Err, refl}
use Rattle.std.proofs.Common.{sym, ap, ◌∙◌, inl, inr, arith}
use Rattle.std.specs.Prelude.{nat_lt, nat_le, IfSome}
use Rattle.std.specs.Char.{is_ascii_digit}
use Rattle.std.proofs.lemmas.Bool.{lt-leb}
use Rattle.std.proofs.lemmas.Bool.Decides.{leb_tells}
use Rattle.pnm_frames.specs.declared.refusal.FrameRefusal.{FrameRefusal}
use Rattle.pnm_frames.specs.declared.fault.FrameFault.{FrameFault}
use Rattle.pnm_frames.specs.declared.fault.FrameFault.TheVariants.{BadHeader, HeaderTooLong}
use Rattle.pnm_frames.specs.Fault.{◌>>=◌, fault_of, Fails}
use Rattle.pnm_frames.specs.Grammar.{ends_number, header_limit}
use Rattle.pnm_frames.specs.Reading.{Read, byte_at, goes_on, stays_open, gap_at, capped, digits_at}
use Rattle.pnm_frames.specs.Reading.{number_at, ranged_at}

-- what one reading refuses, another refuses
pub fails-on : {X Y : Type 0} (e : FrameRefusal) (a : Result X FrameFault)
    (b : Result Y FrameFault) → ((fault : FrameFault) → a ≡ Err fault → b ≡ Err fault) → Fails e a →
    Fails e b
fails-on e a b same = elim (fault_of e) as
    (λ o. IfSome o (λ fault. a ≡ Err fault) → IfSome o (λ fault. b ≡ Err fault)) [
      | None ↦ λ h. h
      | Some fault ↦ λ h. same fault h
    ]

-- ---- gaps

choice : {A B : Type 0} (t : Bool) (x y : Result A FrameFault) (f : A → Result B FrameFault) →
    (cond t x y >>= f) ≡ cond t (x >>= f) (y >>= f)
choice true x y f = refl
choice false x y f = refl

abbrev after_gap : Bool → ℕ × ℕ × List ℕ → Read ℕ
after_gap commented b =
    cond (goes_on commented b.0) (gap_at (stays_open commented b.0) b.1 b.2) (Ok b)

-- a gap goes on byte by byte
gap-step : (commented : Bool) (at : ℕ) (bytes : List ℕ) →
    gap_at commented at bytes ≡ (byte_at at bytes >>= after_gap commented)
gap-step commented at [] = sym (choice (nat_lt at header_limit) _ _ (after_gap commented))
gap-step commented at (b ∷ bytes) = sym (choice (nat_lt at header_limit) _ _ (after_gap commented))

gap-byte : (commented : Bool) (at : ℕ) (bytes : List ℕ) (b next : ℕ) (rest : List ℕ) →
    byte_at at bytes ≡ Ok (b, next, rest) →
    gap_at commented at bytes
    ≡ cond (goes_on commented b) (gap_at (stays_open commented b) next rest) (Ok (b, next, rest))
gap-byte commented at bytes b next rest read = gap-step commented at bytes ∙ rw read refl

pub gap-fault : (commented : Bool) (at : ℕ) (bytes : List ℕ) (fault : FrameFault) →
    byte_at at bytes ≡ Err fault → gap_at commented at bytes ≡ Err fault
gap-fault commented at bytes fault read = gap-step commented at bytes ∙ rw read refl

-- one more byte of the gap
pub gap-more : (commented still : Bool) (at : ℕ) (bytes : List ℕ) (b next : ℕ) (rest : List ℕ) →
    byte_at at bytes ≡ Ok (b, next, rest) → goes_on commented b ≡ true →
    still ≡ stays_open commented b → gap_at commented at bytes ≡ gap_at still next rest
gap-more commented still at bytes b next rest read on same =
    gap-byte commented at bytes b next rest read ∙ rw (on, same) refl

-- the byte after it
pub gap-ends : (commented : Bool) (at : ℕ) (bytes : List ℕ) (b next : ℕ) (rest : List ℕ) →
    byte_at at bytes ≡ Ok (b, next, rest) → goes_on commented b ≡ false →
    gap_at commented at bytes ≡ Ok (b, next, rest)
gap-ends commented at bytes b next rest read other =
    gap-byte commented at bytes b next rest read ∙ rw other refl

-- ---- digits

abbrev after_digit : Bool → ℕ → ℕ → ℕ × ℕ × List ℕ → Read (ℕ × ℕ)
after_digit last n at b = cond (ends_number last b.0) (Ok ((n, b.0), b.1, b.2))
    (cond (is_ascii_digit b.0)
    (digits_at last (10 * n + (b.0 - 48)) b.1 b.2) (Err (BadHeader at)))

digits-step : (last : Bool) (n at : ℕ) (bytes : List ℕ) →
    digits_at last n at bytes ≡ (byte_at at bytes >>= after_digit last n at)
digits-step last n at [] = sym (choice (nat_lt at header_limit) _ _ (after_digit last n at))
digits-step last n at (b ∷ bytes) =
    sym (choice (nat_lt at header_limit) _ _ (after_digit last n at))

pub digits-fault : (last : Bool) (n at : ℕ) (bytes : List ℕ) (fault : FrameFault) →
    byte_at at bytes ≡ Err fault → capped (digits_at last n at bytes) ≡ Err fault
digits-fault last n at bytes fault read =
    let e : digits_at last n at bytes ≡ Err fault = digits-step last n at bytes ∙ rw read refl in
    ap capped e

-- the byte that ends a number
pub digits-end : (last : Bool) (n at : ℕ) (bytes : List ℕ) (b next : ℕ) (rest : List ℕ) →
    n ≤ 2 ^ 32 →
    byte_at at bytes ≡ Ok (b, next, rest) → ends_number last b ≡ true →
    capped (digits_at last n at bytes) ≡ Ok ((n, b), next, rest)
digits-end last n at bytes b next rest small read ends =
    let least : min n (2 ^ 32) ≡ n = omega arith in
    let e : digits_at last n at bytes ≡ Ok ((n, b), next, rest) = digits-step last n at bytes
    ∙ rw (read, ends) refl in
    ap capped e ∙ ap (λ (k : ℕ). number k b next rest) least
  where
    number : ℕ → ℕ → ℕ → List ℕ → Read (ℕ × ℕ)
    number k b next rest = Ok ((k, b), next, rest)

-- a byte that isn't allowed in a number
pub digits-bad : (last : Bool) (n at : ℕ) (bytes : List ℕ) (b next : ℕ) (rest : List ℕ) →
    byte_at at bytes ≡ Ok (b, next, rest) → ends_number last b ≡ false →
    is_ascii_digit b ≡ false →
    capped (digits_at last n at bytes) ≡ Err (BadHeader at)
digits-bad last n at bytes b next rest read other bad =
    let e : digits_at last n at bytes ≡ Err (BadHeader at) = digits-step last n at bytes
    ∙ rw (read, other, bad) refl in
    ap capped e

level : (t w d : Bool) (n m b next : ℕ) (rest : List ℕ) (more others : Read (ℕ × ℕ))
    (bad late : FrameFault) → min n (2 ^ 32) ≡ min m (2 ^ 32) → capped more ≡ capped others
    → capped (cond t (cond w (Ok ((n, b), next, rest)) (cond d more (Err bad))) (Err late))
    ≡ capped (cond t (cond w (Ok ((m, b), next, rest)) (cond d others (Err bad))) (Err late))
level true true d n m b next rest more others bad late same on = rw same refl
level true false true n m b next rest more others bad late same on = on
level true false false n m b next rest more others bad late same on = refl
level false w d n m b next rest more others bad late same on = refl

-- numbers from 2^32 on are one
pub capped-same : (last : Bool) (n m at : ℕ) (bytes : List ℕ) →
    min n (2 ^ 32) ≡ min m (2 ^ 32) →
    capped (digits_at last n at bytes) ≡ capped (digits_at last m at bytes)
capped-same last n m at [] same = refl
capped-same last n m at (b ∷ bytes) same =
    let next : min (10 * n + (b - 48)) (2 ^ 32) ≡ min (10 * m + (b - 48)) (2 ^ 32) = omega arith in
    level (nat_lt at header_limit) (ends_number last b) (is_ascii_digit b) n m b (suc at) bytes
    (digits_at last (10 * n + (b - 48)) (suc at) bytes)
    (digits_at last (10 * m + (b - 48)) (suc at) bytes) (BadHeader at) HeaderTooLong
    same (capped-same last (10 * n + (b - 48)) (10 * m + (b - 48)) (suc at) bytes next)

-- one more digit
pub digits-more : (last : Bool) (n at : ℕ) (bytes : List ℕ) (b next m : ℕ) (rest : List ℕ) →
    byte_at at bytes ≡ Ok (b, next, rest) → ends_number last b ≡ false → is_ascii_digit b ≡ true
    → m ≡ min (10 * n + (b - 48)) (2 ^ 32) →
    capped (digits_at last n at bytes) ≡ capped (digits_at last m next rest)
digits-more last n at bytes b next m rest read other digit value =
    let e : digits_at last n at bytes ≡ digits_at last (10 * n + (b - 48)) next rest =
    digits-step last n at bytes ∙ rw (read, other, digit) refl in
    ap capped e ∙ capped-same last (10 * n + (b - 48)) m next rest (omega arith)

-- ---- numbers

capped-ok : (r : Read (ℕ × ℕ)) (m end next : ℕ) (rest : List ℕ) →
    capped r ≡ Ok ((m, end), next, rest) →
    (n : ℕ) × (r ≡ Ok ((n, end), next, rest)) × (m ≡ min n (2 ^ 32))
capped-ok (Err f) m end next rest e = absurd cc
capped-ok (Ok x) m end next rest e =
    let same = parts ((min x.0.0 (2 ^ 32), x.0.1), x.1, x.2) ((m, end), next, rest) e in
    let value : min x.0.0 (2 ^ 32) ≡ m = ap (λ (p : (ℕ × ℕ) × ℕ × List ℕ). p.0.0) same in
    let last : x.0.1 ≡ end = ap (λ (p : (ℕ × ℕ) × ℕ × List ℕ). p.0.1) same in
    let place : x.1 ≡ next = ap (λ (p : (ℕ × ℕ) × ℕ × List ℕ). p.1) same in
    let behind : x.2 ≡ rest = ap (λ (p : (ℕ × ℕ) × ℕ × List ℕ). p.2) same in
    (x.0.0, rw (last, place, behind) refl, sym value)
  where
    read : (ℕ × ℕ) × ℕ × List ℕ → Read (ℕ × ℕ)
    read x = Ok x

    parts : (x y : (ℕ × ℕ) × ℕ × List ℕ) → read x ≡ read y → x ≡ y
    parts x y e = cc

capped-fault : (r : Read (ℕ × ℕ)) (fault : FrameFault) → capped r ≡ Err fault → r ≡ Err fault
capped-fault (Err f) fault e = e
capped-fault (Ok x) fault e = absurd cc

abbrev pub within : ℕ → ℕ → ℕ → Option ℕ
within low high n = cond (nat_le low n && nat_le n high) (Some n) None

and-false : (x : Bool) → (x && false) ≡ false
and-false true = refl
and-false false = refl

-- a number is in a range exactly where it is so without its excess
within-capped : (low high n : ℕ) → high < 2 ^ 32 →
    within low high n ≡ within low high (min n (2 ^ 32))
within-capped low high n small = elim (leb_tells n (2 ^ 32)) [
  | inl le ↦ let same : min n (2 ^ 32) ≡ n = omega (arith, le.1) in rw same refl
  | inr gt ↦
      let same : min n (2 ^ 32) ≡ 2 ^ 32 = omega (arith, gt.1) in
      rw (
        same,
        lt-leb n high (omega (arith, gt.1)),
        lt-leb (2 ^ 32) high small,
        and-false
            (nat_le low n),
        and-false (nat_le low (2 ^ 32)),
      ) refl
]

-- whether a comment begins with the byte that began the gap
abbrev commented : ℕ → Bool
commented begun = eqb begun 35

ranged-is : (last : Bool) (low high begun at : ℕ) (bytes : List ℕ) (first place : ℕ)
    (behind : List ℕ) (n end next : ℕ) (rest : List ℕ)
    → gap_at (commented begun) at bytes ≡ Ok (first, place, behind) →
    is_ascii_digit first ≡ true →
    digits_at last (first - 48) place behind ≡ Ok ((n, end), next, rest)
    → ranged_at last low high begun at bytes ≡ Ok ((within low high n, end), next, rest)
unfolding ranged_at number_at
ranged-is last low high begun at bytes first place behind n end next rest gap digit read =
    rw (gap, digit, read) refl

-- a number is judged as it is without its excess
pub ranged-read : (last : Bool) (low high begun at : ℕ) (bytes : List ℕ) (first place : ℕ)
    (behind : List ℕ) (m end next : ℕ) (rest : List ℕ) → high < 2 ^ 32
    → gap_at (commented begun) at bytes ≡ Ok (first, place, behind) →
    is_ascii_digit first ≡ true →
    capped (digits_at last (first - 48) place behind) ≡ Ok ((m, end), next, rest)
    → ranged_at last low high begun at bytes ≡ Ok ((within low high m, end), next, rest)
ranged-read last low high begun at bytes first place behind m end next rest small gap digit read =
    let number = capped-ok (digits_at last (first - 48) place behind) m end next rest read in
    let one = ranged-is last low high begun at bytes first place behind number.0 end next rest gap
    digit number.1
    in
    one ∙ ap (λ (o : Option ℕ). answer o end next rest)
    (within-capped low high number.0 small ∙ ap (within low high) (sym number.2))
  where
    answer : Option ℕ → ℕ → ℕ → List ℕ → Read (Option ℕ × ℕ)
    answer o end next rest = Ok ((o, end), next, rest)

pub ranged-unfit : (last : Bool) (low high begun at : ℕ) (bytes : List ℕ) (first place : ℕ)
    (behind : List ℕ) (fault : FrameFault)
    → gap_at (commented begun) at bytes ≡ Ok (first, place, behind) →
    is_ascii_digit first ≡ true →
    capped (digits_at last (first - 48) place behind) ≡ Err fault →
    ranged_at last low high begun at bytes ≡ Err fault
unfolding ranged_at number_at
ranged-unfit last low high begun at bytes first place behind fault gap digit read =
    rw (gap, digit, capped-fault (digits_at last (first - 48) place behind) fault read) refl

pub ranged-fault : (last : Bool) (low high begun at : ℕ) (bytes : List ℕ) (fault : FrameFault) →
    gap_at (commented begun) at bytes ≡ Err fault →
    ranged_at last low high begun at bytes ≡ Err fault
unfolding ranged_at number_at
ranged-fault last low high begun at bytes fault gap = rw gap refl

pub ranged-bad : (last : Bool) (low high begun at : ℕ) (bytes : List ℕ) (first place : ℕ)
    (behind : List ℕ)
    → gap_at (commented begun) at bytes ≡ Ok (first, place, behind) →
    is_ascii_digit first ≡ false →
    ranged_at last low high begun at bytes ≡ Err (BadHeader (place - 1))
unfolding ranged_at number_at
ranged-bad last low high begun at bytes first place behind gap other = rw (gap, other) refl
