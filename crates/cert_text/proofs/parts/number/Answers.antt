use Rattle.std.proofs.Common.{◌≡◌, ◌+◌, ◌*◌, ◌≤◌, ◌<◌, ◌^◌, arith, decimal, subst, ℕ}
use Rattle.cert_text.specs.Stands.{Stands}
use Rattle.std.proofs.Common.{◌++◌, drop, [], refl, inl, inr}
use Rattle.cert_text.specs.Stands.{digits_before}
use Rattle.cert_text.proofs.Digits.{digits_more, digits_stop, digits_past, none_after_zero_at}
use Rattle.cert_text.proofs.Digits.{none_larger, none_begun, none_ended}
use Rattle.cert_text.proofs.Stands.{number_more}
use Rattle.cert_text.proofs.parts.number.Goals as goal
use Rattle.cert_text.proofs.parts.number.Goals.{else-end-at-via-then-end-at+else-value-eq0}
use Rattle.cert_text.proofs.parts.number.Goals.{else-end-at-via-else-end-at}
use Rattle.cert_text.proofs.parts.number.Goals.{then-digit-most-via-then-digit-most}
use Rattle.cert_text.proofs.parts.number.Goals.{then-digit-most-via-else-digit-most+then-value-most}
use Rattle.cert_text.proofs.parts.number.Goals.{else-loop-i-test}
use Rattle.cert_text.proofs.parts.number.Goals.{then-loop-i-test+then-not-is_ascii_digit}

pub loop-i-preserved : goal.loop-i-preserved
loop-i-preserved c =
    let most : c.args.at < c.loop-i.i + 1 → c.loop-i.value * 10 + c.from-digit.result ≤ c.args.most
    = λ h. omega arith in
    let here : c.loop-i.end ≡ c.loop-i.i = c.loop-i.invariant.here in
    let positive : c.args.at < c.loop-i.i → 0 < c.loop-i.value
    = λ k. elim c.else-end-at.branch [
      | else-end-at-via-then-end-at+else-value-eq0 w ↦ omega arith
      | else-end-at-via-else-end-at w ↦ omega arith
    ] in
    record {
      here = omega arith;
      later = omega arith;
      most = most;
      none = λ h. omega arith;
      stands = λ h. number_more c.args.text.now c.args.at c.loop-i.i c.loop-i.value
          c.from-digit.result
          (omega arith) (omega arith)
          (omega (
            arith,
            c.if-not-is_ascii_digit.ensures.cases.0,
            c.if-not-is_ascii_digit.ensures.cases.1,
          ))
          (omega (
            arith,
            c.if-not-is_ascii_digit.ensures.cases.0,
            c.if-not-is_ascii_digit.ensures.cases.1,
          ))
          positive (λ k. omega arith) (omega (arith, most h))
          (λ k. subst (λ (j : ℕ). Stands c.args.text.now c.args.at (decimal c.loop-i.value) j) here
          (c.loop-i.invariant.stands (omega arith)));
      digits = λ h. digits_more c.args.text.now c.args.at c.loop-i.i c.loop-i.value
          c.from-digit.result
          (omega arith) (omega arith)
          (omega (
            arith,
            c.if-not-is_ascii_digit.ensures.cases.0,
            c.if-not-is_ascii_digit.ensures.cases.1,
          ))
          (omega (
            arith,
            c.if-not-is_ascii_digit.ensures.cases.0,
            c.if-not-is_ascii_digit.ensures.cases.1,
          ))
          positive (λ k. omega arith) (omega (arith, most h))
          (λ k. subst (λ (j : ℕ). digits_before (drop c.args.at c.args.text.now)
          ≡ decimal c.loop-i.value ++ digits_before (drop j c.args.text.now)) here
          (c.loop-i.invariant.digits (omega arith)));
    }

pub returns-then-value-eq0-clause-none : goal.returns-then-value-eq0-clause-none
returns-then-value-eq0-clause-none c n least most =
    let here : c.loop-i.end ≡ c.loop-i.i = c.loop-i.invariant.here in
    let zero : c.loop-i.value ≡ 0 = c.if-value-eq0.true in
    let run : digits_before (drop c.args.at c.args.text.now) ≡ decimal c.loop-i.value
    ++ digits_before (drop c.loop-i.end c.args.text.now)
    = c.loop-i.invariant.digits c.if-end-at.true in
    none_after_zero_at c.args.text.now (digits_before (drop c.args.at c.args.text.now)) c.loop-i.end
    c.loop-i.i c.loop-i.value n
    (omega arith) here zero run (omega arith)
    (omega (
      arith,
      c.if-not-is_ascii_digit.ensures.cases.0,
      c.if-not-is_ascii_digit.ensures.cases.1,
    ))
    (omega (
      arith,
      c.if-not-is_ascii_digit.ensures.cases.0,
      c.if-not-is_ascii_digit.ensures.cases.1,
    ))

pub returns-then-digit-most-clause-none : goal.returns-then-digit-most-clause-none
returns-then-digit-most-clause-none c n least most =
    let here : c.loop-i.end ≡ c.loop-i.i = c.loop-i.invariant.here in
    let positive : c.args.at < c.loop-i.i → 0 < c.loop-i.value
    = λ k. elim c.else-end-at.branch [
      | else-end-at-via-then-end-at+else-value-eq0 w ↦ omega arith
      | else-end-at-via-else-end-at w ↦ omega arith
    ] in
    let above : n < c.loop-i.value * 10 + c.from-digit.result
    = elim c.then-digit-most.branch [
      | then-digit-most-via-then-digit-most w ↦ omega arith
      | then-digit-most-via-else-digit-most+then-value-most w ↦ omega arith
    ] in
    let small : c.loop-i.value * 10 + c.from-digit.result < 10 ^ 64 = omega arith in
    none_larger (digits_before (drop c.args.at c.args.text.now))
    (digits_before (drop (c.loop-i.i + 1) c.args.text.now))
    (c.loop-i.value * 10 + c.from-digit.result) n small (omega arith)
    (digits_more c.args.text.now c.args.at c.loop-i.i c.loop-i.value c.from-digit.result
    (omega arith) (omega arith)
    (omega (
      arith,
      c.if-not-is_ascii_digit.ensures.cases.0,
      c.if-not-is_ascii_digit.ensures.cases.1,
    ))
    (omega (
      arith,
      c.if-not-is_ascii_digit.ensures.cases.0,
      c.if-not-is_ascii_digit.ensures.cases.1,
    ))
    positive (λ k. omega arith) small
    (λ k. subst (λ (j : ℕ). digits_before (drop c.args.at c.args.text.now) ≡ decimal c.loop-i.value
    ++ digits_before (drop j c.args.text.now)) here
    (c.loop-i.invariant.digits (omega arith))))
    above

pub returns-then-end-at-2-clause-none : goal.returns-then-end-at-2-clause-none
returns-then-end-at-2-clause-none c n least most =
    let here : c.loop-i.end ≡ c.loop-i.i = c.loop-i.invariant.here in
    let stop : digits_before (drop c.loop-i.end c.args.text.now) ≡ []
    = elim c.loop-i-test.branch [
      | else-loop-i-test w ↦ digits_past c.args.text.now c.loop-i.end (omega arith)
      | then-loop-i-test+then-not-is_ascii_digit w ↦
          digits_stop c.args.text.now c.loop-i.end (omega arith)
          (rw here (λ lo hi. grind (arith, w.if-not-is_ascii_digit.ensures.cases)))
    ] in
    elim c.then-end-at-2.either [
      | inl same ↦ none_begun c.args.text.now (digits_before (drop c.args.at c.args.text.now))
          c.args.at c.loop-i.end n
          (omega arith) stop same refl
      | inr below ↦ none_ended c.args.text.now (digits_before (drop c.args.at c.args.text.now))
          c.args.at c.loop-i.end c.loop-i.value n
          (omega arith) (omega (arith, below.1)) stop
          (c.loop-i.invariant.digits (omega (arith, below.0))) (λ e. omega (arith, below.1, e))
    ]
