use Rattle.std.proofs.Common.{◌≡◌, ◌+◌, ◌-◌, ◌<◌, ℤ, List, length, arith, subst}
use Rattle.std.proofs.Math.ListN.{set}
use Rattle.lift97_fixed.specs.Apart.{IsApart}
use Rattle.lift97_fixed.specs.Line.{lift}
use Rattle.lift97_fixed.proofs.Casts.{passed, passed_fits}
use Rattle.lift97_fixed.proofs.ApartLemmas.{Filled, new_high, filled_more, filled_last, high_value}
use Rattle.lift97_fixed.proofs.ApartLemmas.{highs_lifted}
use Rattle.lift97_fixed.proofs.line.lift_highs.Goals as goal

pub loop-k-preserved : goal.loop-k-preserved
loop-k-preserved c =
    let lows : List ℤ = c.args.lows.now in
    let highs : List ℤ = c.args.highs.now in
    let size = c.loop-k.invariant.size in
    let factor : ℤ = passed c.args.c in
    filled_more (new_high factor lows highs) c.loop-k.k highs c.loop-k.highs c.lifted.result
    (omega (arith, size, c.loop-k-test.true, c.requires.at_most)) c.loop-k.invariant
    (high_value factor c.lifted.result lows highs c.loop-k.highs c.loop-k.k (c.loop-k.k + 1)
    (omega (arith, c.loop-k-test.true))
    (omega (arith, c.loop-k-test.true, c.requires.at_most)) (omega (arith, c.loop-k-test.true))
    (omega (arith, c.loop-k-test.true))
    c.requires.lows c.loop-k.invariant c.lifted.ensures.value)
    c.lifted.ensures.within

last_filled : (c : goal.After-lifted-then-inner-highs) →
    Filled (new_high (passed c.args.c) c.args.lows.now c.args.highs.now)
    (length c.args.lows.now - 1 + 1) c.args.highs.now
    (set c.loop-k.highs (length c.args.lows.now - 1) (passed c.lifted-then-inner-highs.result))
last_filled c =
    let lows : List ℤ = c.args.lows.now in
    let highs : List ℤ = c.args.highs.now in
    let size = c.loop-k.invariant.size in
    let factor : ℤ = passed c.args.c in
    let last : c.loop-k.k ≡ length lows - 1 =
    omega (arith, c.loop-k-test.false, c.loop-k.auto.k-end) in
    let inside : length lows - 1 < length highs = omega (arith, c.if-inner-highs.true, size) in
    let value = rw (← last) at c.lifted-then-inner-highs.ensures.value in
    filled_last (new_high factor lows highs) c.loop-k.k
    (length lows - 1) highs c.loop-k.highs c.lifted-then-inner-highs.result last
    (omega (arith, size, inside, last)) c.loop-k.invariant
    (high_value factor c.lifted-then-inner-highs.result lows highs c.loop-k.highs c.loop-k.k c.loop-k.k (omega (arith, last))
    (omega (arith, inside, last)) (omega (arith, last, c.requires.some, c.requires.at_least))
    (omega (arith, last, c.requires.some, c.requires.at_least))
    c.requires.lows c.loop-k.invariant value)
    c.lifted-then-inner-highs.ensures.within

pub returns-then-inner-highs-clause-value : goal.returns-then-inner-highs-clause-value
returns-then-inner-highs-clause-value c = λ xs apart.
    let lows : List ℤ = c.args.lows.now in
    let highs : List ℤ = c.args.highs.now in
    let new : List ℤ = set c.loop-k.highs (length lows - 1)
    (passed c.lifted-then-inner-highs.result) in
    subst (λ z. IsApart (lift z 1 xs) lows new) (passed_fits c.args.c c.ranges.c)
    (highs_lifted (passed c.args.c) (length lows - 1 + 1) xs lows highs new
    (omega (arith, c.requires.at_least, c.requires.some)) (last_filled c) apart)

pub returns-else-inner-highs-clause-value : goal.returns-else-inner-highs-clause-value
returns-else-inner-highs-clause-value c = λ xs apart.
    let lows : List ℤ = c.args.lows.now in
    let highs : List ℤ = c.args.highs.now in
    let size = c.loop-k.invariant.size in
    subst (λ z. IsApart (lift z 1 xs) lows c.loop-k.highs) (passed_fits c.args.c c.ranges.c)
    (highs_lifted (passed c.args.c) c.loop-k.k xs lows highs c.loop-k.highs
    (omega (arith, size, c.if-inner-highs.false, c.loop-k-test.false)) c.loop-k.invariant apart)

pub returns-then-inner-highs-clause-within : goal.returns-then-inner-highs-clause-within
returns-then-inner-highs-clause-within c = let l = last_filled c in l.within
