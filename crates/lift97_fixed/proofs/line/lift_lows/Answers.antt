use Rattle.std.proofs.Common.{◌≡◌, ◌+◌, ◌-◌, ◌<◌, ℤ, List, length, arith, refl, subst}
use Rattle.std.proofs.Math.ListN.{set}
use Rattle.lift97_fixed.specs.Apart.{IsApart}
use Rattle.lift97_fixed.specs.Line.{lift}
use Rattle.lift97_fixed.proofs.Casts.{passed, passed_fits}
use Rattle.lift97_fixed.proofs.ApartLemmas.{Filled, new_low, filled_none, filled_more, filled_last}
use Rattle.lift97_fixed.proofs.ApartLemmas.{low_value, lows_lifted}
use Rattle.lift97_fixed.proofs.line.lift_lows.Goals as goal

pub loop-k-init : goal.loop-k-init
loop-k-init c =
    let lows : List ℤ = c.args.lows.now in
    let highs : List ℤ = c.args.highs.now in
    let factor : ℤ = passed c.args.c in
    let none : Filled (new_low factor lows highs) 0 lows lows =
    filled_none (new_low factor lows highs) lows c.requires.lows in
    filled_more (new_low factor lows highs) 0 lows lows c.lifted.result
    (omega (arith, c.requires.some, c.requires.at_least)) none
    (low_value factor c.lifted.result lows highs lows 0 0 0 refl (omega arith)
    (omega (arith, c.requires.some, c.requires.at_least))
    c.requires.some c.requires.some c.requires.highs none c.lifted.ensures.value)
    c.lifted.ensures.within

pub loop-k-preserved : goal.loop-k-preserved
loop-k-preserved c =
    let lows : List ℤ = c.args.lows.now in
    let highs : List ℤ = c.args.highs.now in
    let size = c.loop-k.invariant.size in
    let factor : ℤ = passed c.args.c in
    let r : ℤ = c.lifted-in-loop-k.result in
    filled_more (new_low factor lows highs) c.loop-k.k lows c.loop-k.lows r
    (omega (arith, size, c.loop-k-test.true, c.requires.at_least)) c.loop-k.invariant
    (low_value factor r lows highs c.loop-k.lows c.loop-k.k (c.loop-k.k - 1) c.loop-k.k refl
    (omega (arith, c.loop-k-test.true))
    (omega (arith, c.loop-k-test.true, c.requires.at_least))
    (omega (arith, c.loop-k-test.true)) c.loop-k-test.true
    c.requires.highs c.loop-k.invariant c.lifted-in-loop-k.ensures.value)
    c.lifted-in-loop-k.ensures.within

last_filled : (c : goal.After-lifted-then-inner-lows) →
    Filled (new_low (passed c.args.c) c.args.lows.now c.args.highs.now)
    (length c.args.highs.now + 1) c.args.lows.now
    (set c.loop-k.lows (length c.args.highs.now) (passed c.lifted-then-inner-lows.result))
last_filled c =
    let lows : List ℤ = c.args.lows.now in
    let highs : List ℤ = c.args.highs.now in
    let size = c.loop-k.invariant.size in
    let factor : ℤ = passed c.args.c in
    let r : ℤ = c.lifted-then-inner-lows.result in
    let last : c.loop-k.k ≡ length highs =
    omega (arith, c.loop-k-test.false, c.loop-k.auto.k-end) in
    let inside : length highs < length lows = omega (arith, c.if-inner-lows.true, size) in
    let value = rw (← last) at c.lifted-then-inner-lows.ensures.value in
    filled_last (new_low factor lows highs) c.loop-k.k (length highs) lows c.loop-k.lows r last
    (omega (arith, size, inside, last)) c.loop-k.invariant
    (low_value factor r lows highs c.loop-k.lows c.loop-k.k (c.loop-k.k - 1) (c.loop-k.k - 1) refl
    (omega (arith, last))
    (omega (arith, inside, last)) (omega (arith, last, c.requires.some))
    (omega (arith, last, c.requires.some))
    c.requires.highs c.loop-k.invariant value)
    c.lifted-then-inner-lows.ensures.within

pub returns-then-inner-lows-clause-value : goal.returns-then-inner-lows-clause-value
returns-then-inner-lows-clause-value c = λ xs apart.
    let lows : List ℤ = c.args.lows.now in
    let highs : List ℤ = c.args.highs.now in
    let new : List ℤ = set c.loop-k.lows (length highs) (passed c.lifted-then-inner-lows.result) in
    subst (λ z. IsApart (lift z 0 xs) new highs) (passed_fits c.args.c c.ranges.c)
    (lows_lifted (passed c.args.c)
    (length highs + 1) xs lows highs new c.requires.some c.requires.at_most
    (last_filled c) apart)

pub returns-then-inner-lows-clause-within : goal.returns-then-inner-lows-clause-within
returns-then-inner-lows-clause-within c = let l = last_filled c in l.within

pub returns-else-inner-lows-clause-value : goal.returns-else-inner-lows-clause-value
returns-else-inner-lows-clause-value c = λ xs apart.
    let lows : List ℤ = c.args.lows.now in
    let highs : List ℤ = c.args.highs.now in
    let size = c.loop-k.invariant.size in
    subst (λ z. IsApart (lift z 0 xs) c.loop-k.lows highs) (passed_fits c.args.c c.ranges.c)
    (lows_lifted (passed c.args.c) c.loop-k.k xs lows highs c.loop-k.lows c.requires.some
    (omega (arith, size, c.if-inner-lows.false, c.loop-k-test.false)) c.loop-k.invariant apart)
