use Rattle.std.proofs.Common.{◌≡◌, ◌+◌, ◌-◌, ◌<◌, ℤ, List, length, arith, refl}
use Rattle.std.proofs.Math.ListN.{set}
use Rattle.lift97_fixed.proofs.Casts.{passed}
use Rattle.lift97_fixed.proofs.ApartLemmas.{Filled, final_low, filled_none, filled_more, filled_last}
use Rattle.lift97_fixed.proofs.ApartLemmas.{final_value}
use Rattle.lift97_fixed.proofs.line.finish_lows.Goals as goal

pub loop-k-init : goal.loop-k-init
loop-k-init c =
    let lows : List ℤ = c.args.lows.now in
    let highs : List ℤ = c.args.highs.now in
    let line : List ℤ = c.args.line.now in
    filled_more (final_low lows highs) 0 line line c.low_sample.result
    (omega (arith, c.requires.some, c.requires.at_least, c.requires.same))
    (filled_none (final_low lows highs) line c.requires.cells)
    (final_value c.low_sample.result lows highs 0 0 0 refl (omega arith)
    (omega (arith, c.requires.some, c.requires.at_least)) c.requires.some c.requires.some
    c.requires.lows c.requires.highs c.low_sample.ensures.value)
    c.low_sample.ensures.within

pub loop-k-preserved : goal.loop-k-preserved
loop-k-preserved c =
    let lows : List ℤ = c.args.lows.now in
    let highs : List ℤ = c.args.highs.now in
    let size = c.loop-k.invariant.size in
    let r : ℤ = c.low_sample-in-loop-k.result in
    filled_more (final_low lows highs) c.loop-k.k c.args.line.now c.loop-k.line r
    (omega (arith, size, c.loop-k-test.true, c.requires.at_least, c.requires.same)) c.loop-k.invariant
    (final_value r lows highs c.loop-k.k (c.loop-k.k - 1) c.loop-k.k refl
    (omega (arith, c.loop-k-test.true)) (omega (arith, c.loop-k-test.true, c.requires.at_least))
    (omega (arith, c.loop-k-test.true)) c.loop-k-test.true
    c.requires.lows c.requires.highs c.low_sample-in-loop-k.ensures.value)
    c.low_sample-in-loop-k.ensures.within

last_filled : (c : goal.After-low_sample-then-inner-lows) →
    Filled (final_low c.args.lows.now c.args.highs.now)
    (length c.args.highs.now + 1) c.args.line.now
    (set c.loop-k.line (length c.args.highs.now) (passed c.low_sample-then-inner-lows.result))
last_filled c =
    let lows : List ℤ = c.args.lows.now in
    let highs : List ℤ = c.args.highs.now in
    let size = c.loop-k.invariant.size in
    let r : ℤ = c.low_sample-then-inner-lows.result in
    let last : c.loop-k.k ≡ length highs =
    omega (arith, c.loop-k-test.false, c.loop-k.auto.k-end) in
    let inside : length highs < length lows = omega (arith, c.if-inner-lows.true) in
    let value = rw (← last) at c.low_sample-then-inner-lows.ensures.value in
    filled_last (final_low lows highs) c.loop-k.k (length highs) c.args.line.now c.loop-k.line r last
    (omega (arith, size, inside, last, c.requires.same)) c.loop-k.invariant
    (final_value r lows highs c.loop-k.k (c.loop-k.k - 1) (c.loop-k.k - 1) refl (omega (arith, last))
    (omega (arith, inside, last)) (omega (arith, last, c.requires.some))
    (omega (arith, last, c.requires.some)) c.requires.lows c.requires.highs value)
    c.low_sample-then-inner-lows.ensures.within

pub returns-then-inner-lows-clause-value : goal.returns-then-inner-lows-clause-value
returns-then-inner-lows-clause-value c = λ j lt. let l = last_filled c in
    l.done j (omega (arith, lt, c.requires.at_most))

pub returns-then-inner-lows-clause-within : goal.returns-then-inner-lows-clause-within
returns-then-inner-lows-clause-within c = let l = last_filled c in l.within

pub returns-else-inner-lows-clause-value : goal.returns-else-inner-lows-clause-value
returns-else-inner-lows-clause-value c = λ j lt.
    c.loop-k.invariant.done j (omega (arith, lt, c.if-inner-lows.false, c.loop-k-test.false))
