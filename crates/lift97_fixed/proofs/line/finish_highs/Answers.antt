use Rattle.std.proofs.Common.{ℤ, pos, List, arith}
use Rattle.lift97_fixed.specs.Line.{at, scaled, scaling}
use Rattle.lift97_fixed.proofs.ApartLemmas.{filled_more, stripped_scale}
use Rattle.lift97_fixed.proofs.line.finish_highs.Goals as goal

pub loop-k-preserved : goal.loop-k-preserved
loop-k-preserved c =
    let highs : List ℤ = c.args.highs.now in
    let size = c.loop-k.invariant.size in
    filled_more (λ j. scaled scaling (at highs j)) c.loop-k.k c.args.line.now c.loop-k.line c.scaled.result
    (omega (arith, size, c.loop-k-test.true, c.requires.same)) c.loop-k.invariant
    (stripped_scale scaling c.scaled.result (at highs c.loop-k.k)
    (c.requires.highs c.loop-k.k (pos 0) c.loop-k-test.true) c.scaled.ensures.value)
    c.scaled.ensures.within
