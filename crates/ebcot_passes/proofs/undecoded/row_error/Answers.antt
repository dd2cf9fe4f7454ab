use Rattle.std.proofs.Common.{ℕ, suc, ◌+◌, ◌*◌, ◌^◌, ◌<◌, ◌≡◌, Bool, List, get_or, ap, arith, ◌∙◌, sym, subst}
use Rattle.dz_quantiser.specs.Coefficient.{Coefficient, zero_coefficient}
use Rattle.dz_quantiser.specs.Error.{squared_error}
use Rattle.distortion_sums.specs.Coefs.{coefs_of}
use Rattle.distortion_sums.specs.Places.{start_sum}
use Rattle.ebcot_passes.proofs.Loading.{coef_is, row_place, sum_next}
use Rattle.ebcot_passes.proofs.undecoded.row_error.Goals as goal

pub loop-x-preserved : goal.loop-x-preserved
loop-x-preserved g c =
    let w : ℕ = g.C.Coefs.columns c.args.block.now in
    let h : ℕ = g.C.Coefs.rows c.args.block.now in
    let cells : List Coefficient = g.C.Coefs.cells c.args.block.now in
    let wide = g.met.C.Coefs.wide c.args.block.now in
    let high = g.met.C.Coefs.high c.args.block.now in
    let whole = g.met.C.Coefs.whole c.args.block.now in
    let column : c.loop-x.x < w =
    subst (λ (v : ℕ). c.loop-x.x < v) c.width-x-end.ensures c.loop-x-test.true in
    let row = c.requires.row in
    let n : ℕ = c.args.y * w + c.loop-x.x in
    let inside : n < h * w = row_place w h c.args.y c.loop-x.x column row in
    let next : suc n ≡ c.args.y * w + (c.loop-x.x + 1) = omega arith in
    let magnitude : c.magnitude.result ≡ (get_or cells n zero_coefficient).magnitude =
    c.magnitude.ensures.value ∙ ap (λ (q : Coefficient). q.magnitude) c.coef.ensures in
    let error = c.undecoded_error-sum.ensures.small in
    let few = c.loop-x.invariant.few in
    record {
      sum = λ planes small.
          subst (λ (k : ℕ). start_sum planes (c.args.y * w) (coefs_of cells)
          + (c.loop-x.sum + c.undecoded_error-sum.result) ≡ start_sum planes k (coefs_of cells))
          next
          (sum_next planes n (start_sum planes (c.args.y * w) (coefs_of cells)) c.loop-x.sum
          c.undecoded_error-sum.result cells (omega arith)
          (c.undecoded_error-sum.ensures.value planes
          (subst (λ (m : ℕ). m < 2 ^ planes)
          (ap (λ (q : ℕ × Bool). q.0) (coef_is cells n) ∙ sym magnitude) (small n))
          ∙ ap (λ (m : ℕ). squared_error m planes) magnitude)
          (c.loop-x.invariant.sum planes small));
      few = omega arith;
    }
