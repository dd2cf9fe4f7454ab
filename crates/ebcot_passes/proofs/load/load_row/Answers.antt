use Rattle.std.proofs.Common.{ℕ, ◌+◌, ◌*◌, ◌<◌, ◌≡◌, List, length, ap, arith, ◌∙◌, subst}
use Rattle.std.proofs.lemmas.List.{length-set}
use Rattle.dz_quantiser.specs.Coefficient.{Coefficient}
use Rattle.dz_quantiser.specs.Coefficient.{word_of as coefficient_word}
use Rattle.distortion_sums.specs.Coefs.{coefs_of}
use Rattle.ebcot_passes.proofs.Loading.{loaded_next, word_is}
use Rattle.ebcot_passes.proofs.load.load_row.Goals as goal

pub loop-x-preserved : goal.loop-x-preserved
loop-x-preserved g c =
    let w : ℕ = g.C.Coefs.columns c.args.block.now in
    let cells : List Coefficient = g.C.Coefs.cells c.args.block.now in
    let wide = g.met.C.Coefs.wide c.args.block.now in
    let high = g.met.C.Coefs.high c.args.block.now in
    let column : c.loop-x.x < w =
    subst (λ (v : ℕ). c.loop-x.x < v) c.width-x-end.ensures c.loop-x-test.true in
    let row = c.requires.row in
    let long : length c.loop-x.grid ≡ 1024 = c.loop-x.invariant.long in
    record {
      long = length-set c.loop-x.grid (32 * c.args.y + c.loop-x.x) c.word.result ∙ long;
      before = loaded_next w c.args.y c.loop-x.x (coefs_of cells)
          c.loop-x.grid c.word.result column wide.1 (omega arith)
          (c.word.ensures ∙ ap coefficient_word c.coef.ensures
          ∙ word_is cells (c.args.y * w + c.loop-x.x))
          c.loop-x.invariant.before;
    }
