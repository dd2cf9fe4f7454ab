use Rattle.std.proofs.Common.{ℕ, ◌≡◌, Bool, List, arith, ◌∙◌}
use Rattle.dz_quantiser.specs.Coefficient.{Coefficient}
use Rattle.ebcot_contexts.specs.Meaning.{IsBlock}
use Rattle.distortion_sums.specs.Coefs.{coefs_of}
use Rattle.ebcot_passes.proofs.Loading.{block_fits, start_is, all_rows}
use Rattle.ebcot_passes.proofs.undecoded.undecoded_distortion.Goals as goal

pub returns : goal.returns
returns g c = λ s wide high planes.
    let w : ℕ = g.C.Coefs.columns c.args.block.now in
    let h : ℕ = g.C.Coefs.rows c.args.block.now in
    let cells : List Coefficient = g.C.Coefs.cells c.args.block.now in
    let coefs : List (ℕ × Bool) = coefs_of cells in
    let fits : IsBlock coefs s =
    block_fits cells s h w planes (g.met.C.Coefs.whole c.args.block.now) wide high in
    let end = c.loop-y-test.false in
    let most = c.loop-y.auto.y-end in
    let all : c.loop-y.y ≡ h = omega (arith, c.height-y-end.ensures) in
    start_is coefs s c.loop-y.sum fits
    (c.loop-y.invariant.sum s.planes fits.below
    ∙ all_rows s.planes h w c.loop-y.y cells all (g.met.C.Coefs.whole c.args.block.now))
